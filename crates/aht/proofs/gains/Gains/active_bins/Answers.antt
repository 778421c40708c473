-- What the filter keeps is what the definition counts.
use Rattle.std.proofs.Common.{◌≡◌, List, [], ◌∷◌, ℕ, ◌+◌, cond, refl, ◌∙◌, ap, rules, tests}
use Rattle.std.specs.List.{count_by}
use Rattle.std.proofs.lemmas.Iterator.{YieldsList-from_slice}
use Rattle.std.proofs.lemmas.Iterator.Consumers.{count_from_yields_List, YieldsList-from_filter}
use Rattle.std.proofs.lemmas.List.Sums.{length-filter, sum_by-cons}
use Rattle.aht.specs.Aht.{is_active, active_bins}
use Rattle.aht.proofs.gains.Gains.active_bins.Goals as goal

count_by-is_active : (gaqmod : ℕ) (hebap : List ℕ) → count_by (is_active gaqmod) hebap ≡ active_bins gaqmod hebap
unfolding active_bins
count_by-is_active gaqmod [] = refl
count_by-is_active gaqmod (h ∷ hs) = sum_by-cons (λ x. cond (is_active gaqmod x) 1 0) h hs ∙ ap (λ n. cond (is_active gaqmod h) 1 0 + n) (count_by-is_active gaqmod hs)

pub returns : goal.returns
returns c =
    count_from_yields_List c.filter.result _ c.count.ensures.ran
    (YieldsList-from_filter _ (is_active c.args.self.gaqmod) (YieldsList-from_slice c.args.hebap.now cc) c.filter.ensures.closure (λ x r q k. search (rules, tests)))
    ∙ length-filter (is_active c.args.self.gaqmod) c.args.hebap.now
    ∙ count_by-is_active c.args.self.gaqmod c.args.hebap.now
