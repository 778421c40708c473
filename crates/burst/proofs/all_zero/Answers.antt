-- `burst::all_zero` meets its contract: `all` asks of each byte what the definition asks. Assumes nothing.
use Rattle.std.proofs.Common.{ℕ, List, [], ◌∷◌, ◌&&◌, ◌≡◌, ◌∙◌, eqb, refl, ap, rules, tests}
use Rattle.std.specs.List.{list_all}
use Rattle.std.proofs.lemmas.Iterator.{YieldsList-from_slice}
use Rattle.std.proofs.lemmas.Iterator.Search.{all_from_yields_List}
use Rattle.burst.specs.Burst.{all_zero}
use Rattle.burst.proofs.all_zero.Goals as goal

is_all_zero : (l : List ℕ) → list_all (λ byte. eqb byte 0) l ≡ all_zero l
unfolding all_zero
is_all_zero [] = refl
is_all_zero (byte ∷ l) = ap (λ b. eqb byte 0 && b) (is_all_zero l)

pub returns : goal.returns
returns c =
    all_from_yields_List (λ byte. eqb byte 0) _ _ _ c.all.ensures.ran (YieldsList-from_slice c.args.s.now c.iter.ensures.rest) (λ x b q k. search (rules, tests))
    ∙ is_all_zero c.args.s.now
