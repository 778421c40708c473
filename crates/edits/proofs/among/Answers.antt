-- `edits::among` meets its contract: `any` asks of each name what the definition asks. Assumes nothing.
use Rattle.std.proofs.Common.{ℕ, List, [], ◌∷◌, ◌||◌, ◌≡◌, ◌∙◌, eqb, refl, ap, rules, tests}
use Rattle.std.specs.List.{list_any}
use Rattle.std.proofs.lemmas.Iterator.{YieldsList-from_slice}
use Rattle.std.proofs.lemmas.Iterator.Search.{any_from_yields_List}
use Rattle.ac3.specs.Marked.{among}
use Rattle.edits.proofs.among.Goals as goal

is_among : (name : ℕ) (l : List ℕ) → list_any (λ m. eqb name m) l ≡ among name l
is_among name [] = refl
is_among name (m ∷ l) = ap (λ b. eqb name m || b) (is_among name l)

pub returns : goal.returns
returns c =
    any_from_yields_List (λ m. eqb c.args.name m) _ _ _ c.any.ensures.ran (YieldsList-from_slice c.args.names.now c.iter.ensures.rest) (λ x b q k. search (rules, tests))
    ∙ is_among c.args.name c.args.names.now
