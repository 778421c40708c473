-- `channels::coupling::how_many` meets its contract: what the filter lets through is counted. Assumes nothing.
use mathlib.Core.Path.{◌≡◌, refl}
use Prim.Native.Nat.{◌+◌}
use mathlib.Core.Bool.{Bool, true, false, cond}
use mathlib.Core.List.{List, ◌∷◌}
use Rattle.std.proofs.Common.{rules}
use Rattle.std.proofs.lemmas.List.Recursion.{is_count_by}
use Rattle.channels.specs.Coupling.{how_many}
use Rattle.channels.proofs.coupling.how_many.Goals as goal

one_more : (b : Bool) (l : List Bool) → how_many (b ∷ l) ≡ cond b (1 + how_many l) (how_many l)
unfolding how_many
one_more true l = refl
one_more false l = refl

pub returns : goal.returns
unfolding how_many
returns c = search (rules, is_count_by how_many (λ b. b) refl one_more)
