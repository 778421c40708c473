-- A listing's rows are the definition's, because these stand in front of the room after a call. Assumes nothing.
use mathlib.Core.List.{List, [], ◌∷◌, ◌++◌, map}
use mathlib.Core.Path.{◌≡◌, refl, ap, ◌∙◌}
use Prim.Native.Nat.{◌*◌}
use lib.IntN.{ℤ}
use lib.ListN.{length, drop}
use Rattle.syntax.specs.Numbers.{row_width, numbers}
use Rattle.syntax.specs.Place.{flatten}
use Rattle.syntax.specs.Run.{Row}
use Rattle.ac3.specs.Promise.{listed}
use Rattle.ac3.proofs.Promise.{promised}
use Rattle.lister.specs.Listed.{stored, rows_in, ListsTheRows}

in_front_lem : (rs : List Row) (rest : List ℤ) → rows_in (length rs) (flatten rs ++ rest) ≡ map (λ r. map stored (numbers r)) rs
unfolding rows_in flatten
in_front_lem [] rest = refl
in_front_lem (r ∷ rs) rest = ap (λ l. map stored (numbers r) ∷ l) (in_front_lem rs rest)

pub lists_the_rows : ListsTheRows
lists_the_rows c =
    let p = promised c refl in
    (λ i. rows_in (p.counted i) (p.written i)) ∙ in_front_lem (listed c) (drop (length (listed c) * row_width) c.room)
