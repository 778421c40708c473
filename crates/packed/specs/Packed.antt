-- Reading a packed listing byte by byte. TooLarge, 42: the group that makes a stored number too large. NeedlessGroup, 41: a last group of 0
-- that is not the only one. WrongValue, 46: the end of a row count of -1, or of what is neither `audio` nor `refused`. Incomplete, 43: the
-- end before the last number's. Trailing, 44: a byte after it.
use Rattle.std.specs.Prelude.{cond, Option, Some, None, List, [], ◌∷◌, ◌++◌, ℕ, ◌+◌, ◌-◌, ◌*◌, ◌%◌, ◌^◌, min, eqb, ltb, leb, take, drop}
use Rattle.packed.specs.declared.Group.{Group}
use Rattle.packed.specs.declared.Group.TheVariants.{Going, Whole, Bad}
use Rattle.packed.specs.declared.Place.{Place}
use Rattle.packed.specs.declared.Place.TheVariants.{Count, Cell, Kind, Tail}
use Rattle.packed.specs.declared.Packed.{Packed}
use Rattle.packed.specs.declared.Packed.TheVariants.{At, Done, Halt}
use Rattle.packed.specs.declared.Refusal.TheVariants.{NeedlessGroup, TooLarge, Trailing, WrongValue}
use Rattle.packed.specs.Answers.{number}
use Rattle.packed.specs.Machine.{after, told}
use Rattle.listing.specs.Number.{signed, separator, letters}

-- ---- a stored number: n so far, of k groups. From the sixth on, groups weigh alike: none but 0 fits.

abbrev pub weight : ℕ → ℕ
weight k = 128 ^ min k 5

abbrev pub group : ℕ → ℕ → ℕ → Group
group n k b =
    let m = n + b % 128 * weight k in
    cond (leb m 2147483648)
    (cond (ltb b 128)
    (cond (eqb b 0) (cond (eqb k 0) (Whole m) (Bad NeedlessGroup)) (Whole m))
    (Going m (min (k + 1) 5)))
    (Bad TooLarge)

-- ---- places: the row count; a row's number, with the rows after its row and the numbers after it in its row; the kind of the last
-- line; a number of the last line, with those after it

-- the place after a whole row, where so many rows follow
abbrev pub rows_on : ℕ → Packed
rows_on rows = cond (eqb rows 0) (At Kind 0 0) (At (Cell (rows - 1) 8) 0 0)

-- after a whole number v at a place
abbrev pub reached : Place → ℕ → Packed
reached Count v = cond (eqb v 0) (Halt WrongValue) (rows_on (v - 1))
reached (Cell rows left) v = cond (eqb left 0) (rows_on rows) (At (Cell rows (left - 1)) 0 0)
reached Kind v = cond (eqb v 1) (At (Tail 2) 0 0) (cond (eqb v 2) (At (Tail 4) 0 0) (Halt WrongValue))
reached (Tail left) v = cond (eqb left 0) Done (At (Tail (left - 1)) 0 0)

abbrev pub grouping : Place → Group → Packed
grouping p (Going n k) = At p n k
grouping p (Whole v) = reached p v
grouping p (Bad refusal) = Halt refusal

abbrev pub step : Packed → ℕ → Packed
step (At p n k) b = grouping p (group n k b)
step Done b = Halt Trailing
step (Halt refusal) b = Halt refusal

-- ---- the text told on the way

abbrev pub say : Place → ℕ → List ℕ
say Count v = []
say (Cell rows left) v = signed v ++ (separator left ∷ [])
say Kind v = cond (eqb v 1) (take 6 letters) (drop 6 letters)
say (Tail left) v = signed v ++ (separator left ∷ [])

abbrev pub spoken : Place → Group → List ℕ
spoken p (Going n k) = []
spoken p (Whole v) = say p v
spoken p (Bad refusal) = []

-- a spoken number, as the code has it
abbrev pub heard : Option (Place × ℕ) → List ℕ
heard None = []
heard (Some x) = say x.0 x.1

abbrev pub tell : Packed → ℕ → List ℕ
tell (At p n k) b = spoken p (group n k b)
tell Done b = []
tell (Halt refusal) b = []

-- ---- the whole

abbrev pub verdict : Packed → ℕ
verdict (At p n k) = 43
verdict Done = 0
verdict (Halt refusal) = number refusal

abbrev pub packed_verdict : List ℕ → ℕ
packed_verdict bytes = verdict (after step (At Count 0 0) bytes)

abbrev pub packed_text : List ℕ → List ℕ
packed_text bytes = told step tell (At Count 0 0) bytes
