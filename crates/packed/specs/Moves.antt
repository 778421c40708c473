-- How the code goes over a text, by one byte or by a whole number at a time. No part of the definition: it says what a turn of the code is to
-- the definition's reader.
use Rattle.std.specs.Prelude.{◌≡◌, cond, List, [], ◌∷◌, ◌++◌, ℕ, ◌+◌, ◌-◌, ◌≤◌, ◌<◌, eqb, length, drop}
use Rattle.listing.specs.Number.{signed, separator}
use Rattle.packed.specs.declared.Part.{Part}
use Rattle.packed.specs.declared.Part.TheVariants.{Fresh, Minus, Closed, Open}
use Rattle.packed.specs.declared.Next.TheVariants.{Ended}
use Rattle.packed.specs.declared.Text.{Text}
use Rattle.packed.specs.declared.Text.TheVariants.{Line, Row, Word, Last, End, Stop}
use Rattle.packed.specs.declared.Place.{Place}
use Rattle.packed.specs.declared.Place.TheVariants.{Cell, Kind}
use Rattle.packed.specs.declared.Packed.{Packed}
use Rattle.packed.specs.declared.Packed.TheVariants.{At}
use Rattle.packed.specs.declared.Spelt.{Spelt}
use Rattle.packed.specs.Machine.{after, told}
use Rattle.packed.specs.Packed as packed
use Rattle.packed.specs.Text.{row_on, last_on}

-- from the state s at byte i the reader goes to s' at byte i' and tells e
pub record Moves {S : Type 0} (step : S → ℕ → S) (tell : S → ℕ → List ℕ) (bytes : List ℕ) (s : S) (i : ℕ) (e : List ℕ) (s' : S) (i' : ℕ) : Type 0 where
  pub forward : i < i'
  pub within : i' ≤ length bytes
  pub state : after step s (drop i bytes) ≡ after step s' (drop i' bytes)
  pub tells : told step tell s (drop i bytes) ≡ e ++ told step tell s' (drop i' bytes)

-- from byte i on stand a number and the byte s that ends it
abbrev pub SpeltAt : List ℕ → ℕ → ℕ → Spelt → Type 0
SpeltAt bytes i s r =
    (i < r.end) × (r.stored ≤ 2147483648) × (r.end ≤ length bytes) × (drop i bytes ≡ (signed r.stored ++ (s ∷ [])) ++ drop r.end bytes)

-- the byte that ends a number which is to begin here, 0 where none is
abbrev pub fresh_end : Part → ℕ → ℕ
fresh_end Fresh left = separator left
fresh_end Minus left = 0
fresh_end (Closed v) left = 0
fresh_end (Open n) left = 0

abbrev pub number_end : Text → ℕ
number_end (Line rows) = 32
number_end (Row rows left p) = fresh_end p left
number_end (Word rows at) = 0
number_end (Last rows left p) = fresh_end p left
number_end (End rows) = 0
number_end (Stop refusal) = 0

-- after a whole number
abbrev pub numbered : Text → ℕ → Text
numbered (Line rows) v = row_on rows 8 (Ended v)
numbered (Row rows left p) v = row_on rows left (Ended v)
numbered (Word rows at) v = Word rows at
numbered (Last rows left p) v = last_on rows left (Ended v)
numbered (End rows) v = End rows
numbered (Stop refusal) v = Stop refusal

-- where a row's number is to begin, which `left` others follow
abbrev pub cell : ℕ → ℕ → Text
cell rows left = cond (eqb left 8) (Line rows) (Row rows left Fresh)

-- the row count and the numbers that follow, at the number after it
abbrev pub rows_after : ℕ → ℕ → ℕ
rows_after rows left = cond (eqb left 0) (rows + 1) rows

abbrev pub left_after : ℕ → ℕ
left_after left = cond (eqb left 0) 8 (left - 1)

-- ---- a packed listing

-- from byte i on stands a whole number, at whatever place of the listing
abbrev pub StoredAt : List ℕ → ℕ → Spelt → Type 0
StoredAt bytes i r =
    (p : Place) → Moves packed.step packed.tell bytes (At p 0 0) i (packed.say p r.stored) (packed.reached p r.stored) r.end

-- where a row's number is to begin, with so many rows to come, its own among them, and `left` numbers behind it; behind the rows, the kind
abbrev pub spot : ℕ → ℕ → Packed
spot more left = cond (eqb more 0) (At Kind 0 0) (At (Cell (more - 1) left) 0 0)

-- the rows to come at the number after it
abbrev pub rows_left : ℕ → ℕ → ℕ
rows_left more left = cond (eqb left 0) (more - 1) more
