-- Reading a listing's text byte by byte. Malformed, 40: a byte with which no listing goes on. TooLarge, 42: the digit that makes a number
-- too large, or the end of the row that is one too many. Incomplete, 43: the end before the last line's. Trailing, 44: a byte after it.
use Rattle.std.specs.Prelude.{cond, List, [], ◌∷◌, ◌++◌, ℕ, ◌+◌, ◌-◌, ◌*◌, eqb, ltb, get_or}
use Rattle.packed.specs.declared.Part.{Part}
use Rattle.packed.specs.declared.Part.TheVariants.{Fresh, Minus, Closed, Open}
use Rattle.packed.specs.declared.Next.{Next}
use Rattle.packed.specs.declared.Next.TheVariants.{More, Ended, Wrong}
use Rattle.packed.specs.declared.Text.{Text}
use Rattle.packed.specs.declared.Text.TheVariants.{Line, Row, Word, Last, End, Stop}
use Rattle.packed.specs.declared.Refusal.TheVariants.{Malformed, TooLarge, Trailing}
use Rattle.packed.specs.Answers.{number}
use Rattle.packed.specs.Machine.{after, told}
use Rattle.listing.specs.Number.{groups, separator, letters}
use Rattle.listing.specs.Listing.{grouped}

-- ---- a number: nothing read of it; `-`; a number that no digit may follow, stored; digits, by their value

abbrev pub digit : ℕ → Next → Next
digit b then = cond (ltb b 48) (Wrong Malformed) (cond (ltb 57 b) (Wrong Malformed) then)

abbrev pub grown : ℕ → Next
grown n = cond (ltb n 2147483648) (More (Open n)) (Wrong TooLarge)

-- a byte b, where the number's line goes on with the separator s
abbrev pub next : Part → ℕ → ℕ → Next
next Fresh s b = cond (eqb b 45) (More Minus) (cond (eqb b 48) (More (Closed 1)) (digit b (More (Open (b - 48)))))
next Minus s b = cond (eqb b 49) (More (Closed 0)) (Wrong Malformed)
next (Closed v) s b = cond (eqb b s) (Ended v) (Wrong Malformed)
next (Open n) s b = cond (eqb b s) (Ended (n + 1)) (digit b (grown (n * 10 + (b - 48))))

-- ---- lines: each state holds the count of the rows before it, stored

-- at the end of a row
abbrev pub row_end : ℕ → Text
row_end rows = cond (ltb rows 2147483648) (Line (rows + 1)) (Stop TooLarge)

-- a row's number, which `left` others follow
abbrev pub row_on : ℕ → ℕ → Next → Text
row_on rows left (More p) = Row rows left p
row_on rows left (Ended v) = cond (eqb left 0) (row_end rows) (Row rows (left - 1) Fresh)
row_on rows left (Wrong refusal) = Stop refusal

abbrev pub last_on : ℕ → ℕ → Next → Text
last_on rows left (More p) = Last rows left p
last_on rows left (Ended v) = cond (eqb left 0) (End rows) (Last rows (left - 1) Fresh)
last_on rows left (Wrong refusal) = Stop refusal

-- after the letter at a place; three numbers stand behind `audio `, five behind `refused `
abbrev pub lettered : ℕ → ℕ → Text
lettered rows at = cond (eqb at 5) (Last rows 2 Fresh) (cond (ltb at 13) (Word rows (at + 1)) (Last rows 4 Fresh))

abbrev pub step : Text → ℕ → Text
step (Line rows) b = cond (eqb b 97) (Word rows 1) (cond (eqb b 114) (Word rows 7) (row_on rows 8 (next Fresh 32 b)))
step (Row rows left p) b = row_on rows left (next p (separator left) b)
step (Word rows at) b = cond (eqb b (get_or letters at 0)) (lettered rows at) (Stop Malformed)
step (Last rows left p) b = last_on rows left (next p (separator left) b)
step (End rows) b = Stop Trailing
step (Stop refusal) b = Stop refusal

-- ---- the numbers told on the way, stored

abbrev pub ended : Next → List ℕ
ended (More p) = []
ended (Ended v) = v ∷ []
ended (Wrong refusal) = []

abbrev pub yields : Text → ℕ → List ℕ
yields (Line rows) b = cond (eqb b 97) (1 ∷ []) (cond (eqb b 114) (2 ∷ []) [])
yields (Row rows left p) b = ended (next p (separator left) b)
yields (Word rows at) b = []
yields (Last rows left p) b = ended (next p (separator left) b)
yields (End rows) b = []
yields (Stop refusal) b = []

abbrev pub tell : Text → ℕ → List ℕ
tell s b = grouped (yields s b)

-- ---- the whole text

abbrev pub verdict : Text → ℕ
verdict (Line rows) = 43
verdict (Row rows left p) = 43
verdict (Word rows at) = 43
verdict (Last rows left p) = 43
verdict (End rows) = 0
verdict (Stop refusal) = number refusal

-- the row count of a whole text, stored
abbrev pub count : Text → ℕ
count (Line rows) = 0
count (Row rows left p) = 0
count (Word rows at) = 0
count (Last rows left p) = 0
count (End rows) = rows
count (Stop refusal) = 0

abbrev pub text_verdict : List ℕ → ℕ
text_verdict bytes = verdict (after step (Line 1) bytes)

abbrev pub text_packed : List ℕ → List ℕ
text_packed bytes = groups (count (after step (Line 1) bytes)) ++ told step tell (Line 1) bytes
