-- The listing of a call: the rows that it left, and a last line that says how it ended. Its two forms, `text` and `packed`, are those of
-- every listing (crate listing).
use Rattle.std.specs.Prelude.{cond, not, List, [], ◌∷◌, ◌++◌, map, ◌≡◌, ℕ, zero, suc, ◌+◌, ◌*◌, eqb, ℤ, pos, negsuc, take, drop, replicate}
use Rattle.syntax.specs.Numbers.{row_width, shown, numbers}
use Rattle.ac3.specs.declared.Answer.{Answer}
use Rattle.ac3.specs.Promise.{Call, call, answer_to, listed}
use Rattle.listing.specs.Listing.{Listing, line, word}

-- a number as a listing stores it: one more; none is below -1
abbrev pub stored : ℤ → ℕ
stored (pos n) = n + 1
stored (negsuc n) = 0

-- the first rows of a room
unfoldable pub rows_in : (count : ℕ) → List ℤ → List (List ℕ)
rows_in zero room = []
rows_in (suc n) room = map stored (take row_width room) ∷ rows_in n (drop row_width room)

-- behind `audio`: rows, bytes of the frame, end of the audio; behind `refused`: the refusal's number, rows, bit, name, block
abbrev pub last_of : Answer → List ℤ
last_of a =
    cond (eqb a.refusal 0)
    (pos a.rows ∷ pos a.summary.header.bytes ∷ pos a.bit ∷ [])
    (pos a.refusal ∷ pos a.rows ∷ pos a.bit ∷ pos a.name ∷ shown a.block ∷ [])

-- of an answer and the room beside it
abbrev pub listing_of : Answer → List ℤ → Listing
listing_of a room = record { rows = rows_in a.rows room; refused = not (eqb a.refusal 0); last = map stored (last_of a) }

-- and the last line of its text
abbrev pub last_line : Answer → List ℕ
last_line a = word (not (eqb a.refusal 0)) ++ line (map stored (last_of a))

-- of a call
abbrev pub listing : Call → Listing
listing c = listing_of (answer_to c).0 (answer_to c).1

-- its rows are the definition's, with each number stored: so none of the room's other numbers is listed, and none is below -1
abbrev pub ListsTheRows : Type 0
ListsTheRows = (c : Call) → (listing c).rows ≡ map (λ r. map stored (numbers r)) (listed c)

-- ---- what the listing programs list: the frame at the start of their input, with room for so many rows

abbrev pub rows_lent : ℕ
rows_lent = 1820

abbrev pub numbers_lent : ℕ
numbers_lent = rows_lent * row_width

abbrev pub frame_call : List ℕ → Call
frame_call frame = call frame 0 (replicate numbers_lent (pos 0))
