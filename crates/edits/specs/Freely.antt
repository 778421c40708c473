-- What an editor may rely on who holds only what was lent: new bits in rows of editable names change the values of those rows, and nothing
-- else. It extends the last sentence of demand 3 (`ac3/specs/Rooms`: `rooms_same`), which is about spans alone.
use Rattle.std.specs.Prelude.{Bool, cond, ◌||◌, List, ◌++◌, ◌≡◌, ℕ, zero, suc, ◌+◌, ◌*◌, ◌^◌, ◌<◌, T, ℤ, pos}
use Rattle.std.proofs.Math.ListN as list
use Rattle.bits.specs.Bits.{bit_at, value}
use Rattle.syntax.specs.Names.{editable}
use Rattle.syntax.specs.Numbers.{row_width}
use Rattle.ac3.specs.Marked.{among}
use Rattle.ac3.specs.Promise.{Call, call, input, answer_to, Accepted}
use Rattle.ac3.specs.Rooms.{said, front_is_span, FrontHolds, row_count, end_bit}
use Rattle.rows.specs.Found.{row_at}
use Rattle.rows.specs.Look.{name_column, value_column}
use Rattle.edits.specs.Edits.{set}

-- ---- the row at the front of a room

abbrev pub front_is_editable : List ℤ → Bool
front_is_editable room = among (said name_column room) editable

-- with what t has for its value, where its name is editable
abbrev pub reread_front : List ℕ → List ℤ → List ℤ
reread_front t room = cond (front_is_editable room) (list.set room value_column (pos (value t (said 5 room) (said 6 room)))) room

-- ---- the first n rows of a room

-- bit p lies in none that is editable or a span
abbrev pub OutsideEditable : (n : ℕ) → List ℤ → ℕ → Type 0
OutsideEditable zero room p = Unit {0}
OutsideEditable (suc n) room p = (T (front_is_editable room || front_is_span room) → ¬ FrontHolds room p) × OutsideEditable n (list.drop row_width room) p

-- the room with the values of its editable rows read anew; every other number is as it was
unfoldable pub reread_room : List ℕ → (n : ℕ) → List ℤ → List ℤ
reread_room t zero room = room
reread_room t (suc n) room = reread_front t (list.take row_width room) ++ reread_room t n (list.drop row_width room)

-- ---- the theorems

-- d is c with other bits, as many, in editable rows, in spans, or from the end of the audio on
pub record Edited (c d : Call) : Type 0 where
  pub long : list.length (input c) ≡ list.length (input d)
  pub room : c.room ≡ d.room
  pub bits : (p : ℕ) → p < end_bit c → OutsideEditable (row_count c) (answer_to c).1 p → bit_at (input c) p ≡ bit_at (input d) p

-- the same answer, so accepted, and the same room but for the values of editable rows, which are the new bits
abbrev pub EditFreely : Type 0
EditFreely = (c d : Call) → Accepted c → Edited c d → answer_to d ≡ ((answer_to c).0, reread_room (input d) (row_count c) (answer_to c).1)

-- row i of the room after a call
abbrev pub held_row : Call → ℕ → List ℤ
held_row c i = row_at i (answer_to c).1

-- a value set in row i, at the position and of the width that the row says
abbrev pub set_in : Call → (i v : ℕ) → ℕ × List ℕ
set_in c i v = set c.capture c.place (said 5 (held_row c i)) (said 6 (held_row c i)) v

-- is set, and the call with that capture has the same answer and the same room but for this one number
pub record Sets (c : Call) (i v : ℕ) : Type 0 where
  pub done : (set_in c i v).0 ≡ 0
  pub answer : answer_to (call (set_in c i v).1 c.place c.room) ≡ ((answer_to c).0, list.set (answer_to c).1 (i * row_width + value_column) (pos v))

abbrev pub SetFreely : Type 0
SetFreely = (c : Call) (i v : ℕ) → Accepted c → i < row_count c → T (front_is_editable (held_row c i)) → v < 2 ^ said 6 (held_row c i) → Sets c i v
