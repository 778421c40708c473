-- Demands 1 and 2, and what demand 3 says of answers: what holds of every answer to a call. A function whose answer and room at exit are
-- `answer capture place room` keeps it (`proofs/Promise.antt`).
use Rattle.std.specs.Prelude.{List, ◌++◌, ◌≡◌, ℕ, ◌*◌, ◌/◌, ◌≤◌, ℤ, length, drop}
use Rattle.bits.specs.Bits.{bits_before}
use Rattle.syntax.specs.declared.Refusal.{Refusal}
use Rattle.syntax.specs.Refusals.{number, name, block}
use Rattle.syntax.specs.Numbers.{row_width}
use Rattle.syntax.specs.Place.{flatten}
use Rattle.syntax.specs.Demand3.{Alike}
use Rattle.syntax.specs.Rows.{is_span, values, Tiles, Agree, ProperBeginning}
use Rattle.syntax.specs.Unfitting.{Neither}
use Rattle.syntax.specs.Run.{Row, Accepts, refused, parse, rows_of, end_of}
use Rattle.ac3.specs.Frame.{syncframe, summary_of, no_summary, answer}
use Rattle.ac3.specs.declared.Answer.{Answer}

-- one call
pub record Call : Type 0 where
  pub capture : List ℕ
  pub place : ℕ
  pub room : List ℤ

abbrev pub call : (capture : List ℕ) (place : ℕ) (room : List ℤ) → Call
call capture place room = record { capture = capture; place = place; room = room }

-- the same call with another room
abbrev pub with_room : List ℤ → Call → Call
with_room room c = record { capture = c.capture; place = c.place; room = room }

-- the part of the capture that starts at the place, and the rows that there is room for
abbrev pub input : Call → List ℕ
input c = drop c.place c.capture

abbrev pub room_for : Call → ℕ
room_for c = length c.room / row_width

-- the definition's list of rows, and the bit that it reaches
abbrev pub listed : Call → List Row
listed c = rows_of syncframe (input c) (room_for c)

abbrev pub bit_of : Call → ℕ
bit_of c = end_of syncframe (input c) (room_for c)

-- the definition reaches audio_end, within the frame and the room
abbrev pub Reaches : Call → Type 0
Reaches c = Accepts syncframe (input c) (room_for c)

-- an answer tells a refusal by three of its numbers
pub record Tells (a : Answer) (x : Refusal) : Type 0 where
  pub refusal : a.refusal ≡ number x
  pub name : a.name ≡ name x
  pub block : a.block ≡ block x

pub record Promised (c : Call) (a : Answer) (after : List ℤ) : Type 0 where
  -- accepted, or one of twenty-three refusals
  pub numbered : a.refusal ≤ 23
  -- accepted exactly when the definition reaches audio_end within frame and room
  pub sound : a.refusal ≡ 0 → Reaches c
  pub complete : Reaches c → a.refusal ≡ 0
  -- and else refused as the definition does: the number, and the name and the block of what did not fit
  pub which : (x : Refusal) → (parse syncframe (input c) (room_for c)).end ≡ refused x → Tells a x
  -- which refusal 6 alone tells
  pub others : ¬ (a.refusal ≡ 6) → Neither a.name a.block
  -- the rows are the definition's list, in front, and the rest of the room is as it was
  pub written : after ≡ flatten (listed c) ++ drop (length (listed c) * row_width) c.room
  -- the row count is that list's length, and the bit is the first one not yet read
  pub counted : a.rows ≡ length (listed c)
  pub bit : a.bit ≡ bit_of c
  -- the rows of an accepted frame lie end to end from bit 0 to audio_end
  pub tiles : a.refusal ≡ 0 → Tiles 0 (listed c) a.bit
  -- the summary: the definition's, with the row count and audio_end; all zeros on a refusal
  pub summary : (ok : Reaches c) → a.summary ≡ summary_of a.rows ok.answer
  pub audio_end : a.refusal ≡ 0 → a.summary.end ≡ a.bit
  pub without_summary : ¬ (a.refusal ≡ 0) → a.summary ≡ no_summary

-- ---- demand 3, for what is accepted

abbrev pub answer_to : Call → Answer × List ℤ
answer_to c = answer c.capture c.place c.room

abbrev pub Accepted : Call → Type 0
Accepted c = (answer_to c).0.refusal ≡ 0

-- of whatever answers calls
pub record Demand3Of (answers : Call → Answer × List ℤ) : Type 0 where
  -- equal values: the same rows, so the same names, positions and widths, and bits that differ only inside spans
  pub values_decide : (c d : Call) → (answers c).0.refusal ≡ 0 → (answers d).0.refusal ≡ 0 → values (listed c) ≡ values (listed d) → Alike syncframe (input c) (input d) (room_for c) (room_for d)
  -- neither's values are a proper beginning of the other's, nor are its bits before audio_end
  pub values_complete : (c d : Call) → (answers c).0.refusal ≡ 0 → (answers d).0.refusal ≡ 0 → ¬ ProperBeginning (values (listed c)) (values (listed d))
  pub bits_complete : (c d : Call) → (answers c).0.refusal ≡ 0 → (answers d).0.refusal ≡ 0 → ¬ ProperBeginning (bits_before (input c) (bit_of c)) (bits_before (input d) (bit_of d))
  -- other bits inside spans or from audio_end on, at the same length and with the same room: the same answer and the same room after it
  pub spans_idle : (c d : Call) → (answers c).0.refusal ≡ 0 → length (input c) ≡ length (input d) → c.room ≡ d.room
      → Agree is_span (input c) (input d) (listed c) (bit_of c)
      → answers d ≡ answers c

abbrev pub Demand3OfAnswers : Type 0
Demand3OfAnswers = Demand3Of answer_to
