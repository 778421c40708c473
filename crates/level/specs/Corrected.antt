-- What holds of a correction that was not refused, for a caller who holds the bytes, the rows in the room and the numbers.
use Rattle.std.specs.Prelude.{List, ◌↔◌, ◌≡◌, ℕ, ◌+◌, ◌-◌, ◌*◌, ◌<◌, ℤ, pos}
use Rattle.std.proofs.Math.ListN as list
use Rattle.std.proofs.lemmas.List.Edits.{sets}
use Rattle.bits.specs.Bits.{bit_at, value}
use Rattle.bits.specs.Put.{put}
use Rattle.syntax.specs.Numbers.{row_width}
use Rattle.ac3.specs.Promise.{Call, call, input, answer_to}
use Rattle.ac3.specs.Rooms.{row_count}
use Rattle.rows.specs.Look.{value_column, first}
use Rattle.mend.specs.Changes.{fields_of, changes_of}
use Rattle.mend.specs.Mend.{FirstIsZero, WholeIsZero}
use Rattle.mend.specs.Mends.{Outside}
use Rattle.level.specs.Level.{words_of, dialnorm_of, dialnorm_width, position_in, Answer, Left, correct_to}

-- ---- what the caller holds

abbrev pub left : Call → (programme level : ℕ) (changes : List ℤ) → Left
left c programme level changes = correct_to c.capture c.place programme level c.room changes

abbrev pub answer_in : Left → Answer
answer_in x = x.0

abbrev pub changes_in : Left → List ℤ
changes_in x = x.1.0

abbrev pub capture_in : Left → List ℕ
capture_in x = x.1.1.1

-- a parse of what is left, in the room as it was before
abbrev pub afterwards : Call → (programme level : ℕ) (changes : List ℤ) → Call
afterwards c programme level changes = call (capture_in (left c programme level changes)) c.place c.room

-- dialnorm's row, counted from 0, and the position that it says; and the frame's words
abbrev pub level_row : Call → (programme : ℕ) → ℕ
level_row c programme = first (row_count c) (dialnorm_of programme) (answer_to c).1

abbrev pub level_at : Call → (programme : ℕ) → ℕ
level_at c programme = position_in (row_count c) (dialnorm_of programme) (answer_to c).1

abbrev pub frame_words : Call → ℕ
frame_words c = words_of (answer_to c).0

-- crc1 is row 1 of every frame
abbrev pub crc1_row : ℕ
crc1_row = 1

-- the number of a room that is the value of this row
abbrev pub value_of_row : ℕ → ℕ
value_of_row i = i * row_width + value_column

-- ---- the theorem

-- d is the parse afterwards; the frame has so many words, and dialnorm is at this bit
pub record Corrected (c : Call) (programme level : ℕ) (changes : List ℤ) (d : Call) (words at : ℕ) : Type 0 where
  -- two bytes to a word
  pub whole_words : (answer_to c).0.summary.header.bytes ≡ 2 * words
  -- dialnorm holds the level
  pub written : value (input d) at dialnorm_width ≡ level
  -- only these fields change: from the place on every bit outside crc1, dialnorm, crcrsv and crc2 is as it was, the bits after the frame too;
  -- and so are the bytes before the place
  pub others : (p : ℕ) → Outside words at dialnorm_width p → bit_at (input d) p ≡ bit_at (input c) p
  pub before : list.take c.place d.capture ≡ list.take c.place c.capture
  pub long : list.length d.capture ≡ list.length c.capture
  -- the frame is accepted after it, with the same answer and the same rows but for the values of dialnorm and crc1
  pub accepted : answer_to d ≡ ((answer_to c).0, list.set (list.set (answer_to c).1 (value_of_row (level_row c programme)) (pos level)) (value_of_row crc1_row) (pos (value (input d) 16 16)))
  -- both registers are zero: over the first five eighths, and over the whole frame
  pub first_zero : FirstIsZero words (input d)
  pub whole_zero : WholeIsZero words (input d)
  -- exactly one crc1 fits
  pub one_crc1 : (w : ℕ) → w < 65536 → FirstIsZero words (put (input d) 16 16 w) ↔ w ≡ value (input d) 16 16
  -- crc2 is not the sync word
  pub no_sync : ¬ (value (input d) ((words - 1) * 16) 16 ≡ 0x0B77)
  -- listed are exactly the fields whose values differ, in frame order, with old and new values, three numbers to a change
  pub listed : changes_in (left c programme level changes) ≡ sets changes 0 (changes_of (dialnorm_of programme) (fields_of words (input c) at dialnorm_width) (fields_of words (input d) at dialnorm_width))
  pub counted : (answer_in (left c programme level changes)).changes * 3 ≡ list.length (changes_of (dialnorm_of programme) (fields_of words (input c) at dialnorm_width) (fields_of words (input d) at dialnorm_width))
  -- a second identical call changes nothing, in any room as long
  pub again : (room noted : List ℤ) → list.length room ≡ list.length c.room
      → let e = call d.capture c.place room in
      left e programme level noted ≡ (record { refusal = 0; rows = row_count c; changes = 0 }, (noted, ((answer_to e).1, d.capture)))

-- every correction that is not refused
abbrev pub CorrectsLevel : Type 0
CorrectsLevel = (c : Call) (programme level : ℕ) (changes : List ℤ) → (answer_in (left c programme level changes)).refusal ≡ 0
    → Corrected c programme level changes (afterwards c programme level changes) (frame_words c) (level_at c programme)

-- and one that is refused leaves capture and changes as they were
abbrev pub RefusesUntouched : Type 0
RefusesUntouched = (c : Call) (programme level : ℕ) (changes : List ℤ) → ¬ ((answer_in (left c programme level changes)).refusal ≡ 0)
    → (capture_in (left c programme level changes) ≡ c.capture) × (changes_in (left c programme level changes) ≡ changes)
