-- The level of a programme, counted from 1, is corrected in the frame at a place of a capture: what is answered, and what is left of the list
-- of changes, of the field room and of the capture.
use Rattle.std.specs.Prelude.{Bool, ◌&&◌, cond, List, ◌++◌, ℕ, ◌+◌, ◌-◌, ◌*◌, ◌/◌, eqb, leb, ltb, ℤ, length, take, Result, Ok, Err}
use Rattle.std.proofs.lemmas.List.Edits.{sets}
use Rattle.syntax.specs.Names as Name
use Rattle.syntax.specs.Numbers.{row_width}
use Rattle.header.specs.Header.{programmes}
use Rattle.ac3.specs.Promise.{Call, call, input, answer_to}
use Rattle.ac3.specs.Rooms.{said}
use Rattle.ac3.specs.declared.Answer as parse
use Rattle.rows.specs.Look.{first}
use Rattle.mend.specs.Mend.{after_mend}
use Rattle.mend.specs.Changes as mend
use Rattle.level.specs.Refusals.{number, number_of}
use Rattle.level.specs.declared.outcome.Correction.{Correction}
use Rattle.level.specs.declared.outcome.Refusal.{Refusal}
use Rattle.level.specs.declared.outcome.Refusal.TheVariants.{Frame, NoProgramme, NoLevel, EndsLate}
use Rattle.level.specs.declared.outcome.Refused.{Refused}

-- Operators count programmes from one, the parser from zero. One is subtracted here and nowhere else.
abbrev pub from_zero : (programme : ℕ) → ℕ
from_zero programme = programme - 1

-- a frame has programme 1, and with acmod 0 programme 2
abbrev pub is_present : (acmod programme : ℕ) → Bool
is_present acmod programme = leb 1 programme && ltb (from_zero programme) (programmes acmod)

abbrev pub is_level : (level : ℕ) → Bool
is_level level = leb 1 level && leb level 31

-- the words of a frame: two bytes each
abbrev pub words_of : parse.Answer → ℕ
words_of a = a.summary.header.bytes / 2

-- the audio ends at the latest 18 bits before the frame does
abbrev pub ends_in_time : parse.Answer → Bool
ends_in_time a = leb (a.summary.end + 18) (words_of a * 16)

-- parsing's refusal; no such programme; no such level; the audio ends too late: the first of them that is so
abbrev pub check : parse.Answer → (programme level : ℕ) → Result (Unit {0}) Refusal
check a programme level =
    cond (eqb a.refusal 0)
    (cond (is_present a.summary.header.acmod programme) (cond (is_level level) (cond (ends_in_time a) (Ok tt) (Err EndsLate)) (Err NoLevel)) (Err NoProgramme))
    (Err (Frame a.refusal))

-- its number: parsing's refusal, 50, 51, 52, or 0
abbrev pub refusal_for : parse.Answer → (programme level : ℕ) → ℕ
refusal_for a programme level = number_of (check a programme level)

-- dialnorm of the first programme; dialnorm2 stands eight names further on
abbrev pub dialnorm_of : (programme : ℕ) → ℕ
dialnorm_of programme = Name.dialnorm + 8 * from_zero programme

abbrev pub dialnorm_width : ℕ
dialnorm_width = 5

-- where the position stands among the numbers of a row
abbrev pub position_column : ℕ
position_column = 5

-- the position that the first row of a name says; 0 where none has the name
unfoldable pub position_in : (count name : ℕ) → List ℤ → ℕ
position_in count name rows = let i = first count name rows in cond (ltb i count) (said (i * row_width + position_column) rows) 0

-- the answer, the list of changes, the field room and the capture
abbrev pub Outcome : Type 0
Outcome = Result Correction Refused × (List ℤ × (List ℤ × List ℕ))

-- the level is written into that field, crc1 and crc2 follow, and the changes are listed; the room is as parsing leaves it
abbrev pub levelled : Call → parse.Answer × List ℤ → (programme level : ℕ) (changes : List ℤ) → Outcome
levelled c parsed programme level changes =
    let a = parsed.0 in
    let name = dialnorm_of programme in
    let at = position_in a.rows name parsed.1 in
    let new = mend.changes name (words_of a) (input c) at dialnorm_width level in (
      Ok (record { rows = a.rows; changes = length new / 3 }),
      (sets changes 0 new, (parsed.1, take c.place c.capture ++ after_mend (words_of a) (input c) at dialnorm_width level)),
    )

-- on a refusal changes and capture are untouched
abbrev pub untouched : Call → parse.Answer × List ℤ → Refusal → (changes : List ℤ) → Outcome
untouched c parsed refusal changes = (Err (record { refusal = refusal; rows = parsed.0.rows }), (changes, (parsed.1, c.capture)))

-- after a parse with this answer and this room, and a check
abbrev pub left_by : Call → parse.Answer × List ℤ → (programme level : ℕ) (changes : List ℤ) → Result (Unit {0}) Refusal → Outcome
left_by c parsed programme level changes (Ok fine) = levelled c parsed programme level changes
left_by c parsed programme level changes (Err refusal) = untouched c parsed refusal changes

-- one parse, at the place
unfoldable pub correct : (capture : List ℕ) (place programme level : ℕ) (rows changes : List ℤ) → Outcome
correct capture place programme level rows changes =
    let c = call capture place rows in
    left_by c (answer_to c) programme level changes (check (answer_to c).0 programme level)

-- ---- what is told of an answer, as numbers

-- 0 or the number of the refusal, the rows that the parse left, how many changes were listed
pub record Answer : Type 0 where
  pub refusal : ℕ
  pub rows : ℕ
  pub changes : ℕ

abbrev pub told : Result Correction Refused → Answer
told (Ok correction) = record { refusal = 0; rows = correction.rows; changes = correction.changes }
told (Err r) = record { refusal = number r.refusal; rows = r.rows; changes = 0 }

abbrev pub Left : Type 0
Left = Answer × (List ℤ × (List ℤ × List ℕ))

abbrev pub numbered : Outcome → Left
numbered x = (told x.0, x.1)

unfoldable pub correct_to : (capture : List ℕ) (place programme level : ℕ) (rows changes : List ℤ) → Left
correct_to capture place programme level rows changes = numbered (correct capture place programme level rows changes)
