-- What is answered, and what the field room and the output hold then: writing a burst, and reading one.
use Rattle.std.specs.Prelude.{Bool, not, cond, List, [], ◌∷◌, ◌++◌, ℕ, ◌+◌, ◌*◌, eqb, ltb, ℤ, length, take, drop, Result, Ok, Err}
use Rattle.syntax.specs.Names as Name
use Rattle.ac3.specs.Promise.{Call, input, listed, answer_to}
use Rattle.ac3.specs.declared.Answer as parse
use Rattle.rows.specs.Found.{value_of}
use Rattle.burst.specs.Burst.{burst_bytes, head_bytes, burst_of, word_at, mode_bits, opens, all_zero}
use Rattle.burst.specs.Refusals.{number, unread}
use Rattle.burst.specs.declared.outcome.Refusal.{Refusal}
use Rattle.burst.specs.declared.outcome.Refusal.TheVariants.{Frame, NoRoom, NotABurst, WrongWords, WrongLength, NotZero, OtherMode}
use Rattle.burst.specs.declared.outcome.Refused.{Refused}
use Rattle.burst.specs.declared.outcome.Written.{Written}

-- ---- verdicts

pub data Verdict : Type 0 where
  refuses : Refusal → Verdict
  gives : List ℕ → Verdict  -- these bytes, in front of the output

-- the checks in order: the first that is bad refuses, and where none is these bytes are given
abbrev pub judge : List (Bool × Refusal) → List ℕ → Verdict
judge [] bytes = gives bytes
judge (check ∷ checks) bytes = cond check.0 (refuses check.1) (judge checks bytes)

-- the frame that was parsed, at the start of these bytes
abbrev pub frame_in : parse.Answer → List ℕ → List ℕ
frame_in a s = take a.summary.header.bytes s

abbrev pub frame_check : parse.Answer → Bool × Refusal
frame_check a = (not (eqb a.refusal 0), Frame a.refusal)

-- so many bytes of output
abbrev pub room_check : (room bytes : ℕ) → Bool × Refusal
room_check room bytes = (ltb room bytes, NoRoom)

-- of a frame at the start of these bytes
abbrev pub writing : parse.Answer → (bsmod : ℕ) → List ℕ → (room : ℕ) → Verdict
writing a bsmod s room = judge (frame_check a ∷ room_check room burst_bytes ∷ []) (burst_of bsmod (frame_in a s))

abbrev pub reading : parse.Answer → (bsmod : ℕ) (burst : List ℕ) (room : ℕ) → Verdict
reading a bsmod burst room =
    let bytes = a.summary.header.bytes in
    judge
    ((not (eqb (length burst) burst_bytes), NotABurst)
    ∷ (not (opens burst), WrongWords)
    ∷ frame_check a
    ∷ (not (eqb (word_at burst 3) (8 * bytes)), WrongLength)
    ∷ (not (all_zero (drop (head_bytes + bytes) burst)), NotZero)
    ∷ (not (eqb (mode_bits (word_at burst 2)) bsmod), OtherMode)
    ∷ room_check room bytes
    ∷ [])
    (frame_in a (drop head_bytes burst))

-- ---- what is answered by a verdict, with the field room and the output after it

-- an answer of either function, and the rooms
abbrev pub Left : Type 0
Left = Result Written Refused × (List ℤ × List ℕ)

-- the field room is as the parse leaves it; on a refusal nothing is written to the output
abbrev pub answered : (lent : List ℤ) (out : List ℕ) → parse.Answer × List ℤ → Verdict → Left
answered lent out parsed (refuses r) =
    cond (unread r) (Err (record { refusal = r; rows = 0 }), (lent, out))
    (Err (record { refusal = r; rows = parsed.0.rows }), (parsed.1, out))
answered lent out parsed (gives bytes) = (Ok (record { rows = parsed.0.rows; bytes = length bytes }), (parsed.1, bytes ++ drop (length bytes) out))

-- bsmod as the definition of the frame has it
abbrev pub bsmod_of : Call → ℕ
bsmod_of c = value_of Name.bsmod (listed c)

abbrev pub burst_write : (capture : List ℕ) (place : ℕ) (rows : List ℤ) (out : List ℕ) → Left
burst_write capture place rows out =
    let c : Call = record { capture = capture; place = place; room = rows } in
    answered rows out (answer_to c) (writing (answer_to c).0 (bsmod_of c) (input c) (length out))

-- the frame stands behind the four words
abbrev pub burst_read : (burst : List ℕ) (rows : List ℤ) (out : List ℕ) → Left
burst_read burst rows out =
    let c : Call = record { capture = burst; place = head_bytes; room = rows } in
    answered rows out (answer_to c) (reading (answer_to c).0 (bsmod_of c) burst (length out))

-- ---- what is told of an answer, as numbers

-- 0 or the number of the refusal, the rows that the parse left, the bytes written
pub record Answer : Type 0 where
  pub refusal : ℕ
  pub rows : ℕ
  pub bytes : ℕ

abbrev pub told : Result Written Refused → Answer
told (Ok w) = record { refusal = 0; rows = w.rows; bytes = w.bytes }
told (Err r) = record { refusal = number r.refusal; rows = r.rows; bytes = 0 }

abbrev pub numbered : Left → Answer × (List ℤ × List ℕ)
numbered x = (told x.0, x.1)

abbrev pub written : (capture : List ℕ) (place : ℕ) (rows : List ℤ) (out : List ℕ) → Answer × (List ℤ × List ℕ)
written capture place rows out = numbered (burst_write capture place rows out)

abbrev pub read : (burst : List ℕ) (rows : List ℤ) (out : List ℕ) → Answer × (List ℤ × List ℕ)
read burst rows out = numbered (burst_read burst rows out)
