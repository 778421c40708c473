-- What holds between writing and reading, for a caller who holds captures, bursts and rooms: each takes back what the other did, and two frames
-- never give one burst.
use Rattle.std.specs.Prelude.{List, [], ◌++◌, ◌≡◌, ℕ, ◌≤◌, ◌<◌, ℤ, length, get_or, take, drop}
use Rattle.ac3.specs.Promise.{Call, room_for}
use Rattle.burst.specs.Answers.{Answer, written, read}
use Rattle.burst.specs.Burst.{burst_bytes}
use Rattle.rows.specs.Framed.{frame_of}

-- a call of either, with what it was lent and what it left
abbrev pub wrote : Call → (out : List ℕ) → Answer × (List ℤ × List ℕ)
wrote c out = written c.capture c.place c.room out

-- the bytes that were written, in front of the output
abbrev pub bytes_of : Answer × (List ℤ × List ℕ) → List ℕ
bytes_of x = take x.0.bytes x.1.1

-- nothing is refused, these bytes are written, and what is left of the output is as it was
pub record Gives (x : Answer × (List ℤ × List ℕ)) (bytes out : List ℕ) : Type 0 where
  pub fine : x.0.refusal ≡ 0
  pub count : x.0.bytes ≡ length bytes
  pub output : x.1.1 ≡ bytes ++ drop (length bytes) out

-- every number is a byte, as all that the code can hold are
abbrev pub Bytes : List ℕ → Type 0
Bytes s = (i : ℕ) → get_or s i 0 < 256

-- a room for as many rows
abbrev pub AsManyRows : (lent rows : List ℤ) → Type 0
AsManyRows lent rows = room_for (record { capture = []; place = 0; room = rows }) ≡ room_for (record { capture = []; place = 0; room = lent })

pub record Inverse : Type 0 where
  -- reading what was written returns the frame
  pub read_back : (c : Call) (out : List ℕ) → (wrote c out).0.refusal ≡ 0
      → (rows : List ℤ) (room : List ℕ) → AsManyRows c.room rows → length (frame_of c) ≤ length room
      → Gives (read (bytes_of (wrote c out)) rows room) (frame_of c) room
  -- writing what was read returns the burst
  pub write_back : (burst : List ℕ) (rows : List ℤ) (out : List ℕ) → Bytes burst → (read burst rows out).0.refusal ≡ 0
      → (again : List ℤ) (room : List ℕ) → AsManyRows rows again → burst_bytes ≤ length room
      → Gives (written (bytes_of (read burst rows out)) 0 again room) burst room
  -- two frames never give one burst
  pub apart : (c d : Call) (out room : List ℕ) → (wrote c out).0.refusal ≡ 0 → (wrote d room).0.refusal ≡ 0
      → bytes_of (wrote c out) ≡ bytes_of (wrote d room) → frame_of c ≡ frame_of d
