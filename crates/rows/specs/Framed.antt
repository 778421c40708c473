-- What is known of a frame that was accepted: its bytes are there, and they are the same frame wherever they stand. And of every answer: it
-- owes to the room the number of its rows alone.
use Rattle.std.specs.Prelude.{List, ◌++◌, ◌≡◌, ℕ, ◌≤◌, length, take}
use Rattle.ac3.specs.Later.{longest}
use Rattle.ac3.specs.Promise.{Call, input, room_for, listed, answer_to, Accepted}

-- the shortest frame's bytes
abbrev pub shortest : ℕ
shortest = 128

abbrev pub frame_bytes_of : Call → ℕ
frame_bytes_of c = (answer_to c).0.summary.header.bytes

abbrev pub frame_of : Call → List ℕ
frame_of c = take (frame_bytes_of c) (input c)

-- the same answer and the same rows, whatever numbers the two rooms hold
pub record SameFrame (c d : Call) : Type 0 where
  pub answer : (answer_to d).0 ≡ (answer_to c).0
  pub rows : listed d ≡ listed c

pub record Framed (c : Call) : Type 0 where
  pub some : shortest ≤ frame_bytes_of c
  pub most : frame_bytes_of c ≤ longest
  pub inside : frame_bytes_of c ≤ length (input c)
  -- alone or with any bytes behind it, at any place, with as many rows of room
  pub anywhere : (d : Call) (more : List ℕ) → input d ≡ frame_of c ++ more → room_for d ≡ room_for c → SameFrame c d

abbrev pub AcceptedFramed : Type 0
AcceptedFramed = (c : Call) → Accepted c → Framed c

-- whatever numbers the room holds, accepted or not
abbrev pub RowsCount : Type 0
RowsCount = (c d : Call) → input d ≡ input c → room_for d ≡ room_for c → SameFrame c d
