-- More room changes nothing but refusal 7. So with room for the most rows that a frame can have every answer, and the rows that were
-- written, are what they are with any more room.
use Rattle.std.specs.Prelude.{List, ◌≡◌, ℕ, ◌≤◌, ℤ}
use Rattle.syntax.specs.Refusals.{full}
use Rattle.syntax.specs.Run.{refused, Result, parse}
use Rattle.ac3.specs.Frame.{Audio, syncframe}
use Rattle.ac3.specs.Promise.{Call, room_for, with_room, listed, answer_to}
use Rattle.ac3.specs.Rooms.{held_rows}
use Rattle.ac3.specs.RowBound.{most_rows}

-- the same rows, the same bit, and ended alike
pub record SameList (a b : Result Audio) : Type 0 where
  pub rows : a.rows ≡ b.rows
  pub bit : a.spot.at ≡ b.spot.at
  pub end : a.end ≡ b.end

-- the same answer, the same list of the definition, and the same numbers in the rows
pub record SameAnswer (c d : Call) : Type 0 where
  pub answer : (answer_to c).0 ≡ (answer_to d).0
  pub list : listed c ≡ listed d
  pub rows : held_rows c ≡ held_rows d

pub record MoreRoom : Type 0 where
  -- unless the room was full: of the definition's list, and of a call's answer
  pub lists : (s : List ℕ) (m n : ℕ) → m ≤ n → ¬ ((parse syncframe s m).end ≡ refused full) → SameList (parse syncframe s n) (parse syncframe s m)
  pub answers : (c : Call) (room : List ℤ) → room_for c ≤ room_for (with_room room c) → ¬ ((answer_to c).0.refusal ≡ 7) → SameAnswer (with_room room c) c
  -- room for the most rows is as good as any more
  pub enough : (c : Call) (room : List ℤ) → most_rows ≤ room_for c → most_rows ≤ room_for (with_room room c) → SameAnswer (with_room room c) c
