-- Header and blocks apart: what is proved of `header_to` and `blocks_to` (`Apart`). The contracts of `ac3::apart::header` and `blocks` say that
-- answer and room at exit are these, so each line is about what a caller gets.
use Rattle.std.specs.Prelude.{List, ◌++◌, ◌≡◌, ◌*◌, ◌≤◌, min, ℤ, length, drop}
use Rattle.syntax.specs.Numbers.{row_width}
use Rattle.syntax.specs.Place.{flatten}
use Rattle.syntax.specs.Run.{Row, rows_of}
use Rattle.header.specs.Header.{header}
use Rattle.ac3.specs.Apart.{most_header_rows, header_to, unfit, blocks_to, ended_at, in_turn}
use Rattle.ac3.specs.Later.{AlikeBefore}
use Rattle.ac3.specs.Promise.{Call, input, room_for, with_room, Promised, answer_to, Demand3Of}
use Rattle.ac3.specs.Within.{Within}
use Rattle.ac3.specs.declared.HeaderAnswer.{HeaderAnswer}

-- the definition's rows of a header
abbrev pub header_listed : Call → List Row
header_listed c = rows_of header (input c) (room_for c)

pub record HeaderAndBlocks : Type 0 where
  -- ---- both in turn

  -- the whole parse is both in turn, header refusals included
  pub same_in_turn : (c : Call) → answer_to c ≡ in_turn c
  -- so demands 1 and 2 hold of both in turn, and what follows from them; and demand 3
  pub promised : (c : Call) → Promised c (in_turn c).0 (in_turn c).1
  pub within : (c : Call) → Within c (in_turn c).0 (in_turn c).1
  pub demand3 : Demand3Of in_turn
  -- in the room as it was before the header the blocks do the same
  pub afresh : (c : Call) → (header_to c).0.refusal ≡ 0 → blocks_to c (header_to c).0 ≡ answer_to c
  -- ---- which header answer the blocks take

  -- the header's own answer is taken, if it is no refusal, and no other is: made up, of another input, another place or another room
  pub takes : (c : Call) → (header_to c).0.refusal ≡ 0 → ¬ ((blocks_to c (header_to c).0).0.refusal ≡ 24)
  pub taken : (c : Call) (claim : HeaderAnswer) → ¬ ((blocks_to c claim).0.refusal ≡ 24) → (claim ≡ (header_to c).0) × (claim.refusal ≡ 0)
  -- what is taken is answered as the whole parse is, and else nothing is written
  pub answers : (c : Call) (claim : HeaderAnswer) → ¬ ((blocks_to c claim).0.refusal ≡ 24) → blocks_to c claim ≡ answer_to c
  pub untouched : (c : Call) (claim : HeaderAnswer) → (blocks_to c claim).0.refusal ≡ 24 → blocks_to c claim ≡ (unfit, c.room)
  -- ---- the header by itself

  -- its refusal is the parse's: number, rows, bit and room
  pub refusals : (c : Call) → ¬ ((header_to c).0.refusal ≡ 0) → answer_to c ≡ (ended_at (header_to c).0, (header_to c).1)
  -- its rows are the definition's list, in front, and the rest of the room is as it was
  pub written : (c : Call) → (header_to c).1 ≡ flatten (header_listed c) ++ drop (length (header_listed c) * row_width) c.room
  pub counted : (c : Call) → (header_to c).0.rows ≡ length (header_listed c)
  -- nothing after the bit that it reached matters, which is the first one after addbsi if it is no refusal: inputs of one length that agree
  -- before it get the same answer and the same room
  pub idle : (c d : Call) → AlikeBefore (header_to c).0.bit c d → header_to d ≡ header_to c
  -- it has few rows, and its answer owes to the room only how many of so many fit
  pub few : (c : Call) → (header_to c).0.rows ≤ most_header_rows
  pub as_good : (c : Call) (own : List ℤ) → min (room_for c) most_header_rows ≡ min (room_for (with_room own c)) most_header_rows → (header_to c).0 ≡ (header_to (with_room own c)).0
