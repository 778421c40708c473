-- Refusal 6 tells what did not fit: the name and the block of the row that the definition would have written next. Every other answer tells
-- neither. `proofs/Unfitting.antt` proves it.
use Rattle.std.specs.Prelude.{List, ◌≡◌}
use Rattle.syntax.specs.declared.Refusal.{Refusal}
use Rattle.syntax.specs.Run.{Row, parse}
use Rattle.syntax.specs.Unfitting.{Next, Neither}
use Rattle.syntax.specs.Unlimited.{read}
use Rattle.ac3.specs.Frame.{syncframe}
use Rattle.ac3.specs.Promise.{Call, input, room_for, Tells, answer_to}

-- the rows of the frame, whatever the frame's end and the room
abbrev pub unlimited : Call → List Row
unlimited c = (read syncframe (input c) 0).rows

pub record WhatDidNotFit : Type 0 where
  -- they begin with the rows that were written, and the next one would end past the frame: its name and its block are told
  pub next : (c : Call) → (answer_to c).0.refusal ≡ 6
      → (x : Refusal) × Next (unlimited c) (parse syncframe (input c) (room_for c)) x × Tells (answer_to c).0 x
  -- accepted, or refused with another number: name 0, and no block
  pub others : (c : Call) → ¬ ((answer_to c).0.refusal ≡ 6) → Neither (answer_to c).0.name (answer_to c).0.block
