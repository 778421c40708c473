-- All that is proved of the parser, in one place: each field is a theorem, and `proofs/Proved.antt` gives them all. The contract of
-- `ac3::parse` says that its answer and the room at exit are `answer_to` of the call, so each of them is about what a caller gets.
--
-- A call is a capture, a place in it and the room that is lent. Its input is the capture from the place on. `answer_to c` is the answer (a
-- refusal's number or 0, the rows written, the bit reached, what did not fit, a summary) and the room after it. `listed c` is the definition's own list of
-- rows.
use Rattle.syntax.specs.Demand3.{Demand3}
use Rattle.syntax.specs.Later.{OnlyWhatWasRead}
use Rattle.syntax.specs.Rows.{Tiles}
use Rattle.ac3.specs.Coordinates.{CoordinatesIdle}
use Rattle.ac3.specs.Editing.{EditFreely}
use Rattle.ac3.specs.Frame.{syncframe}
use Rattle.ac3.specs.HeaderAndBlocks.{HeaderAndBlocks}
use Rattle.ac3.specs.Later.{LaterBytes}
use Rattle.ac3.specs.MoreRoom.{MoreRoom}
use Rattle.ac3.specs.OneAnswer.{OneAnswer}
use Rattle.ac3.specs.Parts.{PartsOfRows, PartsOfRooms}
use Rattle.ac3.specs.Promise.{Call, Promised, listed, bit_of, answer_to, Accepted, Demand3OfAnswers}
use Rattle.ac3.specs.Rooms.{SpansByRole, Demand3OfRooms}
use Rattle.ac3.specs.RowBound.{RowBound}
use Rattle.ac3.specs.Sent.{SentIsEachHad}
use Rattle.ac3.specs.SlotBits.{SlotBits}
use Rattle.ac3.specs.Unfitting.{WhatDidNotFit}
use Rattle.ac3.specs.Useless.{NoneUseless}
use Rattle.ac3.specs.Values.{ValuesOnEachSide}
use Rattle.ac3.specs.Within.{KeptWithin}

pub record Proved : Type 1 where
  -- ---- what an answer is

  -- Demands 1 and 2. Every call, whatever its bytes, place and room, is answered: accepted or one of twenty-three refusals, accepted exactly
  -- when the definition reaches the end of the audio within frame and room; the rows are the definition's, in front of the room, and no
  -- other number of it is touched.
  pub promised : (c : Call) → Promised c (answer_to c).0 (answer_to c).1
  -- Refusal 6 tells the name and the block of the row that the definition would have written next; every other answer tells neither.
  pub what_did_not_fit : WhatDidNotFit
  -- What follows for everyone who keeps that promise: no more rows than there is room for, no bit past the frame, no frame past the input.
  pub within : KeptWithin
  -- Any two answers that a promise allows coincide, of this function and of every other that is public.
  pub one_answer : OneAnswer
  -- ---- what an accepted frame's rows say

  -- They cover every bit before the end of the audio, each once: they lie end to end.
  pub cover : (c : Call) → Accepted c → Tiles 0 (listed c) (bit_of c)
  -- Demand 3, of the definition's rows: the values decide names, positions, widths and all bits outside spans; no frame's values or bits
  -- are the beginning of another's; bits inside spans and after the audio change nothing.
  pub demand3 : Demand3OfAnswers
  -- Demand 3 again, over nothing but the numbers that the caller holds.
  pub demand3_held : Demand3OfRooms
  -- For that: a row is a span exactly when its role is Skipfld, Addbsi or Mantissas.
  pub spans_by_role : SpansByRole
  -- Demand 3 holds of the grammar itself, as of every grammar.
  pub demand3_grammar : Demand3 syncframe
  -- Its mantissas rows, one to a block, are as wide as the seven counts of bits that the summary tells of the block sum to; slots that are not
  -- in use have 0, and so have all on a refusal.
  pub bits_of_slots : SlotBits
  -- ---- what may change, and what cannot

  -- New bits in the editable fields and in spans change those values, and nothing else.
  pub edit_freely : EditFreely
  -- Bytes that come later change refusals 1 and 4 only; bits from the one reached on change nothing, accepted or not.
  pub later_bytes : LaterBytes
  pub only_what_was_read : OnlyWhatWasRead syncframe
  -- "Coordinates sent" says of each block and each channel that is coupled there that it has cplcoe 1 in it, or had it in an earlier block
  -- while it was coupled; and no less.
  pub sent_is_each_had : SentIsEachHad
  -- It decides nothing: by whatever rule of the blocks it is made, all else of every answer is the same.
  pub coordinates_idle : CoordinatesIdle
  -- The header first and then the blocks is the whole parse, and the blocks take exactly the header's own answer.
  pub header_and_blocks : HeaderAndBlocks
  -- ---- rows and room

  -- What the ninth number of a row means, accepted or not: it is -1 exactly where the name is none of the eleven that have parts, and else
  -- the number of rows before it of the same name, block and index. So a channel's bands are 0, 1, 2 and so on in each block, and so are
  -- the groups of a set of exponents and the segments of a slot.
  pub parts : PartsOfRooms
  -- The same of the definition's rows.
  pub parts_listed : PartsOfRows
  -- No frame has more than 4,067 rows, and with room for these none is refused for want of room.
  pub row_bound : RowBound
  -- More room changes nothing but that refusal.
  pub more_room : MoreRoom
  -- ---- that all this says something

  -- Who keeps the promise does not refuse all input, give a fixed list, repeat block 0 for the others, write nothing, or make the row count
  -- up.
  pub none_useless : NoneUseless
  -- The values on each side, (a) to (j), of docs/FORMAT.md.
  pub values : ValuesOnEachSide
