-- "Coordinates sent" is told and decides nothing: whatever rule makes the flag, all else of every answer is the same, so what is accepted
-- is too.
use Rattle.std.specs.Prelude.{Bool, false, List, ◌≡◌, ℕ, ℤ}
use Rattle.syntax.specs.Grammar.{Grammar, done, ◌>>=◌, position, for}
use Rattle.syntax.specs.Place.{exec, fresh}
use Rattle.header.specs.Header.{header}
use Rattle.header.specs.declared.Header.{Header}
use Rattle.ac3.specs.AudioBlock.{Carry, audio_block}
use Rattle.ac3.specs.Frame.{Audio, unread, answered}
use Rattle.ac3.specs.Promise.{Call, input, answer_to}
use Rattle.ac3.specs.declared.Answer.{Answer}
use Rattle.ac3.specs.declared.Tally.{Tally}

-- the same with this flag: of a tally, of what is carried, and of an answer
abbrev pub flagged : Bool → Tally → Tally
flagged b t = record { coupled = t.coupled; coordinates = b; starts = t.starts; mantissas = t.mantissas; bits = t.bits }

abbrev pub flagged_carry : Bool → Carry → Carry
flagged_carry b c = record { state = c.state; exps = c.exps; tally = flagged b c.tally; blocks = c.blocks }

abbrev pub flagged_answer : Bool → Answer → Answer
flagged_answer b a =
    let s = a.summary in
    record {
      refusal = a.refusal;
      rows = a.rows;
      bit = a.bit;
      name = a.name;
      block = a.block;
      summary = record { rows = s.rows; end = s.end; header = s.header; tally = flagged b s.tally };
    }

-- any rule that makes the flag after a block: of the block's number and of what is carried before it and after it, so of the coupled
-- channels and cplcoe of every block so far
abbrev pub Rule : Type 0
Rule = (blk : ℕ) (before next : Carry) → Bool

-- a frame whose flag is made by the rule, after each block, and not by the definition's
module _ (rule : Rule) where
  unfoldable pub block_by : Header → ℕ → Carry → Grammar Carry
  block_by h blk before = do
    next ← audio_block h blk before
    done (flagged_carry (rule blk before next) next)

  unfoldable pub audio_by : Header → Grammar Audio
  audio_by h = do
    last ← for 0 6 unread (block_by h)
    end ← position
    done (record { header = h; tally = last.tally; end = end })

  unfoldable pub frame_by : Grammar Audio
  frame_by = do
    h ← header
    audio_by h

  abbrev pub answer_by : Call → Answer × List ℤ
  answer_by c = answered (exec frame_by (input c) (fresh c.room))

-- the same refusal, rows, bit, name, block and summary but for the flag, and the same room
abbrev pub CoordinatesIdle : Type 0
CoordinatesIdle = (rule : Rule) (c : Call)
    → (flagged_answer false (answer_by rule c).0 ≡ flagged_answer false (answer_to c).0) × ((answer_by rule c).1 ≡ (answer_to c).1)
