-- Mantissa bits by channel, for a caller who holds an answer and the room: in each block of an accepted frame the seven counts sum to the width
-- of the mantissas row.
use Rattle.std.specs.Prelude.{not, cond, List, [], ◌∷◌, ◌≡◌, ℕ, zero, suc, ◌*◌, ◌<◌, eqb, ℤ, length, take, drop, replicate}
use Rattle.tables.specs.Tables.{nfchans}
use Rattle.alloc.specs.Allocation.{from}
use Rattle.syntax.specs.Names as Name
use Rattle.syntax.specs.Numbers.{row_width}
use Rattle.syntax.specs.Run.{sum}
use Rattle.mantissas.specs.BySlot.{Unused}
use Rattle.ac3.specs.Frame.{slot_counts}
use Rattle.ac3.specs.Promise.{Call, answer_to, Accepted}
use Rattle.ac3.specs.Rooms.{said, row_count}
use Rattle.ac3.specs.declared.Summary.{Summary}

-- the seven counts of a block, of those of all blocks
abbrev pub slots_of : (blk : ℕ) (bits : List ℕ) → List ℕ
slots_of blk bits = take 7 (drop (7 * blk) bits)

-- each block with the bits of its slots in all
abbrev pub block_sums : (bits : List ℕ) → List (ℕ × ℕ)
block_sums bits = from 0 6 (λ blk. (blk, sum (slots_of blk bits)))

-- of the first n rows of a room those of the name mantissas, in order: what they say of block and width
unfoldable pub mantissa_rows : (n : ℕ) → List ℤ → List (ℕ × ℕ)
mantissa_rows zero room = []
mantissa_rows (suc n) room =
    let rest = mantissa_rows n (drop row_width room) in
    cond (eqb (said 0 room) Name.mantissas) ((said 3 room, said 6 room) ∷ rest) rest

-- ---- what a caller holds after a call

abbrev pub summary_to : Call → Summary
summary_to c = (answer_to c).0.summary

abbrev pub bits_to : Call → List ℕ
bits_to c = (summary_to c).tally.bits

pub record SlotBits : Type 0 where
  -- an accepted frame has six rows of the name mantissas, one to a block, and each is as wide as the block's seven counts sum to
  pub sums : (c : Call) → Accepted c → mantissa_rows (row_count c) (answer_to c).1 ≡ block_sums (bits_to c)
  -- channels that the frame does not have have 0 in every block, and so have LFE without lfeon, and coupling where no block uses it
  pub unused : (c : Call) → Accepted c → (blk : ℕ) → blk < 6
      → Unused (nfchans (summary_to c).header.acmod) (summary_to c).header.lfeon (not (eqb (summary_to c).tally.coupled 0)) (slots_of blk (bits_to c))
  -- there are forty-two, whatever is answered, and a refusal's are all zeros
  pub long : (c : Call) → length (bits_to c) ≡ slot_counts
  pub none : (c : Call) → ¬ Accepted c → bits_to c ≡ replicate slot_counts 0
