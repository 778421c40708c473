-- What the parser promises (`ac3/specs/Promise` and `Within`), for a caller who holds only the numbers and the room: each line again,
-- over these.
use Rattle.std.specs.Prelude.{Bool, not, List, ◌∷◌, ◌++◌, map, ◌≡◌, ℕ, ◌*◌, ◌≤◌, ◌<◌, eqb, ℤ, pos, negsuc, length, get_or, take, drop, replicate}
use Rattle.tables.specs.Tables.{nfchans}
use Rattle.syntax.specs.Numbers.{row_width, numbers}
use Rattle.syntax.specs.Place.{flatten}
use Rattle.syntax.specs.declared.Refusal.{Refusal}
use Rattle.syntax.specs.Refusals.{number}
use Rattle.syntax.specs.Rows.{Tiles}
use Rattle.syntax.specs.Run.{Row, refused, parse}
use Rattle.mantissas.specs.BySlot.{Unused}
use Rattle.ac3.specs.Frame.{syncframe, slot_counts, summary_of, no_summary}
use Rattle.ac3.specs.Promise.{Call, input, room_for, listed, bit_of, Reaches}
use Rattle.ac3.specs.Rooms.{natural}
use Rattle.ac3.specs.RowBound.{most_rows}
use Rattle.ac3.specs.SlotBits.{slots_of, block_sums, mantissa_rows}
use Rattle.ac3.specs.Unfitting.{unlimited}
use Rattle.ferrysprig.specs.Numbers.{answer_width, summary_numbers, bits_numbers}

-- of the numbers: the refusal, the rows written, the bit, the frame's bytes, acmod, lfeon, whether coupling is used, the summary's first 21,
-- its mantissa bits, and the name and the block of what did not fit
abbrev pub refusal_in : List ℤ → ℤ
refusal_in ns = get_or ns 0 (pos 0)

abbrev pub rows_in : List ℤ → ℤ
rows_in ns = get_or ns 1 (pos 0)

abbrev pub bit_in : List ℤ → ℤ
bit_in ns = get_or ns 2 (pos 0)

abbrev pub bytes_in : List ℤ → ℤ
bytes_in ns = get_or ns 4 (pos 0)

abbrev pub acmod_in : List ℤ → ℕ
acmod_in ns = natural (get_or ns 7 (pos 0))

abbrev pub lfeon_in : List ℤ → Bool
lfeon_in ns = eqb (natural (get_or ns 8 (pos 0))) 1

-- does any block use coupling?
abbrev pub couples_in : List ℤ → Bool
couples_in ns = not (eqb (natural (get_or ns 10 (pos 0))) 0)

abbrev pub summary_in : List ℤ → List ℤ
summary_in ns = take 21 (drop 3 ns)

abbrev pub bits_in : List ℤ → List ℤ
bits_in ns = drop 26 ns

abbrev pub name_in : List ℤ → ℤ
name_in ns = get_or ns 24 (pos 0)

abbrev pub block_in : List ℤ → ℤ
block_in ns = get_or ns 25 (pos 0)

-- name and block are told as in this row
pub record TellsRow (ns : List ℤ) (r : Row) : Type 0 where
  pub name : name_in ns ≡ get_or (numbers r) 0 (pos 0)
  pub block : block_in ns ≡ get_or (numbers r) 3 (pos 0)

pub record PromisedNumbers (c : Call) (ns after : List ℤ) : Type 0 where
  pub long : length ns ≡ answer_width
  -- accepted, or one of twenty-three refusals
  pub numbered : (n : ℕ) × (refusal_in ns ≡ pos n) × (n ≤ 23)
  -- accepted exactly when the definition reaches audio_end within frame and room, and else refused with its number
  pub sound : refusal_in ns ≡ pos 0 → Reaches c
  pub complete : Reaches c → refusal_in ns ≡ pos 0
  pub which : (x : Refusal) → (parse syncframe (input c) (room_for c)).end ≡ refused x → refusal_in ns ≡ pos (number x)
  -- refusal 6: name and block are those of the row that the definition would have written next; else they are 0 and -1
  pub next : refusal_in ns ≡ pos 6 → (row : Row) × (later : List Row) × (unlimited c ≡ listed c ++ row ∷ later) × TellsRow ns row
  pub others : ¬ (refusal_in ns ≡ pos 6) → (name_in ns ≡ pos 0) × (block_in ns ≡ negsuc 0)
  -- the rows are the definition's list, in front, and the rest of the room is as it was
  pub written : after ≡ flatten (listed c) ++ drop (length (listed c) * row_width) c.room
  pub counted : rows_in ns ≡ pos (length (listed c))
  pub bit : bit_in ns ≡ pos (bit_of c)
  -- the rows of an accepted frame lie end to end from bit 0 to the bit
  pub tiles : refusal_in ns ≡ pos 0 → Tiles 0 (listed c) (bit_of c)
  -- the summary is the definition's, or all zeros
  pub summary : (ok : Reaches c) → summary_in ns ≡ summary_numbers (summary_of (length (listed c)) ok.answer)
  pub without_summary : ¬ (refusal_in ns ≡ pos 0) → summary_in ns ≡ summary_numbers no_summary
  -- so are the mantissa bits, and in each block of an accepted frame the seven counts sum to the width of the mantissas row
  pub bits : (ok : Reaches c) → bits_in ns ≡ bits_numbers (summary_of (length (listed c)) ok.answer)
  pub no_bits : ¬ (refusal_in ns ≡ pos 0) → bits_in ns ≡ replicate slot_counts (pos 0)
  pub sums : refusal_in ns ≡ pos 0 → mantissa_rows (length (listed c)) after ≡ block_sums (map natural (bits_in ns))
  -- and slots that are not in use have 0
  pub unused : refusal_in ns ≡ pos 0 → (blk : ℕ) → blk < 6 → Unused (nfchans (acmod_in ns)) (lfeon_in ns) (couples_in ns) (slots_of blk (map natural (bits_in ns)))
  -- no more rows than there is room for, nor than any frame has; and with room for these the room is never full
  pub fits : length (listed c) ≤ room_for c
  pub few : length (listed c) ≤ most_rows
  pub never_full : most_rows ≤ room_for c → ¬ (refusal_in ns ≡ pos 7)
  pub room : length after ≡ length c.room
  -- what is accepted ends within its frame, and the frame within the input
  pub end : (bytes : ℕ) → bytes_in ns ≡ pos bytes → refusal_in ns ≡ pos 0 → bit_of c ≤ 8 * bytes
  pub frame : (bytes : ℕ) → bytes_in ns ≡ pos bytes → refusal_in ns ≡ pos 0 → 8 * bytes ≤ 8 * length (input c)
