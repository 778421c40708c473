-- An answer as numbers: the refusal, the rows written, the bit, the summary's first 21 in the order of docs/FORMAT.md, the name and the block
-- of what did not fit, and the summary's mantissa bits, seven slots in each of six blocks. Yes is 1.
use Rattle.std.specs.Prelude.{Bool, cond, List, [], ◌∷◌, ◌++◌, map, ℕ, ℤ, pos, get_or}
use Rattle.alloc.specs.Allocation.{from}
use Rattle.syntax.specs.Numbers.{shown}
use Rattle.ac3.specs.Frame.{slot_counts}
use Rattle.ac3.specs.declared.Answer.{Answer}
use Rattle.ac3.specs.declared.Summary.{Summary}

-- so many are the numbers of an answer
abbrev pub answer_width : ℕ
answer_width = 68

abbrev pub flag : Bool → ℕ
flag b = cond b 1 0

-- the six entries of an array
abbrev pub six : List ℕ → List ℕ
six l = map (λ i. get_or l i 0) (0 ∷ 1 ∷ 2 ∷ 3 ∷ 4 ∷ 5 ∷ [])

abbrev pub summary_in_order : Summary → List ℕ
summary_in_order s =
    s.rows ∷ s.header.bytes ∷ s.end ∷ s.header.bsid ∷ s.header.acmod ∷ flag s.header.lfeon ∷ s.header.fscod ∷ s.tally.coupled
    ∷ six s.tally.starts ++ six s.tally.mantissas ++ flag s.tally.coordinates ∷ []

-- as far as the block
unfoldable pub in_order : Answer → List ℕ
in_order a = a.refusal ∷ a.rows ∷ a.bit ∷ summary_in_order a.summary ++ a.name ∷ []

unfoldable pub summary_numbers : Summary → List ℤ
summary_numbers s = map pos (summary_in_order s)

-- the entries of the array of mantissa bits
unfoldable pub bits_in_order : Summary → List ℕ
bits_in_order s = from 0 slot_counts (λ i. get_or s.tally.bits i 0)

unfoldable pub bits_numbers : Summary → List ℤ
bits_numbers s = map pos (bits_in_order s)

unfoldable pub answer_numbers : Answer → List ℤ
answer_numbers a = map pos (in_order a) ++ shown a.block ∷ bits_numbers a.summary

-- the numbers of an answer, and the room after it
abbrev pub told : Answer × List ℤ → List ℤ × List ℤ
told x = (answer_numbers x.0, x.1)
