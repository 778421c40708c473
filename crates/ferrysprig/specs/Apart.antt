-- Header and blocks apart, as numbers: the ten of a header answer, and the answer to one who holds ten numbers.
use Rattle.std.specs.Prelude.{Bool, true, false, ◌&&◌, List, [], ◌∷◌, ℕ, eqb, ℤ, pos}
use Rattle.signed.specs.Level.{eq_z}
use Rattle.syntax.specs.Numbers.{shown}
use Rattle.ac3.specs.Apart.{header_to, afresh_if}
use Rattle.ac3.specs.Promise.{Call}
use Rattle.ac3.specs.declared.HeaderAnswer.{HeaderAnswer}
use Rattle.ferrysprig.specs.Numbers.{flag, told}

-- so many are the numbers of a header answer
abbrev pub header_width : ℕ
header_width = 10

-- the refusal, the rows written, the bit, the name and the block of what did not fit, frame bytes, bsid, acmod, lfeon, fscod
unfoldable pub header_numbers : HeaderAnswer → List ℤ
header_numbers a =
    pos a.refusal ∷ pos a.rows ∷ pos a.bit ∷ pos a.name ∷ shown a.block
    ∷ pos a.header.bytes ∷ pos a.header.bsid ∷ pos a.header.acmod ∷ pos (flag a.header.lfeon) ∷ pos a.header.fscod ∷ []

-- the same as the code has them before the block is written
unfoldable pub header_in_order : HeaderAnswer → List ℕ
header_in_order a =
    a.refusal ∷ a.rows ∷ a.bit ∷ a.name ∷ 0
    ∷ a.header.bytes ∷ a.header.bsid ∷ a.header.acmod ∷ flag a.header.lfeon ∷ a.header.fscod ∷ []

-- the numbers of a header answer, and the room after it
abbrev pub header_told : HeaderAnswer × List ℤ → List ℤ × List ℤ
header_told x = (header_numbers x.0, x.1)

-- two lists, number by number
unfoldable pub same_numbers : List ℤ → List ℤ → Bool
same_numbers [] [] = true
same_numbers [] (y ∷ ys) = false
same_numbers (x ∷ xs) [] = false
same_numbers (x ∷ xs) (y ∷ ys) = eq_z x y && same_numbers xs ys

-- any numbers may be given: they are taken where the header, read again, is no refusal, and they are its own
abbrev pub taken_by : (given : List ℤ) → HeaderAnswer → Bool
taken_by given own = eqb own.refusal 0 && same_numbers given (header_numbers own)

-- where they are taken the header's rows are written afresh and the blocks follow; else it is 24, and the room is as it was
abbrev pub blocks_held : Call → (given : List ℤ) → List ℤ × List ℤ
blocks_held c given = told (afresh_if (taken_by given (header_to c).0) c)
