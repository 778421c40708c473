-- Header and blocks apart, for a caller who holds only numbers and the room. The contracts of `ferrysprig_header` and `ferrysprig_blocks` say
-- that numbers and room at exit are `header_told (header_to c)` and `blocks_held c given`.
use Rattle.std.specs.Prelude.{cond, List, ◌∷◌, ◌++◌, ◌≡◌, ℕ, ℤ, pos, get_or, replicate}
use Rattle.signed.specs.Level.{eq_z}
use Rattle.ac3.specs.Apart.{header_to, unfit, blocks_to}
use Rattle.ac3.specs.Frame.{slot_counts}
use Rattle.ac3.specs.Later.{AlikeBefore}
use Rattle.ac3.specs.Promise.{Call, with_room, answer_to}
use Rattle.ac3.specs.declared.HeaderAnswer.{HeaderAnswer}
use Rattle.ferrysprig.specs.Apart.{header_numbers, header_told, blocks_held}
use Rattle.ferrysprig.specs.Numbers.{told}
use Rattle.ferrysprig.specs.Promise.{refusal_in, bit_in, PromisedNumbers}

-- ---- both in turn

-- what is told of a frame that ended with its header: refusal, rows and bit, name and block, and a summary of zeros
abbrev pub ended_numbers : List ℤ → List ℤ
ended_numbers ten = get_or ten 0 (pos 0) ∷ get_or ten 1 (pos 0) ∷ get_or ten 2 (pos 0) ∷ replicate 21 (pos 0) ++ get_or ten 3 (pos 0) ∷ get_or ten 4 (pos 0) ∷ replicate slot_counts (pos 0)

-- the blocks go by the header's ten numbers, in the room that it leaves; a header refusal ends it
unfoldable pub in_turn_held : Call → List ℤ × List ℤ
in_turn_held c =
    let h = header_told (header_to c) in
    cond (eq_z (refusal_in h.0) (pos 0)) (blocks_held (with_room h.1 c) h.0) (ended_numbers h.0, h.1)

pub record HeaderAndBlocksHeld : Type 0 where
  -- the whole parse is both in turn, header refusals included; so all that is promised of it is so of both in turn
  pub same_in_turn : (c : Call) → told (answer_to c) ≡ in_turn_held c
  pub promised : (c : Call) → PromisedNumbers c (in_turn_held c).0 (in_turn_held c).1
  -- of all numbers that may be given the header's own ten are taken, if they are no refusal's, and no other are
  pub takes : (c : Call) → refusal_in (header_numbers (header_to c).0) ≡ pos 0 → ¬ (refusal_in (blocks_held c (header_numbers (header_to c).0)).0 ≡ pos 24)
  pub taken : (c : Call) (given : List ℤ) → ¬ (refusal_in (blocks_held c given).0 ≡ pos 24) → (given ≡ header_numbers (header_to c).0) × (refusal_in given ≡ pos 0)
  -- what is taken is answered as the whole parse is, and else nothing is written
  pub answers : (c : Call) (given : List ℤ) → ¬ (refusal_in (blocks_held c given).0 ≡ pos 24) → blocks_held c given ≡ told (answer_to c)
  pub untouched : (c : Call) (given : List ℤ) → refusal_in (blocks_held c given).0 ≡ pos 24 → blocks_held c given ≡ told (unfit, c.room)
  -- the numbers of a header answer are taken exactly where that answer is
  pub claims : (c : Call) (claim : HeaderAnswer) → blocks_held c (header_numbers claim) ≡ told (blocks_to c claim)
  -- nothing after the bit that the header reached matters to its numbers and rows
  pub idle : (c d : Call) (bit : ℕ) → bit_in (header_numbers (header_to c).0) ≡ pos bit → AlikeBefore bit c d → header_told (header_to d) ≡ header_told (header_to c)
