-- What is promised of the walk besides its answer. In AC-3 no mantissa bit steers anything (demand 3: bits inside spans change no row). Here mantissa
-- values steer the length (`MantissasSteer`), so that only this holds: equal bits give equal ends and tags.
use Rattle.std.specs.Prelude.{List, [], ◌∷◌, ◌≡◌, ℕ, ◌≤◌, ◌<◌}
use Rattle.bits.specs.Bits.{bit_at}
use Rattle.aht.specs.Aht.{limit_of, aht_of}
use Rattle.aht.specs.Walk.{reached}

-- the bits from one place up to another are the same
abbrev pub SameBits : List ℕ → List ℕ → (first past : ℕ) → Type 0
SameBits s t first past = (p : ℕ) → first ≤ p → p < past → bit_at s p ≡ bit_at t p

-- Bytes with the bits that a walk went over have its answer: what stands before or after them, and how far one may read beyond them, is of no account.
abbrev pub EqualBits : Type 0
EqualBits =
    (s t : List ℕ) (at end end' : ℕ) (hebap : List ℕ) (first past stop tags : ℕ) → aht_of s at end hebap first past ≡ reached tags stop
    → stop ≤ limit_of t end' → SameBits s t at stop → aht_of t at end' hebap first past ≡ reached tags stop

-- a refusal too goes by the bits alone, up to the same limit
abbrev pub EqualRefusals : Type 0
EqualRefusals =
    (s t : List ℕ) (at end end' : ℕ) (hebap : List ℕ) (first past : ℕ) →
    limit_of s end ≡ limit_of t end' → SameBits s t at (limit_of s end) → aht_of t at end' hebap first past ≡ aht_of s at end hebap first past

-- One bin of hebap 8 under gain 2: six mantissas of 2 bits, from bit 3 on. Bytes that differ in bit 3 alone, which makes the first mantissa a tag,
-- end 2 bits apart.
abbrev pub MantissasSteer : Type 0
MantissasSteer = (aht_of (0x60 ∷ 0 ∷ 0 ∷ []) 0 24 (8 ∷ []) 0 1 ≡ reached 0 15) × (aht_of (0x70 ∷ 0 ∷ 0 ∷ []) 0 24 (8 ∷ []) 0 1 ≡ reached 1 17)
