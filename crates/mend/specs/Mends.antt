-- What holds of a mended frame: only these fields change, both registers are zero, exactly one crc1 fits, crc2 is not the sync word, and
-- mended once more it is as it was.
use Rattle.std.specs.Prelude.{ℕ, ◌+◌, ◌-◌, ◌*◌, ◌%◌, ◌^◌, ◌≤◌, ◌<◌, List, ◌↔◌, ◌⊎◌, ◌≢◌, ◌≡◌, length}
use Rattle.bits.specs.Bits.{bit_at, value}
use Rattle.bits.specs.Put.{put}
use Rattle.mend.specs.Mend.{FirstIsZero, WholeIsZero, crc2_of, mended}

-- a field between crc1 and crcrsv of a frame that is there
pub record Field (words : ℕ) (s : List ℕ) (at n : ℕ) : Type 0 where
  pub whole : words * 2 ≤ length s
  pub after : 32 ≤ at
  pub before : at + n ≤ words * 16 - 17

-- bit p lies in none of crc1, the field, crcrsv and crc2
pub record Outside (words at n p : ℕ) : Type 0 where
  pub crc1 : (p < 16) ⊎ (32 ≤ p)
  pub field : (p < at) ⊎ (at + n ≤ p)
  pub closing : (p < words * 16 - 17) ⊎ (words * 16 ≤ p)

pub record Mended (words : ℕ) (s : List ℕ) (at n v : ℕ) : Type 0 where
  -- the field holds the value
  pub written : value (mended words s at n v) at n ≡ v % 2 ^ n
  -- only these fields change
  pub others : (p : ℕ) → Outside words at n p → bit_at (mended words s at n v) p ≡ bit_at s p
  pub count : length (mended words s at n v) ≡ length s
  -- both registers are zero
  pub first : FirstIsZero words (mended words s at n v)
  pub whole : WholeIsZero words (mended words s at n v)
  -- crc2 is not the sync word
  pub no_sync : value (mended words s at n v) ((words - 1) * 16) 16 ≢ 0x0B77
  -- once more changes nothing
  pub again : mended words (mended words s at n v) at n v ≡ mended words s at n v

abbrev pub Mends : Type 0
Mends = (words : ℕ) (s : List ℕ) (at n v : ℕ) → Field words s at n → Mended words s at n v

-- exactly one crc1 fits: of the 65,536 words the one that stands there where the register is zero
abbrev pub OneCrc1 : Type 0
OneCrc1 = (words : ℕ) (s : List ℕ) (w : ℕ) → 4 ≤ words → words * 2 ≤ length s → FirstIsZero words s → w < 65536 → FirstIsZero words (put s 16 16 w) ↔ w ≡ value s 16 16

-- flipping crcrsv always changes crc2
abbrev pub FlipChanges : Type 0
FlipChanges = (words : ℕ) (s : List ℕ) → 3 ≤ words → words * 2 ≤ length s
    → let p = words * 16 - 17 in crc2_of words (put s p 1 (1 - value s p 1)) ≢ crc2_of words s
