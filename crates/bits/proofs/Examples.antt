-- Bits by computation. Assumes nothing.
use mathlib.Core.List.{[], ◌∷◌}
use mathlib.Core.Path.{◌≡◌, refl}
use Rattle.bits.specs.Bits.{bit_at, bits_before}
use Rattle.bits.specs.Put.{with_bit, put_bit, put}

-- the bits of 0B 77
bits_of_the_sync_word : bits_before (0x0B ∷ 0x77 ∷ []) 16 ≡ 0 ∷ 0 ∷ 0 ∷ 0 ∷ 1 ∷ 0 ∷ 1 ∷ 1 ∷ 0 ∷ 1 ∷ 1 ∷ 1 ∷ 0 ∷ 1 ∷ 1 ∷ 1 ∷ []
unfolding bits_before bit_at
bits_of_the_sync_word = refl

-- five bits written across the border of two bytes
five_bits_across : put (0xFF ∷ 0x00 ∷ 0xFF ∷ []) 6 5 0b01101 ≡ 0xFD ∷ 0xA0 ∷ 0xFF ∷ []
unfolding put put_bit with_bit
five_bits_across = refl
