-- Values of the definition, each on an input where a slip would show. Assumes nothing.
use mathlib.Core.List.{[], ◌∷◌}
use mathlib.Core.Path.{◌≡◌, refl}
use Rattle.bits.specs.Bits.{bit_at, value}
use Rattle.tables.specs.Tables.{vq_bits, gaq_bits}
use Rattle.aht.specs.Aht.{active_bins, singles, composites, gains, mantissa, bin, bins, aht, aht_of}
use Rattle.aht.specs.EqualBits.{MantissasSteer}
use Rattle.aht.specs.Walk.{◌>>=◌, times, reached, refused, run}
use Rattle.aht.specs.declared.outcome.Refusal.TheVariants.{PastTheEnd, GainAbove26, HebapAbove19, BinsPastTheArray}

pub mantissas_steer : MantissasSteer
unfolding vq_bits gaq_bits active_bins singles composites gains mantissa bin bins aht ◌>>=◌ times run value bit_at
mantissas_steer = (refl, refl)

-- under gain 4 a tag is one bit, and a large mantissa has all 3: word 26 has gains 4, 4 and 4, of which one is taken
pub composite : (aht_of (0xF4 ∷ 0 ∷ []) 0 16 (8 ∷ []) 0 1 ≡ reached 0 13) × (aht_of (0xF5 ∷ 0 ∷ []) 0 16 (8 ∷ []) 0 1 ≡ reached 1 16)
unfolding vq_bits gaq_bits active_bins singles composites gains mantissa bin bins aht ◌>>=◌ times run value bit_at
composite = (refl, refl)

-- in mode 1 hebap 12 has no gain; in mode 2 hebap 16 has one, and 17 has none
pub modes :
    (aht_of (0x40 ∷ 0 ∷ 0 ∷ 0 ∷ 0 ∷ 0 ∷ []) 0 48 (12 ∷ []) 0 1 ≡ reached 0 44)
    × (aht_of (0x80 ∷ 0 ∷ 0 ∷ 0 ∷ 0 ∷ 0 ∷ 0 ∷ 0 ∷ 0 ∷ []) 0 72 (16 ∷ []) 0 1 ≡ reached 0 69)
    × (aht_of (0x80 ∷ 0 ∷ 0 ∷ 0 ∷ 0 ∷ 0 ∷ 0 ∷ 0 ∷ 0 ∷ 0 ∷ []) 0 80 (17 ∷ []) 0 1 ≡ reached 0 74)
unfolding vq_bits gaq_bits active_bins singles composites gains mantissa bin bins aht ◌>>=◌ times run value bit_at
modes = (refl, refl, refl)

-- an empty range still has its mode
pub empty : (aht_of (0 ∷ []) 3 8 [] 0 0 ≡ reached 0 5) × (aht_of (0 ∷ []) 0 8 (8 ∷ []) 1 0 ≡ reached 0 2)
unfolding vq_bits gaq_bits active_bins singles composites gains mantissa bin bins aht ◌>>=◌ times run value bit_at
empty = (refl, refl)

-- Refusals: the array comes first, also for an empty range; then the given end and that of the bytes; and word 27 before a bin that comes later.
pub refusals :
    (aht_of [] 0 0 [] 5 1 ≡ refused BinsPastTheArray)
    × (aht_of (0 ∷ []) 0 1 [] 0 0 ≡ refused PastTheEnd) × (aht_of (0 ∷ []) 7 99 [] 0 0 ≡ refused PastTheEnd)
    × (aht_of (0xF6 ∷ []) 0 8 (20 ∷ 8 ∷ []) 0 2 ≡ refused GainAbove26) × (aht_of (0 ∷ []) 0 8 (20 ∷ []) 0 1 ≡ refused HebapAbove19)
unfolding vq_bits gaq_bits active_bins singles composites gains mantissa bin bins aht ◌>>=◌ times run value bit_at
refusals = (refl, refl, refl, refl, refl)
