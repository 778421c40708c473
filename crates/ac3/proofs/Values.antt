-- Values on each side, by computation. Assumes nothing.
use mathlib.Core.Bool.{Bool, true, false, cond}
use mathlib.Core.Path.{◌≡◌, refl}
use lib.IntN.{ℤ, pos, ◌+ℤ◌, +ℤ_invr}
use lib.Signed.{lt_z}
use Rattle.bits.specs.Bits.{value, bit_at}
use Rattle.tables.specs.Tables.{frame_bytes, words48, words44, words32, bap_bits, band_end, log_add}
use Rattle.alloc.specs.Allocation.{logadd, snr_offset, band_of, delta_of}
use Rattle.syntax.specs.Grammar.{◌>>=◌, turns}
use Rattle.syntax.specs.Run.{sum, run, unless, room_check, check}
use Rattle.channels.specs.Coupling.{how_many, coupled_channels, coupling_bands, new_coupling}
use Rattle.exponents.specs.Exponents.{group, unpack, step}
use Rattle.mantissas.specs.Mantissas.{widths}
use Rattle.ac3.specs.Values.{ValuesOnEachSide}

cond_same : (b : Bool) (a : ℤ) → cond b a a ≡ a
cond_same true a = refl
cond_same false a = refl

sum_of_equals : (a : ℤ) → logadd a a ≡ a +ℤ pos 64
unfolding logadd log_add
sum_of_equals a = rw (cond_same (lt_z a a) a, +ℤ_invr a) refl

pub values_on_each_side : ValuesOnEachSide
unfolding frame_bytes words48 words44 words32 value bit_at new_coupling coupled_channels coupling_bands how_many turns group unpack step ◌>>=◌ run unless room_check check band_of band_end snr_offset delta_of sum widths bap_bits logadd log_add
values_on_each_side = (refl, refl, refl, refl, refl, refl, refl, refl, refl, refl, refl, refl, sum_of_equals)
