-- `alloc::psd::level` meets its contract. Assumes nothing.
use mathlib.Core.Path.{◌≡◌}
use Prim.Native.Nat.{◌*◌, ◌%◌, ◌^◌}
use lib.IntN.{pos, ◌*ℤ◌}
use mir.Syntax.{w16, w32}
use mir.Val.{to_z, of_z}
use mir.ValLaws.{to_z-of_z}
use Rattle.signed.proofs.Bounds.{bounds, levels, below_i16, below_128}
use Rattle.signed.proofs.Shift.{shl_by}
use Rattle.alloc.specs.Allocation.{psd_of}
use Rattle.alloc.proofs.psd.level.Statement.{statement}
use Rattle.alloc.proofs.psd.level.Tie as tie

cast_result : tie.Need-overflow_cast-result
cast_result c = rw (to_z-of_z w16 c.args.exponent c.ranges.exponent) (search (bounds, below_i16))

-- what the shift gives
shifted : (c : tie.Start) → to_z w32 ((of_z w32 (to_z w16 (of_z w16 c.args.exponent)) * 2 ^ 7) % 2 ^ 32) ≡ c.args.exponent *ℤ pos 128
shifted c = rw (to_z-of_z w16 c.args.exponent c.ranges.exponent) (shl_by 7 c.args.exponent (search (bounds, below_i16)) tt)

sub_result : tie.Need-overflow_sub-result
sub_result c = rw (shifted c) (search (bounds, below_i16, below_128) depth 12)

returns : tie.Need-returns
unfolding psd_of
returns c = rw (shifted c) (search (levels, below_i16, below_128) depth 12)

pub level_spec : {M : Type 1} → statement M
level_spec = tie.close (tie.spec cast_result sub_result returns)
