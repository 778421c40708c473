-- `alloc::mask::over_knee` meets its contract. Assumes nothing.
use native.Mathlib.Omega.{arith}
use borrow.Author.Rules.{rules}
use lib.IntN.{pos, ◌+ℤ◌, ◌-ℤ◌}
use lib.Signed.{shr_z}
use mir.Syntax.{w32}
use mir.ValLaws.{to_z-of_z}
use Rattle.signed.proofs.Bounds.{bounds, cast_32, below_u16, below_shr}
use Rattle.alloc.specs.Allocation.{over_knee}
use Rattle.alloc.proofs.mask.over_knee.Statement.{statement}
use Rattle.alloc.proofs.mask.over_knee.Tie as tie

cast_k : tie.Need-overflow_cast-k
cast_k c = search rules

sub_result : tie.Need-overflow_sub-result
sub_result c = let knee = below_u16 c.before.args.knee (omega arith) in search bounds depth 12

add_result : tie.Need-overflow_add-result
add_result c = let knee = below_u16 c.before.args.knee (omega arith) in search (bounds, below_shr) depth 12

-- operation by operation, from the inside: what is read back is what was stored
returns : tie.Need-returns-then-here-k
unfolding over_knee
returns c =
    let s = c.before in
    let k = s.args.knee in
    let h = s.args.here in
    let small = below_u16 k (omega arith) in
    let knee = cast_32 k (omega arith) in
    let here = to_z-of_z w32 h s.ranges.here in
    let excite = to_z-of_z w32 s.args.excite s.ranges.excite in
    let under = to_z-of_z w32 (pos k -ℤ h) (search bounds depth 12) in
    let part = to_z-of_z w32 (shr_z (pos k -ℤ h) 4) (search (bounds, below_shr) depth 12) in
    let sum = to_z-of_z w32 (s.args.excite +ℤ shr_z (pos k -ℤ h) 4) (search (bounds, below_shr) depth 12) in
    rw (knee, here, excite, under, part, rw (here, knee) at c.if-here-k.true) sum

returns-2 : tie.Need-returns-else-here-k
unfolding over_knee
returns-2 c =
    let s = c.before in
    let knee = cast_32 s.args.knee (omega arith) in
    let here = to_z-of_z w32 s.args.here s.ranges.here in
    rw (rw (here, knee) at c.if-here-k.false) (to_z-of_z w32 s.args.excite s.ranges.excite)

pub over_knee_spec : {M : Type 1} → statement M
over_knee_spec = tie.close (tie.spec cast_k sub_result add_result returns returns-2)
