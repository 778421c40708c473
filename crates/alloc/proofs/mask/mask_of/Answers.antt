-- `alloc::mask::mask_of` meets its contract. Assumes nothing.
use Rattle.std.proofs.Common.{◌∙◌, pos, w32, arith}
use mir.ValLaws.{to_z-of_z}
use Rattle.signed.proofs.Bounds.{back_32, cast_32, below_read}
use Rattle.alloc.specs.Allocation.{over_knee}
use Rattle.alloc.proofs.Larger.{larger}
use Rattle.alloc.proofs.mask.mask_of.Goals as goal

pub over_knee-requires : goal.over_knee-requires
over_knee-requires c = (below_read c.requires.0, below_read c.requires.1)

pub returns : goal.returns
returns c =
    let excite = to_z-of_z w32 c.args.excite c.ranges.excite in
    let here = to_z-of_z w32 c.args.here c.ranges.here in
    let knee = back_32 c.over_knee.result c.over_knee.type_inv in
    let quiet = cast_32 c.args.quiet (omega arith) in
    back_32 _ c.max.type_inv ∙ larger (over_knee c.args.excite c.args.here c.args.knee) (pos c.args.quiet) (rw (knee, quiet, c.over_knee.ensures, excite, here) at c.max.ensures.value)
