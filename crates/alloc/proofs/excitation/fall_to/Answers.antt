-- `alloc::excitation::fall_to` meets its contract. Assumes nothing.
use Rattle.std.proofs.Common.{◌≡◌, ◌∙◌, pos, ◌-ℤ◌, w32, to_z, of_z, arith}
use mir.ValLaws.{to_z-of_z}
use Rattle.signed.proofs.Bounds.{bounds, back_32, cast_32, below_u16}
use Rattle.alloc.specs.Allocation.{fall_to}
use Rattle.alloc.proofs.Larger.{larger}
use Rattle.alloc.proofs.excitation.fall_to.Goals as goal

pub returns : goal.returns
unfolding fall_to
returns c =
    let decay = below_u16 c.args.decay (omega arith) in
    let cast = cast_32 c.args.decay (omega arith) in
    let leak = to_z-of_z w32 c.args.leak c.ranges.leak in
    let floor = to_z-of_z w32 c.args.floor c.ranges.floor in
    let less : to_z w32 (of_z w32 (c.args.leak -ℤ pos c.args.decay)) ≡ c.args.leak -ℤ pos c.args.decay = to_z-of_z w32 _ (search bounds depth 12) in
    back_32 _ c.max.type_inv ∙ larger (c.args.leak -ℤ pos c.args.decay) c.args.floor (rw (leak, cast, less, floor) at c.max.ensures.value)
