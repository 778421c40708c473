-- A turn tells what a byte tells.
use Rattle.std.proofs.Common.{refl}
use Rattle.packed.specs.Packed.{step, tell}
use Rattle.packed.proofs.Passes.{joined, moved, one_byte, room_for}
use Rattle.packed.proofs.of_packed.read.Goals as goal

pub tell_on-to-requires : goal.tell_on-to-requires
tell_on-to-requires g c =
    room_for step tell g.met.T.Teller.laws c.requires c.loop-b.invariant refl (one_byte step tell _ c.loop-b.s c.loop-b.b-index c.loop-b-test.true)

pub loop-b-preserved : goal.loop-b-preserved
loop-b-preserved g c =
    let laws = g.met.T.Teller.laws in
    let m = one_byte step tell _ c.loop-b.s c.loop-b.b-index c.loop-b-test.true in
    rw c.step_on-s.ensures (joined step tell laws c.requires c.loop-b.invariant (moved step tell laws m c.tell_on-to.ensures))
