-- A turn tells one number more.
use Rattle.std.proofs.Common.{◌-◌, refl, arith}
use Rattle.packed.specs.Text.{step, tell}
use Rattle.packed.proofs.AtOnce.{spaced_moves}
use Rattle.packed.proofs.Passes.{begins, joined, moved, room_for}
use Rattle.packed.proofs.rows.spaced.Goals as goal

pub loop-left-init : goal.loop-left-init
loop-left-init g c = (begins step tell g.met.T.Teller.laws _ _ _ _ c.requires.0, c.requires.2, omega arith, omega arith)

pub packed-to-requires : goal.packed-to-requires
packed-to-requires g c =
    let l = c.loop-left in
    let m = spaced_moves c.args.text.now c.args.rows (l.left - 1) l.i c.in-Some.n (omega arith) (omega arith) c.requires.1 c.in-Some.ensures in
    room_for step tell g.met.T.Teller.laws c.requires.0 l.invariant.0 refl m

pub loop-left-preserved : goal.loop-left-preserved
loop-left-preserved g c =
    let l = c.loop-left in
    let m = spaced_moves c.args.text.now c.args.rows (l.left - 1) l.i c.in-Some.n (omega arith) (omega arith) c.requires.1 c.in-Some.ensures in (
      joined step tell g.met.T.Teller.laws c.requires.0 l.invariant.0 (moved step tell g.met.T.Teller.laws m c.packed-to.ensures),
      m.within,
      omega arith,
      omega arith,
    )
