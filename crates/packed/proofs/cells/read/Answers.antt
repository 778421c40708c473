-- A turn tells one row more.
use Rattle.std.proofs.Common.{◌≡◌, ◌+◌, ◌-◌, refl, arith}
use Rattle.packed.specs.Packed.{step, tell}
use Rattle.packed.proofs.Stored.{spot_moves}
use Rattle.packed.proofs.Passes.{begins, joined, moved, room_for}
use Rattle.packed.proofs.cells.read.Goals as goal

pub loop-after-init : goal.loop-after-init
loop-after-init g c = (begins step tell g.met.T.Teller.laws _ _ _ _ c.requires.0, c.requires.1)

pub returns-then-front-gt0 : goal.returns-then-front-gt0
returns-then-front-gt0 g c =
    let l = c.loop-after in
    let p = c.spaced-front.ensures in
    let more : l.after - 1 + 1 ≡ l.after = omega arith in
    (joined step tell g.met.T.Teller.laws c.requires.0 l.invariant.0 (rw more at p.0), p.1)

pub returns-in_default : goal.returns-in_default
returns-in_default g c =
    let l = c.loop-after in
    let p = c.spaced-front.ensures in
    let more : l.after - 1 + 1 ≡ l.after = omega arith in
    (joined step tell g.met.T.Teller.laws c.requires.0 l.invariant.0 (rw more at p.0), p.1)

pub text-to-requires : goal.text-to-requires
text-to-requires g c =
    let laws = g.met.T.Teller.laws in
    let l = c.loop-after in
    let p = c.spaced-front in
    let more : l.after - 1 + 1 ≡ l.after = omega arith in
    let none : p.result.left ≡ 0 = omega arith in
    let row = joined step tell laws c.requires.0 l.invariant.0 (rw (p.ensures.2, none, more) at p.ensures.0) in
    room_for step tell laws c.requires.0 row refl (spot_moves c.args.packed.now l.after 0 p.result.end c.in-Some.n (omega arith) c.in-Some.ensures)

pub loop-after-preserved : goal.loop-after-preserved
loop-after-preserved g c =
    let laws = g.met.T.Teller.laws in
    let l = c.loop-after in
    let p = c.spaced-front in
    let more : l.after - 1 + 1 ≡ l.after = omega arith in
    let none : p.result.left ≡ 0 = omega arith in
    let row = joined step tell laws c.requires.0 l.invariant.0 (rw (p.ensures.2, none, more) at p.ensures.0) in
    let m = spot_moves c.args.packed.now l.after 0 p.result.end c.in-Some.n (omega arith) c.in-Some.ensures in
    (joined step tell laws c.requires.0 row (moved step tell laws m c.text-to.ensures), m.within)
