-- A turn tells one row more.
use Rattle.std.proofs.Common.{◌≡◌, refl, arith}
use Prim.Native.Nat.{zero-le}
use Rattle.packed.specs.Text.{step, tell}
use Rattle.packed.proofs.AtOnce.{cell_moves}
use Rattle.packed.proofs.Passes.{begins, joined, moved, room_for}
use Rattle.packed.proofs.rows.read.Goals as goal

pub loop-rows-init : goal.loop-rows-init
loop-rows-init g c = (begins step tell g.met.T.Teller.laws _ _ _ _ c.requires, omega arith)

pub returns-then-front-gt0 : goal.returns-then-front-gt0
returns-then-front-gt0 g c =
    let p = c.spaced-front.ensures in
    (joined step tell g.met.T.Teller.laws c.requires c.loop-rows.invariant.0 p.0, p.1)

pub returns-in_default : goal.returns-in_default
returns-in_default g c =
    let p = c.spaced-front.ensures in
    (joined step tell g.met.T.Teller.laws c.requires c.loop-rows.invariant.0 p.0, p.1)

pub packed-to-requires : goal.packed-to-requires
packed-to-requires g c =
    let laws = g.met.T.Teller.laws in
    let l = c.loop-rows in
    let p = c.spaced-front in
    let none : p.result.left ≡ 0 = omega arith in
    let row = joined step tell laws c.requires l.invariant.0 (rw (p.ensures.2, none) at p.ensures.0) in
    room_for step tell laws c.requires row refl (cell_moves c.args.text.now l.rows 0 p.result.end c.in-Some.n zero-le (omega arith) c.in-Some.ensures)

pub loop-rows-preserved : goal.loop-rows-preserved
loop-rows-preserved g c =
    let laws = g.met.T.Teller.laws in
    let l = c.loop-rows in
    let p = c.spaced-front in
    let none : p.result.left ≡ 0 = omega arith in
    let row = joined step tell laws c.requires l.invariant.0 (rw (p.ensures.2, none) at p.ensures.0) in
    let m = cell_moves c.args.text.now l.rows 0 p.result.end c.in-Some.n zero-le (omega arith) c.in-Some.ensures in
    (joined step tell laws c.requires row (moved step tell laws m c.packed-to.ensures), m.within)
