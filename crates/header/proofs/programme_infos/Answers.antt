-- `header::programme_infos` meets its contract: the invariant says which programmes are left. Assumes nothing.
use Rattle.syntax.proofs.Sequence.{refused, turn, leaves, ends}
use Rattle.header.proofs.programme_infos.Goals as goal

pub returns-in_err-programme_info : goal.returns-in_err-programme_info
returns-in_err-programme_info c = refused c.from_residual.ensures.1 (leaves c.loop-p.invariant (rw c.programmes-p-end.ensures.value at c.loop-p-test.true) c.in_err-programme_info.ensures)

pub loop-p-preserved : goal.loop-p-preserved
loop-p-preserved c = turn c.loop-p.invariant (rw c.programmes-p-end.ensures.value at c.loop-p-test.true) c.in_ok-programme_info.ensures

pub returns : goal.returns
returns c = ends c.loop-p.invariant (rw c.programmes-p-end.ensures.value at c.loop-p-test.false)
