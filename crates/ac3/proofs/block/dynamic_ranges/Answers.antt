-- `ac3::block::dynamic_ranges` meets its contract: the invariant says which programmes are left. Assumes nothing.
use Rattle.syntax.proofs.Sequence.{refused, turn, leaves, ends}
use Rattle.ac3.proofs.block.dynamic_ranges.Goals as goal

pub returns-in_err-dynamic_range : goal.returns-in_err-dynamic_range
returns-in_err-dynamic_range c = refused c.from_residual.ensures.1 (leaves c.loop-p.invariant (rw c.programmes-p-end.ensures.value at c.loop-p-test.true) c.in_err-dynamic_range.ensures)

pub loop-p-preserved : goal.loop-p-preserved
loop-p-preserved c = turn c.loop-p.invariant (rw c.programmes-p-end.ensures.value at c.loop-p-test.true) c.in_ok-dynamic_range.ensures

pub returns : goal.returns
returns c = ends c.loop-p.invariant (rw c.programmes-p-end.ensures.value at c.loop-p-test.false)
