-- `syntax::Reader::flags` meets its contract: the invariant says which flags are left. Assumes nothing.
use Rattle.syntax.proofs.Sequence.{refused, noticed, turn, leaves, ends}
use Rattle.syntax.proofs.Reader.flags.Goals as goal

pub returns-in_err-note : goal.returns-in_err-note
returns-in_err-note c = refused c.from_residual.ensures.1 (leaves c.loop-i.invariant c.loop-i-test.true (noticed c.nth.ensures c.in_err-note.ensures))

pub loop-i-preserved : goal.loop-i-preserved
loop-i-preserved c = turn c.loop-i.invariant c.loop-i-test.true (noticed c.nth.ensures c.in_ok-note.ensures)

pub returns : goal.returns
returns c = ends c.loop-i.invariant c.loop-i-test.false
