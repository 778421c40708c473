-- `channels::coordinates::sent_coordinates` meets its contract: the invariant says which channels are left. Assumes nothing.
use Rattle.syntax.proofs.Sequence.{refused, then, stops, finished, turn, leaves, ends}
use Rattle.channels.proofs.coordinates.sent_coordinates.Goals as goal

pub returns-in_err-sent : goal.returns-in_err-sent
returns-in_err-sent c = refused c.from_residual.ensures.1 (leaves c.loop-ch.invariant c.loop-ch-test.true (stops _ c.in_err-sent.ensures))

pub loop-ch-preserved : goal.loop-ch-preserved
loop-ch-preserved c = turn c.loop-ch.invariant c.loop-ch-test.true (then _ c.in_ok-sent.ensures finished)

pub returns : goal.returns
returns c = ends c.loop-ch.invariant c.loop-ch-test.false
