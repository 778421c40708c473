-- `channels::coupling::coupled_channels` meets its contract: the invariant says which channels are left. Assumes nothing.
use Rattle.syntax.proofs.Sequence.{refused, then, stops, finished, took, turn, leaves, ends}
use Rattle.channels.specs.Coupling.{coupled_channels}
use Rattle.channels.proofs.coupling.coupled_channels.Goals as goal

pub returns-in_err-chincpl : goal.returns-in_err-chincpl
unfolding coupled_channels
returns-in_err-chincpl c = refused c.from_residual.ensures.1 (leaves c.loop-ch.invariant c.loop-ch-test.true (stops _ (took c.nth.ensures c.in_err-chincpl.ensures)))

pub loop-ch-preserved : goal.loop-ch-preserved
loop-ch-preserved c = turn c.loop-ch.invariant c.loop-ch-test.true (then _ (took c.nth.ensures c.in_ok-chincpl.ensures) finished)

pub returns : goal.returns
unfolding coupled_channels
returns c = ends c.loop-ch.invariant c.loop-ch-test.false
