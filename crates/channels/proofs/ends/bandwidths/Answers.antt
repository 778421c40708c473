-- `channels::ends::bandwidths` meets its contract: the invariant says which channels are left. Assumes nothing.
use Rattle.syntax.proofs.Sequence.{refused, turn, leaves, ends}
use Rattle.channels.specs.Strategies.{bandwidths}
use Rattle.channels.proofs.ends.bandwidths.Goals as goal

pub returns-in_err-bandwidths-clause-reads : goal.returns-in_err-bandwidths-clause-reads
unfolding bandwidths
returns-in_err-bandwidths-clause-reads c =
    refused c.from_residual.ensures.1 (leaves c.loop-ch.invariant.0 c.loop-ch-test.true c.in_err-bandwidths.ensures.reads)

pub loop-ch-preserved : goal.loop-ch-preserved
loop-ch-preserved c =
    (turn c.loop-ch.invariant.0 c.loop-ch-test.true c.in_ok-bandwidths.ensures.reads, c.in_ok-bandwidths.ensures.sound_bandwidths_2)

pub returns-clause-reads : goal.returns-clause-reads
unfolding bandwidths
returns-clause-reads c = ends c.loop-ch.invariant.0 c.loop-ch-test.false
