-- `channels::strategies::channel_strategies` meets its contract: the invariant says which channels are left. Assumes nothing.
use Rattle.syntax.proofs.Sequence.{refused, then, stops, finished, took, turn, leaves, ends}
use Rattle.slots.proofs.Entries.{set_below}
use Rattle.channels.specs.Strategies.{channel_strategies}
use Rattle.channels.proofs.strategies.channel_strategies.Goals as goal

pub returns-in_err-codes-clause-reads : goal.returns-in_err-codes-clause-reads
unfolding channel_strategies
returns-in_err-codes-clause-reads c =
    refused c.from_residual.ensures.1 (leaves c.loop-ch.invariant.0 c.loop-ch-test.true (stops _ (took c.nth.ensures c.in_err-codes.ensures.reads)))

pub loop-ch-preserved : goal.loop-ch-preserved
loop-ch-preserved c = (
  turn c.loop-ch.invariant.0 c.loop-ch-test.true (then _ (took c.nth.ensures c.in_ok-codes.ensures.reads) finished),
  set_below c.loop-ch.codes c.loop-ch.invariant.1 c.loop-ch.ch _ c.in_ok-codes.ensures.value_bound,
)

pub returns-clause-reads : goal.returns-clause-reads
unfolding channel_strategies
returns-clause-reads c = ends c.loop-ch.invariant.0 c.loop-ch-test.false
