-- `channels::ends::channel_ends` meets its contract: the invariant says which channels are left. Assumes nothing.
use Rattle.syntax.proofs.Sequence.{refused, then, stops, finished, turn, leaves, ends}
use Rattle.slots.proofs.Entries.{set_below}
use Rattle.channels.specs.Strategies.{channel_ends}
use Rattle.channels.proofs.ends.channel_ends.Goals as goal

pub returns-in_err-ends-clause-by_index : goal.returns-in_err-ends-clause-by_index
unfolding channel_ends
returns-in_err-ends-clause-by_index c =
    λ r. refused c.from_residual.ensures.1 (leaves (c.loop-ch.invariant.0 r) c.loop-ch-test.true (stops _ (c.in_err-ends.ensures.by_index r)))

pub loop-ch-preserved : goal.loop-ch-preserved
loop-ch-preserved c = (
  λ r. turn (c.loop-ch.invariant.0 r) c.loop-ch-test.true (then _ (c.in_ok-ends.ensures.by_index r) finished),
  set_below c.loop-ch.ends c.loop-ch.invariant.1 c.loop-ch.ch _ c.in_ok-ends.ensures.end_bound,
)

pub returns-clause-by_index : goal.returns-clause-by_index
unfolding channel_ends
returns-clause-by_index c = λ r. ends (c.loop-ch.invariant.0 r) c.loop-ch-test.false
