-- `channels::ends::channel_end` meets its contract: a coupled channel ends where the coupling begins, and another by its bandwidth. Assumes nothing.
use mathlib.Core.Path.{ap}
use mathlib.Core.Bool.{not}
use Rattle.syntax.proofs.Sequence.{refused, then, stops, judged, finished}
use Rattle.syntax.proofs.Under.{there, absent}
use Rattle.channels.specs.Strategies.{channel_end}
use Rattle.channels.proofs.ends.channel_end.Goals as goal

pub returns-then-coupling-at-clause-by_index : goal.returns-then-coupling-at-clause-by_index
unfolding channel_end
returns-then-coupling-at-clause-by_index c = λ r. rw c.first_coupled.ensures (absent _ _ _ (ap not c.if-coupling-at.true))

pub returns-in_err-refuse_if-clause-by_index : goal.returns-in_err-refuse_if-clause-by_index
unfolding channel_end
returns-in_err-refuse_if-clause-by_index c =
    λ r. refused c.from_residual.ensures.1 (there _ _ _ (ap not c.if-coupling-at.false) (stops _ (judged _ _ c.in_err-refuse_if.ensures)))

pub returns-clause-by_index : goal.returns-clause-by_index
unfolding channel_end
returns-clause-by_index c =
    λ r. rw c.past_channel.ensures (there _ _ _ (ap not c.if-coupling-at.false) (then _ (judged _ _ c.in_ok-refuse_if.ensures) finished))
