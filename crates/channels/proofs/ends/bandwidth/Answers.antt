-- `channels::ends::bandwidth` meets its contract: the tests say whether the channel sends its bandwidth. Assumes nothing.
use Rattle.syntax.proofs.Sequence.{refused, then, stops, took, judged, finished}
use Rattle.syntax.proofs.Under.{there, absent}
use Rattle.channels.specs.Strategies.{bandwidth}
use Rattle.channels.proofs.ends.bandwidth.Goals as goal

pub returns-then-not-sends-clause-reads : goal.returns-then-not-sends-clause-reads
unfolding bandwidth
returns-then-not-sends-clause-reads c = absent _ _ _ c.if-not-sends.true

pub returns-in_err-chbwcod-clause-reads : goal.returns-in_err-chbwcod-clause-reads
unfolding bandwidth
returns-in_err-chbwcod-clause-reads c =
    refused c.from_residual.ensures.1 (there _ _ _ c.if-not-sends.false (stops _ (took c.nth.ensures c.in_err-chbwcod.ensures.reads)))

pub returns-in_err-refuse_if-clause-reads : goal.returns-in_err-refuse_if-clause-reads
unfolding bandwidth
returns-in_err-refuse_if-clause-reads c =
    refused c.from_residual-in_err-refuse_if.ensures.1
    (there _ _ _ c.if-not-sends.false
    (then _ (took c.nth.ensures c.in_ok-chbwcod.ensures.reads)
    (stops _ (judged _ _ c.in_err-refuse_if.ensures))))

pub returns-clause-reads : goal.returns-clause-reads
unfolding bandwidth
returns-clause-reads c =
    there _ _ _ c.if-not-sends.false
    (then _ (took c.nth.ensures c.in_ok-chbwcod.ensures.reads)
    (then _ (judged _ _ c.in_ok-refuse_if.ensures)
    finished))
