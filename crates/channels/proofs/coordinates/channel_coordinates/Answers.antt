-- `channels::coordinates::channel_coordinates` meets its contract: a channel that is not coupled sends none, and of a coupled one the flag says
-- whether it sends some. Assumes nothing.
use Rattle.syntax.proofs.Sequence.{refused, then, stops, took, noticed, finished}
use Rattle.syntax.proofs.Under.{there, absent, present, omitted}
use Rattle.channels.specs.Coupling.{channel_coordinates}
use Rattle.channels.proofs.coordinates.channel_coordinates.Goals as goal

pub returns-then-not-coupling-ch : goal.returns-then-not-coupling-ch
unfolding channel_coordinates
returns-then-not-coupling-ch c = absent _ _ _ c.if-not-coupling-ch.true

pub returns-in_err-cplcoe : goal.returns-in_err-cplcoe
unfolding channel_coordinates
returns-in_err-cplcoe c = refused c.from_residual.ensures.1 (there _ _ _ c.if-not-coupling-ch.false (stops _ (took c.nth.ensures c.in_err-cplcoe.ensures)))

pub returns-in_err-note : goal.returns-in_err-note
unfolding channel_coordinates
returns-in_err-note c =
    refused c.from_residual-in_err-note.ensures.1
    (there _ _ _ c.if-not-coupling-ch.false
    (then _ (took c.nth.ensures c.in_ok-cplcoe.ensures)
    (stops _ (present _ _ c.if-cplcoe.true (stops _ (noticed c.nth-then-cplcoe.ensures c.in_err-note.ensures))))))

pub returns-in_err-coordinates : goal.returns-in_err-coordinates
unfolding channel_coordinates
returns-in_err-coordinates c =
    refused c.from_residual-in_err-coordinates.ensures.1
    (there _ _ _ c.if-not-coupling-ch.false
    (then _ (took c.nth.ensures c.in_ok-cplcoe.ensures)
    (stops _ (present _ _ c.if-cplcoe.true (then _ (noticed c.nth-then-cplcoe.ensures c.in_ok-note.ensures) c.in_err-coordinates.ensures)))))

pub returns-in_ok-coordinates : goal.returns-in_ok-coordinates
unfolding channel_coordinates
returns-in_ok-coordinates c =
    there _ _ _ c.if-not-coupling-ch.false
    (then _ (took c.nth.ensures c.in_ok-cplcoe.ensures)
    (then _ (present _ _ c.if-cplcoe.true (then _ (noticed c.nth-then-cplcoe.ensures c.in_ok-note.ensures) c.in_ok-coordinates.ensures))
    finished))

pub returns-else-cplcoe : goal.returns-else-cplcoe
unfolding channel_coordinates
returns-else-cplcoe c =
    there _ _ _ c.if-not-coupling-ch.false
    (then _ (took c.nth.ensures c.in_ok-cplcoe.ensures)
    (then _ (omitted _ _ c.if-cplcoe.false)
    finished))
