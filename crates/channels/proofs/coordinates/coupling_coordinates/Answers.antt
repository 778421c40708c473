-- `channels::coordinates::coupling_coordinates` meets its contract: the tests say whether there is coupling, and whether phase flags follow. Assumes nothing.
use Rattle.std.proofs.lemmas.Bool.{not-true, not-false}
use Rattle.syntax.proofs.Sequence.{refused, then, stops, finished}
use Rattle.syntax.proofs.Under.{there, absent, present, omitted}
use Rattle.channels.specs.Coupling.{phase_flags, coupling_coordinates}
use Rattle.channels.proofs.coordinates.coupling_coordinates.Goals as goal

pub returns-then-not-coupling : goal.returns-then-not-coupling
unfolding coupling_coordinates
returns-then-not-coupling c = absent _ _ _ (not-true _ c.if-not-coupling.true)

pub returns-in_err-sent : goal.returns-in_err-sent
unfolding coupling_coordinates
returns-in_err-sent c = refused c.from_residual.ensures.1 (there _ _ _ (not-false _ c.if-not-coupling.false) (stops _ c.in_err-sent.ensures))

pub returns-in_err-flags : goal.returns-in_err-flags
unfolding coupling_coordinates phase_flags
returns-in_err-flags c =
    refused c.from_residual-in_err-flags.ensures.1
    (there _ _ _ (not-false _ c.if-not-coupling.false)
    (then _ c.in_ok-sent.ensures
    (stops _ (present _ _ c.if-coupling-sent.true c.in_err-flags.ensures))))

pub returns-in_ok-flags : goal.returns-in_ok-flags
unfolding coupling_coordinates phase_flags
returns-in_ok-flags c =
    there _ _ _ (not-false _ c.if-not-coupling.false)
    (then _ c.in_ok-sent.ensures
    (then _ (present _ _ c.if-coupling-sent.true c.in_ok-flags.ensures)
    finished))

pub returns-else-coupling-sent : goal.returns-else-coupling-sent
unfolding coupling_coordinates phase_flags
returns-else-coupling-sent c =
    there _ _ _ (not-false _ c.if-not-coupling.false)
    (then _ c.in_ok-sent.ensures
    (then _ (omitted _ _ c.if-coupling-sent.false)
    finished))
