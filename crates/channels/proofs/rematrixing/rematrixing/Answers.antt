-- `channels::rematrixing::rematrixing` meets its contract: acmod and the flag say whether the bands are there. Assumes nothing.
use borrow.Author.Tests.{eq-eqb, ne_eqb}
use Rattle.syntax.proofs.Sequence.{refused, then, stops}
use Rattle.syntax.proofs.Under.{present, omitted}
use Rattle.channels.specs.Coupling.{rematrixing}
use Rattle.channels.proofs.rematrixing.rematrixing.Goals as goal

pub returns-in_err-rematstr : goal.returns-in_err-rematstr
unfolding rematrixing
returns-in_err-rematstr c = refused c.from_residual.ensures.1 (present _ _ (eq-eqb _ 2 c.if-acmod-eq2.true) (stops _ c.in_err-rematstr.ensures))

pub returns-in_err-flags : goal.returns-in_err-flags
unfolding rematrixing
returns-in_err-flags c =
    refused c.from_residual-in_err-flags.ensures.1
    (present _ _ (eq-eqb _ 2 c.if-acmod-eq2.true)
    (then _ c.in_ok-rematstr.ensures
    (present _ _ c.if-rematstr.true
    (rw (c.rematrix_bands.ensures) at c.in_err-flags.ensures))))

pub returns-in_ok-flags : goal.returns-in_ok-flags
unfolding rematrixing
returns-in_ok-flags c =
    present _ _ (eq-eqb _ 2 c.if-acmod-eq2.true)
    (then _ c.in_ok-rematstr.ensures
    (present _ _ c.if-rematstr.true
    (rw (c.rematrix_bands.ensures) at c.in_ok-flags.ensures)))

pub returns-else-rematstr : goal.returns-else-rematstr
unfolding rematrixing
returns-else-rematstr c = present _ _ (eq-eqb _ 2 c.if-acmod-eq2.true) (then _ c.in_ok-rematstr.ensures (omitted _ _ c.if-rematstr.false))

pub returns-else-acmod-eq2 : goal.returns-else-acmod-eq2
unfolding rematrixing
returns-else-acmod-eq2 c = omitted _ _ (ne_eqb _ 2 c.if-acmod-eq2.false)
