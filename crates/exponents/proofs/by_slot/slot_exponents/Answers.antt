-- `exponents::by_slot::slot_exponents` meets its contract: the strategy says which of the two is read. Assumes nothing.
use borrow.Author.Tests.{eq-eqb, ne_eqb}
use Rattle.syntax.proofs.Sequence.{then, stops, judged, finished}
use Rattle.exponents.specs.Exponents.{slot_exponents}
use Rattle.exponents.proofs.Made.{refused_beside}
use Rattle.exponents.proofs.by_slot.slot_exponents.Goals as goal

pub returns-in_err-refuse_if-clause-reads : goal.returns-in_err-refuse_if-clause-reads
unfolding slot_exponents
returns-in_err-refuse_if-clause-reads c =
    refused_beside _ _ c.from_residual.ensures.1
    (rw (eq-eqb _ 0 c.if-set-eq0.true) (stops _ (judged _ _ (rw c.covers.ensures at c.in_err-refuse_if.ensures))))

pub returns-then-set-eq0-clause-reads : goal.returns-then-set-eq0-clause-reads
unfolding slot_exponents
returns-then-set-eq0-clause-reads c =
    rw (eq-eqb _ 0 c.if-set-eq0.true) (then _ (judged _ _ (rw c.covers.ensures at c.in_ok-refuse_if.ensures)) finished)

pub returns-in_err-exponent_set-clause-reads : goal.returns-in_err-exponent_set-clause-reads
unfolding slot_exponents
returns-in_err-exponent_set-clause-reads c =
    refused_beside _ _ c.from_residual-in_err-exponent_set.ensures.1
    (rw (ne_eqb _ 0 c.if-set-eq0.false) (then _ finished (stops _ c.in_err-exponent_set.ensures.reads)))

pub returns-clause-reads : goal.returns-clause-reads
unfolding slot_exponents
returns-clause-reads c =
    rw (ne_eqb _ 0 c.if-set-eq0.false, c.covering.ensures) (then _ finished (then _ c.in_ok-exponent_set.ensures.reads finished))
