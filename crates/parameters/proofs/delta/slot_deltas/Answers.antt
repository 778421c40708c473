-- `parameters::delta::slot_deltas` meets its contract: the code says whether new segments are read. Assumes nothing.
use borrow.Author.Tests.{eq-eqb, ne_eqb}
use Rattle.syntax.proofs.Sequence.{then, stops, refused, finished}
use Rattle.syntax.proofs.Under.{there, absent}
use Rattle.parameters.specs.Delta.{slot_deltas}
use Rattle.parameters.proofs.delta.slot_deltas.Goals as goal

pub returns-in_err-next-clause-reads : goal.returns-in_err-next-clause-reads
unfolding slot_deltas
returns-in_err-next-clause-reads c = there _ _ _ (eq-eqb _ 1 c.if-codes-at-ne1.false) (refused c.from_residual.ensures.1 (stops _ c.in_err-next.ensures.reads))

pub returns-then-codes-at-ne1-clause-reads : goal.returns-then-codes-at-ne1-clause-reads
unfolding slot_deltas
returns-then-codes-at-ne1-clause-reads c = absent _ _ _ (ne_eqb _ 1 c.if-codes-at-ne1.true)

pub returns-clause-reads : goal.returns-clause-reads
unfolding slot_deltas
returns-clause-reads c = there _ _ _ (eq-eqb _ 1 c.if-codes-at-ne1.false) (then _ c.in_ok-next.ensures.reads (finished))
