-- `parameters::delta::deltas` meets its contract: the flag says whether segments are coded, and else the block whether any stay. Assumes nothing.
use borrow.Author.Tests.{eq-eqb, ne_eqb}
use Rattle.syntax.proofs.Sequence.{then, stops, refused, took, finished}
use Rattle.syntax.proofs.Under.{there}
use Rattle.parameters.specs.Delta.{deltas}
use Rattle.slots.proofs.Entries.{deltas_none}
use Rattle.parameters.proofs.delta.deltas.Goals as goal

pub returns-in_err-flag-clause-reads : goal.returns-in_err-flag-clause-reads
unfolding deltas
returns-in_err-flag-clause-reads c = refused c.from_residual.ensures.1 (stops _ (took c.one.ensures c.in_err-flag.ensures))

pub returns-then-branch-clause-reads : goal.returns-then-branch-clause-reads
unfolding deltas
returns-then-branch-clause-reads c = then _ (took c.one.ensures c.in_ok-flag.ensures) (there _ _ _ c.if-branch.true c.coded_deltas.ensures.reads)

pub returns-then-blk-eq0-clause-reads : goal.returns-then-blk-eq0-clause-reads
unfolding deltas
returns-then-blk-eq0-clause-reads c = then _ (took c.one.ensures c.in_ok-flag.ensures) (rw (c.if-branch.false, eq-eqb _ 0 c.if-blk-eq0.true) finished)

pub returns-clause-reads : goal.returns-clause-reads
unfolding deltas
returns-clause-reads c = then _ (took c.one.ensures c.in_ok-flag.ensures) (rw (c.if-branch.false, ne_eqb _ 0 c.if-blk-eq0.false) finished)

pub returns-then-blk-eq0-clause-sound_deltas : goal.returns-then-blk-eq0-clause-sound_deltas
returns-then-blk-eq0-clause-sound_deltas c = deltas_none
