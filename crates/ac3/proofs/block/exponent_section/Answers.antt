-- `ac3::block::exponent_section` meets its contract: a `then` for each call. Assumes nothing.
use Rattle.syntax.proofs.Sequence.{then, stops, finished}
use Rattle.exponents.proofs.Made.{refused_beside}
use Rattle.ac3.specs.AudioBlock.{exponent_section}
use Rattle.ac3.proofs.block.exponent_section.Goals as goal

pub returns-in_err-strategies-clause-reads : goal.returns-in_err-strategies-clause-reads
unfolding exponent_section
returns-in_err-strategies-clause-reads c = refused_beside _ _ c.from_residual.ensures.1 (rw (← c.nfchans-n.ensures.0) (stops _ c.in_err-strategies.ensures.reads))

pub returns-in_err-bandwidths-clause-reads : goal.returns-in_err-bandwidths-clause-reads
unfolding exponent_section
returns-in_err-bandwidths-clause-reads c = refused_beside _ _ c.from_residual-in_err-bandwidths.ensures.1 (rw (← c.nfchans-n.ensures.0) (then _ c.in_ok-strategies.ensures.reads (stops _ c.in_err-bandwidths.ensures.reads)))

pub returns-in_err-ends-clause-reads : goal.returns-in_err-ends-clause-reads
unfolding exponent_section
returns-in_err-ends-clause-reads c = refused_beside _ _ c.from_residual-in_err-ends.ensures.1 (rw (← c.nfchans-n.ensures.0) (then _ c.in_ok-strategies.ensures.reads (then _ c.in_ok-bandwidths.ensures.reads (stops _ (c.in_err-ends.ensures.by_index _)))))

pub returns-in_err-cover-clause-reads : goal.returns-in_err-cover-clause-reads
unfolding exponent_section
returns-in_err-cover-clause-reads c = refused_beside _ _ c.from_residual-in_err-cover.ensures.1 (rw (← c.nfchans-n.ensures.0) (then _ c.in_ok-strategies.ensures.reads (then _ c.in_ok-bandwidths.ensures.reads (then _ (c.in_ok-ends.ensures.by_index _) (stops _ c.in_err-cover.ensures.reads)))))

pub returns-clause-reads : goal.returns-clause-reads
unfolding exponent_section
returns-clause-reads c = rw (← c.nfchans-n.ensures.0) (then _ c.in_ok-strategies.ensures.reads (then _ c.in_ok-bandwidths.ensures.reads (then _ (c.in_ok-ends.ensures.by_index _) (then _ c.in_ok-cover.ensures.reads finished))))
