-- `ac3::block::coupling_section` meets its contract: a `then` for each call. Assumes nothing.
use Rattle.syntax.proofs.Sequence.{then, stops, finished}
use Rattle.exponents.proofs.Made.{refused_beside}
use Rattle.ac3.specs.AudioBlock.{coupling_section}
use Rattle.ac3.proofs.block.coupling_section.Goals as goal

pub returns-in_err-coupling-clause-reads : goal.returns-in_err-coupling-clause-reads
unfolding coupling_section
returns-in_err-coupling-clause-reads c = refused_beside _ _ c.from_residual.ensures.1 (rw (← c.nfchans-n.ensures.0) (stops _ c.in_err-coupling.ensures.reads))

pub returns-in_err-cplcoe-clause-reads : goal.returns-in_err-cplcoe-clause-reads
unfolding coupling_section
returns-in_err-cplcoe-clause-reads c = refused_beside _ _ c.from_residual-in_err-cplcoe.ensures.1 (rw (← c.nfchans-n.ensures.0) (then _ c.in_ok-coupling.ensures.reads (stops _ c.in_err-cplcoe.ensures)))

pub returns-in_err-rematrixing-clause-reads : goal.returns-in_err-rematrixing-clause-reads
unfolding coupling_section
returns-in_err-rematrixing-clause-reads c = refused_beside _ _ c.from_residual-in_err-rematrixing.ensures.1 (rw (← c.nfchans-n.ensures.0) (then _ c.in_ok-coupling.ensures.reads (then _ c.in_ok-cplcoe.ensures (stops _ c.in_err-rematrixing.ensures))))

pub returns-clause-reads : goal.returns-clause-reads
unfolding coupling_section
returns-clause-reads c = rw (← c.nfchans-n.ensures.0) (then _ c.in_ok-coupling.ensures.reads (then _ c.in_ok-cplcoe.ensures (then _ c.in_ok-rematrixing.ensures finished)))
