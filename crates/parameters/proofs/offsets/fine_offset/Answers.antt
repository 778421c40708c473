-- `parameters::offsets::fine_offset` meets its contract: a `then` for each element. Assumes nothing.
use Rattle.syntax.proofs.Sequence.{then, stops, refused, finished}
use Rattle.parameters.specs.Parameters.{fine_offset}
use Rattle.parameters.proofs.offsets.fine_offset.Goals as goal

pub returns-in_err-fsnroffst-clause-reads : goal.returns-in_err-fsnroffst-clause-reads
unfolding fine_offset
returns-in_err-fsnroffst-clause-reads c = refused c.from_residual.ensures.1 (stops _ c.in_err-fsnroffst.ensures.reads)

pub returns-in_err-fgaincod-clause-reads : goal.returns-in_err-fgaincod-clause-reads
unfolding fine_offset
returns-in_err-fgaincod-clause-reads c = refused c.from_residual-in_err-fgaincod.ensures.1 (then _ c.in_ok-fsnroffst.ensures.reads (stops _ c.in_err-fgaincod.ensures.reads))

pub returns-clause-reads : goal.returns-clause-reads
unfolding fine_offset
returns-clause-reads c = then _ c.in_ok-fsnroffst.ensures.reads (then _ c.in_ok-fgaincod.ensures.reads (finished))
