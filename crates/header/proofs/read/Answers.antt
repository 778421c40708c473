-- `header::read` meets its contract: a `then` for each call. Assumes nothing.
use Rattle.syntax.proofs.Sequence.{then, stops, refused}
use Rattle.header.specs.Header.{header}
use Rattle.header.proofs.read.Goals as goal

pub returns-in_err-fscod-clause-reads : goal.returns-in_err-fscod-clause-reads
unfolding header
returns-in_err-fscod-clause-reads c = refused c.from_residual.ensures.1 (stops _ c.in_err-fscod.ensures.reads)

pub returns-clause-reads : goal.returns-clause-reads
unfolding header
returns-clause-reads c = then _ c.in_ok-fscod.ensures.reads (c.bsi.ensures.reads)
