-- `ac3::frame` meets its contract: header and blocks are read one after the other. Assumes nothing.
use Rattle.syntax.proofs.Sequence.{then, stops}
use Rattle.exponents.proofs.Made.{refused_beside}
use Rattle.ac3.specs.Frame.{syncframe}
use Rattle.ac3.proofs.frame.Goals as goal

pub returns-in_err-header : goal.returns-in_err-header
unfolding syncframe
returns-in_err-header c = refused_beside _ _ c.from_residual.ensures.1 (stops _ c.in_err-header.ensures.reads)

pub returns-in_err-tally : goal.returns-in_err-tally
unfolding syncframe
returns-in_err-tally c = refused_beside _ _ c.from_residual-in_err-tally.ensures.1 (then _ c.in_ok-header.ensures.reads c.in_err-tally.ensures)

pub returns : goal.returns
unfolding syncframe
returns c = then _ c.in_ok-header.ensures.reads c.in_ok-tally.ensures
