-- `ac3::block::alloc_state` meets its contract: a `then` for each call. Assumes nothing.
use Rattle.syntax.proofs.Sequence.{then, stops, finished, refused}
use Rattle.ac3.specs.AudioBlock.{alloc_state}
use Rattle.ac3.proofs.block.alloc_state.Goals as goal

pub returns-in_err-curve-clause-reads : goal.returns-in_err-curve-clause-reads
unfolding alloc_state
returns-in_err-curve-clause-reads c = refused c.from_residual.ensures.1 (stops _ c.in_err-curve.ensures.reads)

pub returns-in_err-offsets-clause-reads : goal.returns-in_err-offsets-clause-reads
unfolding alloc_state
returns-in_err-offsets-clause-reads c = refused c.from_residual-in_err-offsets.ensures.1 (then _ c.in_ok-curve.ensures.reads (stops _ c.in_err-offsets.ensures.reads))

pub returns-in_err-leak-clause-reads : goal.returns-in_err-leak-clause-reads
unfolding alloc_state
returns-in_err-leak-clause-reads c = refused c.from_residual-in_err-leak.ensures.1 (then _ c.in_ok-curve.ensures.reads (then _ c.in_ok-offsets.ensures.reads (stops _ c.in_err-leak.ensures.reads)))

pub returns-in_err-deltas-clause-reads : goal.returns-in_err-deltas-clause-reads
unfolding alloc_state
returns-in_err-deltas-clause-reads c = refused c.from_residual-in_err-deltas.ensures.1 (then _ c.in_ok-curve.ensures.reads (then _ c.in_ok-offsets.ensures.reads (then _ c.in_ok-leak.ensures.reads (stops _ c.in_err-deltas.ensures.reads))))

pub returns-clause-reads : goal.returns-clause-reads
unfolding alloc_state
returns-clause-reads c = then _ c.in_ok-curve.ensures.reads (then _ c.in_ok-offsets.ensures.reads (then _ c.in_ok-leak.ensures.reads (then _ c.in_ok-deltas.ensures.reads finished)))
