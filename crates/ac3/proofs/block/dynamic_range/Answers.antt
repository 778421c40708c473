-- `ac3::block::dynamic_range` meets its contract: a `then` for each call. Assumes nothing.
use Rattle.syntax.proofs.Sequence.{then, stops, refused, took}
use Rattle.syntax.proofs.Under.{noticed_if}
use Rattle.ac3.specs.AudioBlock.{dynamic_range}
use Rattle.ac3.proofs.block.dynamic_range.Goals as goal

pub returns-in_err-dynrnge : goal.returns-in_err-dynrnge
unfolding dynamic_range
returns-in_err-dynrnge c = refused c.from_residual.ensures.1 (stops _ (took c.one_roled-exists.ensures c.in_err-dynrnge.ensures))

pub returns : goal.returns
unfolding dynamic_range
returns c = then _ (took c.one_roled-exists.ensures c.in_ok-dynrnge.ensures) (noticed_if _ _ c.one_roled-dynrng.ensures c.note_if.ensures)
