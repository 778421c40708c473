-- `parameters::offsets::fine_offset_when` meets its contract: where the slot is not in use nothing is read. Assumes nothing.
use Rattle.syntax.proofs.Under.{absent}
use Rattle.parameters.proofs.offsets.fine_offset_when.Goals as goal

pub returns-clause-reads : goal.returns-clause-reads
returns-clause-reads c = absent _ _ _ c.if-used.false
