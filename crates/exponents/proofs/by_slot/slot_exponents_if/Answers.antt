-- `exponents::by_slot::slot_exponents_if` meets its contract: where the slot is absent nothing is read. Assumes nothing.
use Rattle.syntax.proofs.Under.{absent}
use Rattle.exponents.proofs.by_slot.slot_exponents_if.Goals as goal

pub returns-else-present-clause-reads : goal.returns-else-present-clause-reads
returns-else-present-clause-reads c = absent _ _ _ c.if-present.false
