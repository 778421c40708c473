-- `syntax::Reader::take_if` meets its contract: where the test does not hold nothing is read. Assumes nothing.
use Rattle.syntax.proofs.Under.{absent}
use Rattle.syntax.proofs.Reader.take_if.Goals as goal

pub returns-else-present-clause-reads : goal.returns-else-present-clause-reads
returns-else-present-clause-reads c = absent _ _ _ c.if-present.false
