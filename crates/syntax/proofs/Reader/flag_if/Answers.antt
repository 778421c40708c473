-- `syntax::Reader::flag_if` meets its contract: where the test does not hold nothing is read. Assumes nothing.
use Rattle.syntax.proofs.Under.{absent}
use Rattle.syntax.proofs.Reader.flag_if.Goals as goal

pub returns-else-present : goal.returns-else-present
returns-else-present c = absent _ _ _ c.if-present.false
