-- `syntax::Reader::note_if` meets its contract: where the test does not hold nothing is read. Assumes nothing.
use Rattle.syntax.proofs.Under.{omitted}
use Rattle.syntax.proofs.Reader.note_if.Goals as goal

pub returns-else-present : goal.returns-else-present
returns-else-present c = omitted _ _ c.if-present.false
