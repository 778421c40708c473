-- `syntax::Reader::pass` meets its contract. Assumes nothing.
use mathlib.Core.Path.{refl}
use Rattle.syntax.proofs.Sequence.{passed}
use Rattle.syntax.proofs.Reader.pass.Goals as goal

pub returns : goal.returns
returns c = passed c.put.ensures refl
