-- `syntax::Reader::frame` meets its contract: a law for each way through it. Assumes nothing.
use Rattle.std.proofs.Common.{rules}
use Rattle.syntax.proofs.Sequence.{framed_short, framed_whole}
use Rattle.syntax.proofs.Reader.frame.Goals as goal

pub returns-then-self-bytes : goal.returns-then-self-bytes
returns-then-self-bytes c = framed_short (search rules)

pub returns : goal.returns
returns c = framed_whole (search rules)
