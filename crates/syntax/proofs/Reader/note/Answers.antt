-- `syntax::Reader::note` meets its contract. Assumes nothing.
use mathlib.Core.Path.{◌∙◌}
use Rattle.std.proofs.Common.{rules}
use Rattle.bits.proofs.Window.{value_lt_16, whole}
use Rattle.syntax.proofs.Sequence.{noted}
use Rattle.syntax.proofs.Reader.note.Goals as goal

pub put-requires : goal.put-requires
put-requires c = rw c.get-value.ensures (value_lt_16 _ _ _ (search rules))

pub returns : goal.returns
returns c = noted c.put.ensures (c.get-value.ensures ∙ whole _ _ _ (search rules))
