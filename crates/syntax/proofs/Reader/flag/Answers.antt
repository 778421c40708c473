-- `syntax::Reader::flag` meets its contract: what is made of the bit is whether it is 1. Assumes nothing.
use mathlib.Core.Path.{◌∙◌}
use lib.Dec.{eqb}
use Rattle.std.proofs.Common.{rules}
use Rattle.bits.proofs.Window.{value_lt_16, whole}
use Rattle.syntax.proofs.Sequence.{made, unmade, refused}
use Rattle.syntax.proofs.Reader.flag.Goals as goal

pub put-requires : goal.put-requires
put-requires c = rw c.get-value.ensures (value_lt_16 _ _ _ (search rules))

pub returns-in_err-put : goal.returns-in_err-put
returns-in_err-put c = refused c.from_residual.ensures.1 (unmade (λ u. eqb u 1) c.in_err-put.ensures (c.get-value.ensures ∙ whole _ _ _ (search rules)))

pub returns : goal.returns
returns c = made (λ u. eqb u 1) c.in_ok-put.ensures (c.get-value.ensures ∙ whole _ _ _ (search rules))
