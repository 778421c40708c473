-- `syntax::Reader::take` meets its contract. Assumes nothing.
use mathlib.Core.Path.{◌∙◌}
use Rattle.std.proofs.Common.{rules}
use Rattle.bits.proofs.Window.{value_lt, value_lt_16, whole}
use Rattle.syntax.proofs.Sequence.{made, unmade, refused}
use Rattle.syntax.proofs.Reader.take.Goals as goal

pub put-requires : goal.put-requires
put-requires c = rw c.get-value.ensures (value_lt_16 _ _ _ (search rules))

pub returns-in_err-put-clause-reads : goal.returns-in_err-put-clause-reads
returns-in_err-put-clause-reads c = refused c.from_residual.ensures.1 (unmade (λ u. u) c.in_err-put.ensures (c.get-value.ensures ∙ whole _ _ _ (search rules)))

pub returns-clause-reads : goal.returns-clause-reads
returns-clause-reads c = made (λ u. u) c.in_ok-put.ensures (c.get-value.ensures ∙ whole _ _ _ (search rules))

pub returns-clause-value_bound : goal.returns-clause-value_bound
returns-clause-value_bound c = rw (c.get-value.ensures ∙ whole _ _ _ (search rules)) (value_lt _ _ _)
