-- `header::additional_info` meets its contract: a `then` for each call. Assumes nothing.
use Rattle.syntax.proofs.Sequence.{then, stops, refused, took, spanned}
use Rattle.syntax.proofs.Under.{present, omitted}
use Rattle.header.specs.Header.{additional_info}
use Rattle.header.proofs.additional_info.Goals as goal

pub returns-in_err-addbsie : goal.returns-in_err-addbsie
unfolding additional_info
returns-in_err-addbsie c = refused c.from_residual.ensures.1 (stops _ (took c.plain.ensures c.in_err-addbsie.ensures))

pub returns-in_err-addbsil : goal.returns-in_err-addbsil
unfolding additional_info
returns-in_err-addbsil c = refused c.from_residual-in_err-addbsil.ensures.1 (then _ (took c.plain.ensures c.in_ok-addbsie.ensures) (present _ _ c.if-addbsie.true (stops _ (took c.plain-then-addbsie.ensures c.in_err-addbsil.ensures.reads))))

pub returns-in_err-pass : goal.returns-in_err-pass
unfolding additional_info
returns-in_err-pass c = refused c.from_residual-in_err-pass.ensures.1 (then _ (took c.plain.ensures c.in_ok-addbsie.ensures) (present _ _ c.if-addbsie.true (then _ (took c.plain-then-addbsie.ensures c.in_ok-addbsil.ensures.reads) (spanned c.roled.ensures c.in_err-pass.ensures))))

pub returns-in_ok-pass : goal.returns-in_ok-pass
unfolding additional_info
returns-in_ok-pass c = then _ (took c.plain.ensures c.in_ok-addbsie.ensures) (present _ _ c.if-addbsie.true (then _ (took c.plain-then-addbsie.ensures c.in_ok-addbsil.ensures.reads) (spanned c.roled.ensures c.in_ok-pass.ensures)))

pub returns-else-addbsie : goal.returns-else-addbsie
unfolding additional_info
returns-else-addbsie c = then _ (took c.plain.ensures c.in_ok-addbsie.ensures) (omitted _ _ c.if-addbsie.false)
