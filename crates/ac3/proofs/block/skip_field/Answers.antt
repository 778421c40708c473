-- `ac3::block::skip_field` meets its contract: a `then` for each call, and what follows the flag under a test. Assumes nothing.
use Rattle.syntax.proofs.Sequence.{then, stops, refused, took, spanned}
use Rattle.syntax.proofs.Under.{present, omitted}
use Rattle.ac3.specs.AudioBlock.{skip_field}
use Rattle.ac3.proofs.block.skip_field.Goals as goal

pub returns-in_err-skiple : goal.returns-in_err-skiple
unfolding skip_field
returns-in_err-skiple c = refused c.from_residual.ensures.1 (stops _ (took c.one_roled.ensures c.in_err-skiple.ensures))

pub returns-in_err-skipl : goal.returns-in_err-skipl
unfolding skip_field
returns-in_err-skipl c =
    refused c.from_residual-in_err-skipl.ensures.1
    (then _ (took c.one_roled.ensures c.in_ok-skiple.ensures)
    (present _ _ c.if-skiple.true (stops _ (took c.one_roled-then-skiple.ensures c.in_err-skipl.ensures.reads))))

pub returns-in_err-pass : goal.returns-in_err-pass
unfolding skip_field
returns-in_err-pass c =
    refused c.from_residual-in_err-pass.ensures.1
    (then _ (took c.one_roled.ensures c.in_ok-skiple.ensures)
    (present _ _ c.if-skiple.true
    (then _ (took c.one_roled-then-skiple.ensures c.in_ok-skipl.ensures.reads) (spanned c.one_roled-skipfld.ensures c.in_err-pass.ensures))))

pub returns-in_ok-pass : goal.returns-in_ok-pass
unfolding skip_field
returns-in_ok-pass c =
    then _ (took c.one_roled.ensures c.in_ok-skiple.ensures)
    (present _ _ c.if-skiple.true
    (then _ (took c.one_roled-then-skiple.ensures c.in_ok-skipl.ensures.reads) (spanned c.one_roled-skipfld.ensures c.in_ok-pass.ensures)))

pub returns-else-skiple : goal.returns-else-skiple
unfolding skip_field
returns-else-skiple c = then _ (took c.one_roled.ensures c.in_ok-skiple.ensures) (omitted _ _ c.if-skiple.false)
