-- `parameters::delta::delta_code` meets its contract: a `then` for each line. Assumes nothing.
use borrow.Author.Tests.{eq-eqb, ne_eqb}
use Rattle.syntax.proofs.Sequence.{then, stops, refused, judged, finished}
use Rattle.parameters.specs.Delta.{delta_code}
use Rattle.parameters.proofs.delta.delta_code.Goals as goal

pub returns-in_err-deltbae-clause-reads : goal.returns-in_err-deltbae-clause-reads
unfolding delta_code
returns-in_err-deltbae-clause-reads c = refused c.from_residual.ensures.1 (stops _ c.in_err-deltbae.ensures.reads)

pub returns-in_err-refuse_if-clause-reads : goal.returns-in_err-refuse_if-clause-reads
unfolding delta_code
returns-in_err-refuse_if-clause-reads c = refused c.from_residual-in_err-refuse_if.ensures.1 (then _ c.in_ok-deltbae.ensures.reads (stops _ (judged _ _ c.in_err-refuse_if.ensures)))

pub returns-in_err-refuse_if-2-clause-reads : goal.returns-in_err-refuse_if-2-clause-reads
unfolding delta_code
returns-in_err-refuse_if-2-clause-reads c = refused c.from_residual-in_err-refuse_if-2.ensures.1 (then _ c.in_ok-deltbae.ensures.reads (then _ (judged _ _ c.in_ok-refuse_if.ensures) (stops _ (judged _ _ c.in_err-refuse_if-2.ensures))))

pub returns-then-deltbae-eq2-clause-reads : goal.returns-then-deltbae-eq2-clause-reads
unfolding delta_code
returns-then-deltbae-eq2-clause-reads c = then _ c.in_ok-deltbae.ensures.reads (then _ (judged _ _ c.in_ok-refuse_if.ensures) (then _ (judged _ _ c.in_ok-refuse_if-2.ensures) (rw (eq-eqb _ 2 c.if-deltbae-eq2.true) finished)))

pub returns-else-deltbae-eq2-clause-reads : goal.returns-else-deltbae-eq2-clause-reads
unfolding delta_code
returns-else-deltbae-eq2-clause-reads c = then _ c.in_ok-deltbae.ensures.reads (then _ (judged _ _ c.in_ok-refuse_if.ensures) (then _ (judged _ _ c.in_ok-refuse_if-2.ensures) (rw (ne_eqb _ 2 c.if-deltbae-eq2.false) finished)))
