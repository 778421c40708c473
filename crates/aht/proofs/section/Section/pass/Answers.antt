-- The bits fit, or the walk is refused.
use Rattle.std.proofs.Common.{sym}
use Rattle.aht.specs.Walk.{done, run}
use Rattle.aht.proofs.Walking.{exit, took, past}
use Rattle.aht.proofs.section.Section.pass.Goals as goal

pub returns-in_err-end : goal.returns-in_err-end
returns-in_err-end c =
    rw (exit c.from_residual.result c.in_err-end.field-0.0 c.from_residual.ensures.1, c.in_err-end.ensures.0) (sym (past _ _ _ _ _ c.in_err-end.ensures.1))

pub returns : goal.returns
unfolding run
returns c = rw c.in_ok-end.ensures.0 (sym (took c.args.self.now.bytes.now _ _ (λ _. done c.args.from.tags) _ c.in_ok-end.ensures.1))
