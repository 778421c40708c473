-- `parameters::leak::coupling_leak` meets its contract: the two flags say whether a new leak is read or the old one kept. Assumes nothing.
use Rattle.syntax.proofs.Sequence.{then, stops, refused, took}
use Rattle.syntax.proofs.Under.{there, absent}
use Rattle.parameters.specs.Parameters.{coupling_leak}
use Rattle.parameters.proofs.leak.coupling_leak.Goals as goal

pub returns-in_err-flag-clause-reads : goal.returns-in_err-flag-clause-reads
unfolding coupling_leak
returns-in_err-flag-clause-reads c = there _ _ _ c.if-not-cplinu.false (refused c.from_residual.ensures.1 (stops _ (took c.one.ensures c.in_err-flag.ensures)))

pub returns-then-not-cplinu-clause-reads : goal.returns-then-not-cplinu-clause-reads
unfolding coupling_leak
returns-then-not-cplinu-clause-reads c = absent _ _ _ c.if-not-cplinu.true

pub returns-then-branch-clause-reads : goal.returns-then-branch-clause-reads
unfolding coupling_leak
returns-then-branch-clause-reads c = there _ _ _ c.if-not-cplinu.false (then _ (took c.one.ensures c.in_ok-flag.ensures) (there _ _ _ c.if-branch.true c.new_leak.ensures.reads))

pub returns-clause-reads : goal.returns-clause-reads
unfolding coupling_leak
returns-clause-reads c = there _ _ _ c.if-not-cplinu.false (then _ (took c.one.ensures c.in_ok-flag.ensures) (absent _ _ _ c.if-branch.false))
