-- `channels::coupling::coupling_strategy` meets its contract: the two flags say whether the strategy is new, none, or the one in force. Assumes nothing.
use Rattle.syntax.proofs.Sequence.{refused, then, stops, took}
use Rattle.syntax.proofs.Under.{there, absent}
use Rattle.channels.specs.Coupling.{coupling_strategy}
use Rattle.channels.proofs.coupling.coupling_strategy.Goals as goal

pub returns-in_err-cplstre-clause-reads : goal.returns-in_err-cplstre-clause-reads
unfolding coupling_strategy
returns-in_err-cplstre-clause-reads c = refused c.from_residual.ensures.1 (stops _ c.in_err-cplstre.ensures)

pub returns-then-not-cplstre-clause-reads : goal.returns-then-not-cplstre-clause-reads
unfolding coupling_strategy
returns-then-not-cplstre-clause-reads c = then _ c.in_ok-cplstre.ensures (absent _ _ _ c.if-not-cplstre.true)

pub returns-in_err-cplinu-clause-reads : goal.returns-in_err-cplinu-clause-reads
unfolding coupling_strategy
returns-in_err-cplinu-clause-reads c =
    refused c.from_residual-in_err-cplinu.ensures.1
    (then _ c.in_ok-cplstre.ensures
    (there _ _ _ c.if-not-cplstre.false
    (stops _ (took c.one.ensures c.in_err-cplinu.ensures))))

pub returns-then-cplinu-clause-reads : goal.returns-then-cplinu-clause-reads
unfolding coupling_strategy
returns-then-cplinu-clause-reads c =
    then _ c.in_ok-cplstre.ensures
    (there _ _ _ c.if-not-cplstre.false
    (then _ (took c.one.ensures c.in_ok-cplinu.ensures)
    (there _ _ _ c.if-cplinu.true c.new_coupling.ensures.reads)))

pub returns-else-cplinu-clause-reads : goal.returns-else-cplinu-clause-reads
unfolding coupling_strategy
returns-else-cplinu-clause-reads c =
    then _ c.in_ok-cplstre.ensures
    (there _ _ _ c.if-not-cplstre.false
    (then _ (took c.one.ensures c.in_ok-cplinu.ensures)
    (absent _ _ _ c.if-cplinu.false)))
