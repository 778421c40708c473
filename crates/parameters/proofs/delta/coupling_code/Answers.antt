-- `parameters::delta::coupling_code` meets its contract: where coupling is not in use nothing is read. Assumes nothing.
use Rattle.syntax.proofs.Under.{absent}
use Rattle.parameters.proofs.delta.coupling_code.Goals as goal

pub returns-clause-reads : goal.returns-clause-reads
returns-clause-reads c = absent _ _ _ c.if-cplinu.false
