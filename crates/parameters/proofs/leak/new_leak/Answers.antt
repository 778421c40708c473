-- `parameters::leak::new_leak` meets its contract: a `then` for each element. Assumes nothing.
use Rattle.syntax.proofs.Sequence.{then, stops, refused, took, finished}
use Rattle.parameters.specs.Parameters.{new_leak}
use Rattle.parameters.proofs.leak.new_leak.Goals as goal

pub returns-in_err-cplfleak-clause-reads : goal.returns-in_err-cplfleak-clause-reads
unfolding new_leak
returns-in_err-cplfleak-clause-reads c = refused c.from_residual.ensures.1 (stops _ (took c.one.ensures c.in_err-cplfleak.ensures.reads))

pub returns-in_err-cplsleak-clause-reads : goal.returns-in_err-cplsleak-clause-reads
unfolding new_leak
returns-in_err-cplsleak-clause-reads c = refused c.from_residual-in_err-cplsleak.ensures.1 (then _ (took c.one.ensures c.in_ok-cplfleak.ensures.reads) (stops _ (took c.one-2.ensures c.in_err-cplsleak.ensures.reads)))

pub returns-clause-reads : goal.returns-clause-reads
unfolding new_leak
returns-clause-reads c = then _ (took c.one.ensures c.in_ok-cplfleak.ensures.reads) (then _ (took c.one-2.ensures c.in_ok-cplsleak.ensures.reads) (finished))
