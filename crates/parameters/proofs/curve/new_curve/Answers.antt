-- `parameters::curve::new_curve` meets its contract: a `then` for each element. Assumes nothing.
use Rattle.syntax.proofs.Sequence.{then, stops, refused, took, finished}
use Rattle.parameters.specs.Parameters.{new_curve}
use Rattle.parameters.proofs.curve.new_curve.Goals as goal

pub returns-in_err-sdcycod-clause-reads : goal.returns-in_err-sdcycod-clause-reads
unfolding new_curve
returns-in_err-sdcycod-clause-reads c = refused c.from_residual.ensures.1 (stops _ (took c.one.ensures c.in_err-sdcycod.ensures.reads))

pub returns-in_err-fdcycod-clause-reads : goal.returns-in_err-fdcycod-clause-reads
unfolding new_curve
returns-in_err-fdcycod-clause-reads c = refused c.from_residual-in_err-fdcycod.ensures.1 (then _ (took c.one.ensures c.in_ok-sdcycod.ensures.reads) (stops _ (took c.one-2.ensures c.in_err-fdcycod.ensures.reads)))

pub returns-in_err-sgaincod-clause-reads : goal.returns-in_err-sgaincod-clause-reads
unfolding new_curve
returns-in_err-sgaincod-clause-reads c = refused c.from_residual-in_err-sgaincod.ensures.1 (then _ (took c.one.ensures c.in_ok-sdcycod.ensures.reads) (then _ (took c.one-2.ensures c.in_ok-fdcycod.ensures.reads) (stops _ (took c.one-3.ensures c.in_err-sgaincod.ensures.reads))))

pub returns-in_err-dbpbcod-clause-reads : goal.returns-in_err-dbpbcod-clause-reads
unfolding new_curve
returns-in_err-dbpbcod-clause-reads c = refused c.from_residual-in_err-dbpbcod.ensures.1 (then _ (took c.one.ensures c.in_ok-sdcycod.ensures.reads) (then _ (took c.one-2.ensures c.in_ok-fdcycod.ensures.reads) (then _ (took c.one-3.ensures c.in_ok-sgaincod.ensures.reads) (stops _ (took c.one-4.ensures c.in_err-dbpbcod.ensures.reads)))))

pub returns-in_err-floorcod-clause-reads : goal.returns-in_err-floorcod-clause-reads
unfolding new_curve
returns-in_err-floorcod-clause-reads c = refused c.from_residual-in_err-floorcod.ensures.1 (then _ (took c.one.ensures c.in_ok-sdcycod.ensures.reads) (then _ (took c.one-2.ensures c.in_ok-fdcycod.ensures.reads) (then _ (took c.one-3.ensures c.in_ok-sgaincod.ensures.reads) (then _ (took c.one-4.ensures c.in_ok-dbpbcod.ensures.reads) (stops _ (took c.one-5.ensures c.in_err-floorcod.ensures.reads))))))

pub returns-clause-reads : goal.returns-clause-reads
unfolding new_curve
returns-clause-reads c = then _ (took c.one.ensures c.in_ok-sdcycod.ensures.reads) (then _ (took c.one-2.ensures c.in_ok-fdcycod.ensures.reads) (then _ (took c.one-3.ensures c.in_ok-sgaincod.ensures.reads) (then _ (took c.one-4.ensures c.in_ok-dbpbcod.ensures.reads) (then _ (took c.one-5.ensures c.in_ok-floorcod.ensures.reads) (finished)))))
