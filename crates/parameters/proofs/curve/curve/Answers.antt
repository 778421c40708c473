-- `parameters::curve::curve` meets its contract: the flag says whether a new curve is read or the old one kept. Assumes nothing.
use Rattle.syntax.proofs.Sequence.{then, stops, refused}
use Rattle.syntax.proofs.Under.{there, absent}
use Rattle.parameters.specs.Parameters.{curve}
use Rattle.parameters.proofs.curve.curve.Goals as goal

pub returns-in_err-announced-clause-reads : goal.returns-in_err-announced-clause-reads
unfolding curve
returns-in_err-announced-clause-reads c = refused c.from_residual.ensures.1 (stops _ c.in_err-announced.ensures)

pub returns-then-branch-clause-reads : goal.returns-then-branch-clause-reads
unfolding curve
returns-then-branch-clause-reads c = then _ c.in_ok-announced.ensures (there _ _ _ c.if-branch.true c.new_curve.ensures.reads)

pub returns-clause-reads : goal.returns-clause-reads
unfolding curve
returns-clause-reads c = then _ c.in_ok-announced.ensures (absent _ _ _ c.if-branch.false)
