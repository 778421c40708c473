-- `channels::coupling::coupling_bands` meets its contract: the invariant says which sub-bands are left. Assumes nothing.
use Rattle.std.proofs.Common.{arith}
use Rattle.syntax.proofs.Sequence.{refused, then, stops, finished, took, turn, leaves, ends}
use Rattle.channels.specs.Coupling.{joined, coupling_bands}
use Rattle.channels.proofs.coupling.coupling_bands.Goals as goal
use Rattle.channels.proofs.coupling.coupling_bands.Goals.{then-cplbndstrc, else-cplbndstrc}

pub returns-in_err-cplbndstrc-clause-reads : goal.returns-in_err-cplbndstrc-clause-reads
unfolding coupling_bands joined
returns-in_err-cplbndstrc-clause-reads c =
    refused c.from_residual.ensures.1 (leaves c.loop-bnd.invariant.0 c.loop-bnd-test.true (stops _ (took c.nth.ensures c.in_err-cplbndstrc.ensures)))

pub loop-bnd-preserved : goal.loop-bnd-preserved
unfolding joined
loop-bnd-preserved c =
    elim c.if-cplbndstrc.branch [
      | then-cplbndstrc w ↦ rw w.bands-is (turn c.loop-bnd.invariant.0 c.loop-bnd-test.true (then _ (took c.nth.ensures c.in_ok-cplbndstrc.ensures) (rw w.if-cplbndstrc.true finished)), omega arith, omega arith)
      | else-cplbndstrc w ↦ rw w.bands-is (turn c.loop-bnd.invariant.0 c.loop-bnd-test.true (then _ (took c.nth.ensures c.in_ok-cplbndstrc.ensures) (rw w.if-cplbndstrc.false finished)), omega arith, omega arith)
    ]

pub returns-clause-reads : goal.returns-clause-reads
unfolding coupling_bands
returns-clause-reads c = ends c.loop-bnd.invariant.0 c.loop-bnd-test.false
