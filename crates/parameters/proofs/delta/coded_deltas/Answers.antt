-- `parameters::delta::coded_deltas` meets its contract: all codes, and then all new segments, a turn for each channel. Assumes nothing.
use Rattle.syntax.proofs.Sequence.{then, stops, refused, turn, leaves, ends}
use Rattle.parameters.specs.Delta.{channel_code, coded_deltas}
use Rattle.parameters.proofs.delta.coded_deltas.Goals as goal

pub returns-in_err-coded-clause-reads : goal.returns-in_err-coded-clause-reads
unfolding coded_deltas
returns-in_err-coded-clause-reads c = refused c.from_residual.ensures.1 (stops _ c.in_err-coded.ensures.reads)

pub returns-in_err-coded-2-clause-reads : goal.returns-in_err-coded-2-clause-reads
unfolding channel_code coded_deltas
returns-in_err-coded-2-clause-reads c = refused c.from_residual-in_err-coded-2.ensures.1 (then _ c.in_ok-coded.ensures.reads (stops _ (leaves c.loop-ch.invariant.0 c.loop-ch-test.true (rw c.nth.ensures at c.in_err-coded-2.ensures.reads))))

pub loop-ch-preserved : goal.loop-ch-preserved
unfolding channel_code
loop-ch-preserved c = (turn c.loop-ch.invariant.0 c.loop-ch-test.true (rw c.nth.ensures at c.in_ok-coded-2.ensures.reads), c.in_ok-coded-2.ensures.sound_deltas)

pub returns-in_err-deltas-clause-reads : goal.returns-in_err-deltas-clause-reads
unfolding coded_deltas
returns-in_err-deltas-clause-reads c = refused c.from_residual-in_err-deltas.ensures.1 (then _ c.in_ok-coded.ensures.reads (then _ (ends c.loop-ch.invariant.0 c.loop-ch-test.false) (stops _ c.in_err-deltas.ensures.reads)))

pub returns-in_err-deltas-2-clause-reads : goal.returns-in_err-deltas-2-clause-reads
unfolding coded_deltas
returns-in_err-deltas-2-clause-reads c = refused c.from_residual-in_err-deltas-2.ensures.1 (then _ c.in_ok-coded.ensures.reads (then _ (ends c.loop-ch.invariant.0 c.loop-ch-test.false) (then _ c.in_ok-deltas.ensures.reads (leaves c.loop-ch-2.invariant.0 c.loop-ch-2-test.true c.in_err-deltas-2.ensures.reads))))

pub loop-ch-2-preserved : goal.loop-ch-2-preserved
loop-ch-2-preserved c = (turn c.loop-ch-2.invariant.0 c.loop-ch-2-test.true c.in_ok-deltas-2.ensures.reads, c.in_ok-deltas-2.ensures.sound_deltas)

pub returns-clause-reads : goal.returns-clause-reads
unfolding coded_deltas
returns-clause-reads c = then _ c.in_ok-coded.ensures.reads (then _ (ends c.loop-ch.invariant.0 c.loop-ch-test.false) (then _ c.in_ok-deltas.ensures.reads (ends c.loop-ch-2.invariant.0 c.loop-ch-2-test.false)))
