-- `parameters::delta::new_deltas` meets its contract: the count, and then a turn for each segment. Assumes nothing.
use Rattle.syntax.proofs.Sequence.{begins, turn, leaves, ends, then, stops, refused, took, finished}
use Rattle.parameters.specs.Delta.{new_deltas}
use Rattle.slots.proofs.Entries.{codes_none}
use Rattle.parameters.proofs.delta.new_deltas.Goals as goal

pub returns-in_err-deltnseg-clause-reads : goal.returns-in_err-deltnseg-clause-reads
unfolding new_deltas
returns-in_err-deltnseg-clause-reads c = refused c.from_residual.ensures.1 (stops _ (took c.of_slot-number.ensures c.in_err-deltnseg.ensures.reads))

pub loop-seg-init : goal.loop-seg-init
loop-seg-init c = (begins, codes_none)

pub returns-in_err-segments-clause-reads : goal.returns-in_err-segments-clause-reads
unfolding new_deltas
returns-in_err-segments-clause-reads c = refused c.from_residual-in_err-segments.ensures.1 (then _ (took c.of_slot-number.ensures c.in_ok-deltnseg.ensures.reads) (stops _ (leaves c.loop-seg.invariant.0 c.loop-seg-test.true c.in_err-segments.ensures.reads)))

pub loop-seg-preserved : goal.loop-seg-preserved
loop-seg-preserved c = (turn c.loop-seg.invariant.0 c.loop-seg-test.true c.in_ok-segments.ensures.reads, c.in_ok-segments.ensures.sound_codes)

pub returns-clause-reads : goal.returns-clause-reads
unfolding new_deltas
returns-clause-reads c = then _ (took c.of_slot-number.ensures c.in_ok-deltnseg.ensures.reads) (then _ (ends c.loop-seg.invariant.0 c.loop-seg-test.false) finished)
