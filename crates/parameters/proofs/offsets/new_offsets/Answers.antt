-- `parameters::offsets::new_offsets` meets its contract: a `then` for each line, and a turn for each channel. Assumes nothing.
use Rattle.syntax.proofs.Sequence.{then, stops, refused, took, turn, leaves, ends}
use Rattle.parameters.specs.Parameters.{channel_offset, new_offsets}
use Rattle.parameters.proofs.offsets.new_offsets.Goals as goal

pub returns-in_err-csnroffst-clause-reads : goal.returns-in_err-csnroffst-clause-reads
unfolding new_offsets
returns-in_err-csnroffst-clause-reads c = refused c.from_residual.ensures.1 (stops _ (took c.one.ensures c.in_err-csnroffst.ensures.reads))

pub returns-in_err-offsets-clause-reads : goal.returns-in_err-offsets-clause-reads
unfolding new_offsets
returns-in_err-offsets-clause-reads c = refused c.from_residual-in_err-offsets.ensures.1 (then _ (took c.one.ensures c.in_ok-csnroffst.ensures.reads) (stops _ (rw (c.one-offset.ensures, c.one-gain.ensures) at c.in_err-offsets.ensures.reads)))

pub returns-in_err-offsets-2-clause-reads : goal.returns-in_err-offsets-2-clause-reads
unfolding channel_offset new_offsets
returns-in_err-offsets-2-clause-reads c = refused c.from_residual-in_err-offsets-2.ensures.1 (then _ (took c.one.ensures c.in_ok-csnroffst.ensures.reads) (then _ (rw (c.one-offset.ensures, c.one-gain.ensures) at c.in_ok-offsets.ensures.reads) (stops _ (leaves c.loop-ch.invariant.0 c.loop-ch-test.true (rw (c.nth-offset.ensures, c.nth-gain.ensures) at c.in_err-offsets-2.ensures.reads)))))

pub loop-ch-preserved : goal.loop-ch-preserved
unfolding channel_offset
loop-ch-preserved c = (turn c.loop-ch.invariant.0 c.loop-ch-test.true (rw (c.nth-offset.ensures, c.nth-gain.ensures) at c.in_ok-offsets-2.ensures.reads), c.in_ok-offsets-2.ensures.sound_offsets_2)

pub returns-clause-reads : goal.returns-clause-reads
unfolding new_offsets
returns-clause-reads c = then _ (took c.one.ensures c.in_ok-csnroffst.ensures.reads) (then _ (rw (c.one-offset.ensures, c.one-gain.ensures) at c.in_ok-offsets.ensures.reads) (then _ (ends c.loop-ch.invariant.0 c.loop-ch-test.false) (rw (c.one-offset-2.ensures, c.one-gain-2.ensures) at c.fine_offset_when-2.ensures.reads)))
