-- `exponents::exponents` meets its contract: a `then` for each call, and a turn for each channel. Assumes nothing.
use Rattle.syntax.proofs.Sequence.{then, stops, turn, leaves, ends}
use Rattle.exponents.specs.Exponents.{exponents}
use Rattle.exponents.proofs.Kept.{after}
use Rattle.exponents.proofs.Made.{refused_beside}
use Rattle.exponents.proofs.exponents.Goals as goal

pub returns-in_err-covered-clause-reads : goal.returns-in_err-covered-clause-reads
unfolding exponents
returns-in_err-covered-clause-reads c =
    refused_beside _ _ c.from_residual.ensures.1 (rw (← c.first_coupled.ensures, ← c.past_coupled.ensures) (stops _ c.in_err-covered.ensures.reads))

pub returns-in_err-covered-2-clause-reads : goal.returns-in_err-covered-2-clause-reads
unfolding exponents
returns-in_err-covered-2-clause-reads c =
    refused_beside _ _ c.from_residual-in_err-covered-2.ensures.1
    (rw (← c.first_coupled.ensures, ← c.past_coupled.ensures)
    (then _ c.in_ok-covered.ensures.reads (stops _ (leaves c.loop-ch.invariant.0 c.loop-ch-test.true c.in_err-covered-2.ensures.reads))))

pub loop-ch-preserved : goal.loop-ch-preserved
loop-ch-preserved c =
    let read = c.in_ok-covered-2.ensures in
    (turn c.loop-ch.invariant.0 c.loop-ch-test.true read.reads, read.sound_exps_2, after c.loop-ch.invariant.2 read.keeps)

pub returns-clause-reads : goal.returns-clause-reads
unfolding exponents
returns-clause-reads c =
    rw (← c.first_coupled.ensures, ← c.past_coupled.ensures)
    (then _ c.in_ok-covered.ensures.reads (then _ (ends c.loop-ch.invariant.0 c.loop-ch-test.false) c.slot_exponents_if-2.ensures.reads))
