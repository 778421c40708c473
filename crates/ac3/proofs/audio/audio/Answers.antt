-- `ac3::audio::audio` meets its contract: a turn for each block, and then the bit that they reach. Assumes nothing.
use mathlib.Core.List.{[], ◌∷◌, ◌++◌}
use Rattle.std.proofs.Common.{arith}
use Rattle.syntax.proofs.Sequence.{begins, turn, leaves, ends, then, stops, finished, standing}
use Rattle.mantissas.proofs.Kept.{kept_none}
use Rattle.exponents.proofs.Made.{refused_beside}
use Rattle.ac3.specs.Frame.{audio}
use Rattle.ac3.proofs.Sent.{none_tallied}
use Rattle.ac3.proofs.Start.{sound_state, sound_exps}
use Rattle.ac3.proofs.audio.audio.Goals as goal

pub loop-blk-init : goal.loop-blk-init
loop-blk-init c = rw (c.unsent-state.ensures, c.uncounted-tally.ensures) (([], begins, none_tallied), sound_state, sound_exps, omega arith, kept_none _ _)

pub returns-in_err-left : goal.returns-in_err-left
unfolding audio
returns-in_err-left c =
    let before = c.loop-blk.invariant.0 in
    let next = c.in_err-left.ensures.reads before.0 before.2 in
    refused_beside _ _ c.from_residual.ensures.1 (stops _ (leaves before.1 c.loop-blk-test.true next.1))

pub loop-blk-preserved : goal.loop-blk-preserved
loop-blk-preserved c =
    let after = c.in_ok-left.ensures in
    let before = c.loop-blk.invariant.0 in
    let next = after.reads before.0 before.2 in (
      (before.0 ++ next.0 ∷ [], turn before.1 c.loop-blk-test.true next.1, next.2),
      after.sound_state_2,
      after.sound_exps_2,
      after.coupled_bound,
      after.kept_2,
    )

pub returns : goal.returns
unfolding audio
returns c = then _ (ends c.loop-blk.invariant.0.1 c.loop-blk-test.false) (then _ standing finished)
