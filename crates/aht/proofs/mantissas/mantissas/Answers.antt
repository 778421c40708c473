-- One mantissa, and then those of the blocks that are left.
use Rattle.std.proofs.Common.{◌≡◌, ◌+◌, ◌-◌, sym, ◌∙◌, arith}
use Prim.Native.Nat.{suc}
use Rattle.aht.specs.Walk.{times, run}
use Rattle.aht.proofs.Walking.{exit, goes, stops}
use Rattle.aht.proofs.mantissas.mantissas.Goals as goal

pub returns-in_err-walked : goal.returns-in_err-walked
unfolding times
returns-in_err-walked c =
    let left : 6 - c.loop-blk._blk ≡ suc (6 - (c.loop-blk._blk + 1)) = omega arith in
    rw (exit c.from_residual.result c.in_err-walked.field-0.0 c.from_residual.ensures.1) (sym (stops _ _ _ _ _ c.in_err-walked.ensures) ∙ (rw left at c.loop-blk.invariant))

pub loop-blk-preserved : goal.loop-blk-preserved
unfolding times
loop-blk-preserved c =
    let left : 6 - c.loop-blk._blk ≡ suc (6 - (c.loop-blk._blk + 1)) = omega arith in
    sym (goes _ _ _ _ _ c.in_ok-walked.ensures) ∙ (rw left at c.loop-blk.invariant)

pub returns : goal.returns
unfolding times run
returns c = let none : 6 - c.loop-blk._blk ≡ 0 = omega arith in rw none at c.loop-blk.invariant
