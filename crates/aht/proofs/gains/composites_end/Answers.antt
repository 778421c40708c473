-- One word, and then those that are left.
use Rattle.std.proofs.Common.{◌≡◌, ◌+◌, ◌-◌, sym, ◌∙◌, arith}
use Prim.Native.Nat.{suc}
use Rattle.aht.specs.Aht.{composites}
use Rattle.aht.specs.Walk.{run}
use Rattle.aht.proofs.Walking.{exit}
use Rattle.aht.proofs.GainWords.{composite_past, composite_bad, composite_good}
use Rattle.aht.proofs.gains.composites_end.Goals as goal

pub returns-in_err-word : goal.returns-in_err-word
returns-in_err-word c =
    let left : c.args.count - c.loop-i._i ≡ suc (c.args.count - (c.loop-i._i + 1)) = omega arith in
    rw (exit c.from_residual.result c.in_err-word.field-0.0 c.from_residual.ensures.1, c.in_err-word.ensures.0) (sym (composite_past _ _ _ _ c.in_err-word.ensures.1) ∙ (rw left at c.loop-i.invariant))

pub returns-then-word-gt26 : goal.returns-then-word-gt26
returns-then-word-gt26 c =
    let left : c.args.count - c.loop-i._i ≡ suc (c.args.count - (c.loop-i._i + 1)) = omega arith in
    sym (composite_bad _ _ _ _ c.in_ok-word.ensures.1 (rw c.in_ok-word.ensures.0 at c.if-word-gt26.true)) ∙ (rw left at c.loop-i.invariant)

pub loop-i-preserved : goal.loop-i-preserved
loop-i-preserved c =
    let left : c.args.count - c.loop-i._i ≡ suc (c.args.count - (c.loop-i._i + 1)) = omega arith in
    sym (composite_good _ _ _ _ c.in_ok-word.ensures.1 (rw c.in_ok-word.ensures.0 at c.if-word-gt26.false)) ∙ (rw left at c.loop-i.invariant)

pub returns : goal.returns
unfolding composites run
returns c = let none : c.args.count - c.loop-i._i ≡ 0 = omega arith in rw none at c.loop-i.invariant
