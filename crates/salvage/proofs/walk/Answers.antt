-- `salvage::walk` meets its contract: what is left to walk from the loop's place on is the whole walk, and it ends where the walk does.
-- Assumes nothing.
use Rattle.std.proofs.Common.{refl, sym, subst, ◌∙◌, arith}
use Rattle.std.proofs.lemmas.Result.{err_from_is_err_and}
use Rattle.salvage.specs.Refusals.{going}
use Rattle.salvage.proofs.Loop.{Going, begins, passes, moves_on, goes_on, refuses, ends}
use Rattle.salvage.proofs.Steps.{not_none}
use Rattle.salvage.proofs.walk.Goals as goal

pub loop-place-init : goal.loop-place-init
loop-place-init c =
    let a = c.args in
    subst (λ d. Going a.capture.now a.rows.now a.list.now a.out.now a.rows.now a.list.now a.out.now (going d) 0 0) (sym c.requires)
    (begins a.capture.now a.rows.now a.list.now a.out.now)

pub loop-place-preserved-then-not-is_met : goal.loop-place-preserved-then-not-is_met
loop-place-preserved-then-not-is_met c =
    passes _ _ _ _ c.loop-place.invariant c.loop-place-test.true c.parse-parsed.ensures.rows_after c.parse-parsed.auto.rows
    (sym c.is_met.ensures ∙ c.if-not-is_met.true) c.next_place-place.ensures.passed

pub returns-in_err-meet : goal.returns-in_err-meet
returns-in_err-meet c =
    let p = err_from_is_err_and c.from_residual.result c.from_residual.ensures.1 in
    rw (p.1, p.2)
    (refuses _ _ _ _ c.loop-place.invariant c.loop-place-test.true c.parse-parsed.ensures.rows_after c.parse-parsed.auto.rows
    (sym c.is_met.ensures ∙ c.if-not-is_met.false) c.in_err-meet.ensures (not_none _))

pub loop-place-smaller : goal.loop-place-smaller
loop-place-smaller c =
    omega (
      arith,
      moves_on _ _ _ _ c.loop-place.invariant c.loop-place-test.true c.parse-parsed.ensures.rows_after c.parse-parsed.auto.rows
          (sym c.is_met.ensures ∙ c.if-not-is_met.false) c.in_ok-meet.ensures refl,
      c.from-place.ensures,
      c.loop-place-test.true,
    )

pub loop-place-preserved : goal.loop-place-preserved
loop-place-preserved c =
    goes_on _ _ _ _ c.loop-place.invariant c.loop-place-test.true c.parse-parsed.ensures.rows_after c.parse-parsed.auto.rows
    (sym c.is_met.ensures ∙ c.if-not-is_met.false) c.in_ok-meet.ensures c.from-place.ensures refl

pub returns : goal.returns
returns c = ends _ _ _ _ c.loop-place.invariant c.loop-place-test.false (c.close_gap.ensures.1 _)
