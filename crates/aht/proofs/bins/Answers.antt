-- One bin, and then those that are left.
use Rattle.std.proofs.Common.{◌≡◌, Bool, true, false, [], cond, drop, refl, sym, ◌∙◌, ap, arith}
use Rattle.std.proofs.lemmas.List.{drop_all}
use Rattle.std.specs.Int.{from_bool}
use Rattle.aht.specs.Aht.{bins}
use Rattle.aht.specs.Walk.{run}
use Rattle.aht.proofs.Active.{active_small, gain_left, next_left, bins_left}
use Rattle.aht.proofs.Walking.{exit, goes, stops}
use Rattle.aht.proofs.bins.Goals as goal

pub gain_of-requires : goal.gain_of-requires
gain_of-requires c on = c.requires c.loop-h.next (gain_left _ _ _ c.loop-h-test.true _ _ c.loop-h.invariant.left on)

pub returns-in_err-walked : goal.returns-in_err-walked
returns-in_err-walked c words held =
    rw (exit c.from_residual.result c.in_err-walked.field-0.0 c.from_residual.ensures.1)
    (sym (stops _ _ _ _ _ c.in_err-walked.ensures) ∙ bins_left _ _ _ c.loop-h-test.true _ _ c.loop-h.invariant.left _ _ _ _ _ _ held c.gain_of.ensures ∙ c.loop-h.invariant.same words held)

-- a bin that has a gain counts for one
from_bool-cond : (b : Bool) → from_bool b ≡ cond b 1 0
from_bool-cond true = refl
from_bool-cond false = refl

pub loop-h-preserved : goal.loop-h-preserved
loop-h-preserved c =
    let one = c.from-next.ensures ∙ from_bool-cond c.is_active.result ∙ ap (λ t. cond t 1 0) c.is_active.ensures in
    rw one
    (record {
      same = λ words held. sym (goes _ _ _ _ _ c.in_ok-walked.ensures) ∙ bins_left _ _ _ c.loop-h-test.true _ _ c.loop-h.invariant.left _ _ _ _ _ _ held c.gain_of.ensures ∙ c.loop-h.invariant.same words held;
      left = next_left _ _ _ c.loop-h-test.true _ _ c.loop-h.invariant.left;
      few = omega (arith, active_small c.args.gains.gaqmod);
    })

pub returns : goal.returns
unfolding bins run
returns c words held =
    let none : drop c.loop-h.h-index c.args.hebap.now ≡ [] = drop_all c.loop-h.h-index c.args.hebap.now c.loop-h-test.false in
    rw none at (c.loop-h.invariant.same words held)
