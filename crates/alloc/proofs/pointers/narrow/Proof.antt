-- `alloc::pointers::narrow` meets its contract. The loop's invariant is the definition's, up to `band`. Assumes nothing.
use mathlib.Core.Path.{◌≡◌}
use Prim.Native.Nat.{◌-◌, ◌≤◌}
use native.Mathlib.Omega.{arith}
use borrow.Author.Rules.{rules}
use lib.IntN.{pos}
use Rattle.signed.proofs.Bounds.{back_32}
use Rattle.alloc.specs.Allocation.{at}
use Rattle.alloc.specs.Fills.{Fills}
use Rattle.alloc.proofs.Filled.{fills_none, fills_set}
use Rattle.alloc.proofs.pointers.narrow.Statement.{statement}
use Rattle.alloc.proofs.pointers.narrow.Tie as tie

abbrev invariant-loop-band : tie.invariant-loop-band
invariant-loop-band out₀ thresholds band₀ out band = (band ≤ 28) × Fills (pos 0) 0 band (at thresholds) out₀ out

abbrev decreases-loop-band : tie.decreases-loop-band
decreases-loop-band out₀ thresholds band₀ out band = 28 - band

pub narrow_spec : {M : Type 1} → statement M
narrow_spec =
    tie.close
    (tie.spec
    invariant-loop-band
    decreases-loop-band
    (λ c. (search rules, fills_none _ _ _ _))
    (λ c. search rules)
    (λ c. search rules)
    (λ c. search rules)
    (λ c. search rules)
    (λ c. search rules)
    (λ c. search rules)
    (λ c.
    let at = c.before.before.loop-band in
    (search rules, fills_set _ _ _ _ at.out at.band _ (omega arith) (omega (arith, at.invariant.1.long)) (back_32 _ c.out-1.given) at.invariant.1))
    (λ c. let end : c.before.loop-band.band ≡ 28 = omega arith in rw end at c.before.loop-band.invariant.1))
