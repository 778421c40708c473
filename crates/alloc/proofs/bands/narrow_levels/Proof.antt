-- `alloc::bands::narrow_levels` meets its contract. The loop's invariant is the definition's, up to `band`. Assumes nothing.
use mathlib.Core.Path.{◌≡◌, ◌∙◌, ap}
use Prim.Native.Nat.{◌-◌, ◌≤◌}
use native.Mathlib.Omega.{arith}
use borrow.Author.Rules.{rules}
use lib.IntN.{pos}
use mir.Syntax.{w32}
use mir.Val.{to_z, of_z}
use Rattle.signed.proofs.Bounds.{back_16, back_32}
use Rattle.alloc.specs.Allocation.{psd_of, psd_at}
use Rattle.alloc.specs.Fills.{Fills}
use Rattle.alloc.proofs.Filled.{fills_none, fills_set}
use Rattle.alloc.proofs.bands.narrow_levels.Statement.{statement}
use Rattle.alloc.proofs.bands.narrow_levels.Tie as tie

abbrev invariant-loop-band : tie.invariant-loop-band
invariant-loop-band out₀ exponents first last band₀ out band = (first ≤ band) × (band ≤ last) × Fills (pos 0) first band (psd_at exponents) out₀ out

abbrev decreases-loop-band : tie.decreases-loop-band
decreases-loop-band out₀ exponents first last band₀ out band = last - band

pub narrow_levels_spec : {M : Type 1} → statement M
narrow_levels_spec =
    tie.close
    (tie.spec
    invariant-loop-band
    decreases-loop-band
    (λ c. (search rules, search rules, fills_none _ _ _ _))
    (λ c. search rules)
    (λ c. search rules)
    (λ c κs. search rules)
    (λ c. search rules)
    (λ c. search rules)
    (λ c. search rules)
    (λ c. search rules)
    (λ c.
    let s = c.before.before.before.before in
    let at = c.before.before.before.loop-band in
    let stored : to_z w32 (of_z w32 c.level.result) ≡ psd_at s.args.exponents.now at.band =
    back_32 _ c.level.type_inv ∙ c.level.ensures ∙ ap psd_of (back_16 _ c.before.level-arg-1.given) in
    (search rules, search rules, fills_set _ _ _ _ at.out at.band _ (omega arith) (omega (arith, at.invariant.2.long)) stored at.invariant.2))
    (λ c. let end : c.before.loop-band.band ≡ c.before.before.args.last = omega arith in rw end at c.before.loop-band.invariant.2))
