-- `alloc::pointers::fill` meets its contract. The loop's invariant is the definition's, up to `bin`. Assumes nothing.
use mathlib.Core.Path.{◌≡◌, refl}
use Prim.Native.Nat.{◌-◌, ◌≤◌}
use native.Mathlib.Omega.{arith}
use borrow.Author.Rules.{rules}
use lib.IntN.{pos}
use mir.Syntax.{w32}
use mir.Val.{to_z}
use mir.ValLaws.{to_z-of_z}
use Rattle.alloc.specs.Fills.{Fills}
use Rattle.alloc.proofs.Filled.{fills_none, fills_set}
use Rattle.alloc.proofs.pointers.fill.Statement.{statement}
use Rattle.alloc.proofs.pointers.fill.Tie as tie

abbrev invariant-loop-bin : tie.invariant-loop-bin
invariant-loop-bin out₀ first last threshold bin₀ out bin = (first ≤ bin) × (bin ≤ last) × Fills (pos 0) first bin (λ j. to_z w32 threshold) out₀ out

abbrev decreases-loop-bin : tie.decreases-loop-bin
decreases-loop-bin out₀ first last threshold bin₀ out bin = last - bin

pub fill_spec : {M : Type 1} → statement M
fill_spec =
    tie.close
    (tie.spec
    invariant-loop-bin
    decreases-loop-bin
    (λ c. (search rules, search rules, fills_none _ _ _ _))
    (λ c. search rules)
    (λ c. search rules)
    (λ c. search rules)
    (λ c. search rules)
    (λ c.
    let at = c.before.loop-bin in
    (search rules, search rules, fills_set _ _ _ _ at.out at.bin _ (omega arith) (omega (arith, at.invariant.2.long)) refl at.invariant.2))
    (λ c.
    let s = c.before.before in
    let end : c.before.loop-bin.bin ≡ s.args.last = omega arith in
    rw (end, to_z-of_z w32 s.args.threshold s.ranges.threshold) at c.before.loop-bin.invariant.2))
