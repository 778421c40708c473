-- `alloc::bands::sum_levels` meets its contract. Both loops' invariant: the sum is the definition's up to `bin`, of levels below that of
-- exponent 0. That it fits is a bound on the definition. Assumes nothing.
use mathlib.Core.Path.{◌≡◌, ◌∙◌, sym, ap}
use mathlib.Core.List.{List}
use Prim.Native.Nat.{ℕ, suc, ◌+◌, ◌-◌, ◌≤◌, ◌<◌}
use native.Mathlib.Omega.{arith}
use borrow.Author.Rules.{rules}
use lib.IntN.{ℤ, pos, ◌+ℤ◌}
use mir.Syntax.{w32}
use mir.Val.{to_z, of_z}
use mir.ValLaws.{to_z-of_z}
use Rattle.signed.specs.Bound.{Below}
use Rattle.signed.proofs.Bounds.{bounds, back_16, back_32, below_is, below_more}
use Rattle.alloc.specs.Allocation.{at, logadd, band_sum}
use Rattle.alloc.specs.Stages.{relative, relative_at}
use Rattle.alloc.proofs.Bounded.{band_below, relative_below}
use Rattle.alloc.proofs.Sum.{sum_more}
use Rattle.alloc.proofs.bands.sum_levels.Statement.{statement}
use Rattle.alloc.proofs.bands.sum_levels.Lts.{then-bin-last, else-bin-last}
use Rattle.alloc.proofs.bands.sum_levels.Tie as tie

-- what both loops keep
abbrev Kept : List ℤ → (first last sum bin : ℕ) → Type 0
Kept exponents first last sum bin = (first < bin) × (bin ≤ last) × (to_z w32 sum ≡ band_sum (relative_at exponents) first (bin - 1 - first))

abbrev invariant-loop-bin : tie.invariant-loop-bin
invariant-loop-bin adds exponents first last threes sum₀ bin₀ sum bin = Kept exponents first last sum bin

abbrev decreases-loop-bin : tie.decreases-loop-bin
decreases-loop-bin adds exponents first last threes sum₀ bin₀ sum bin = last - bin

abbrev invariant-loop-bin-2 : tie.invariant-loop-bin-2
invariant-loop-bin-2 adds exponents first last threes sum₀ bin₀ sum bin = Kept exponents first last sum bin

abbrev decreases-loop-bin-2 : tie.decreases-loop-bin-2
decreases-loop-bin-2 adds exponents first last threes sum₀ bin₀ sum bin = last - bin

abbrev Begin : Type 0
Begin = tie.Start invariant-loop-bin decreases-loop-bin invariant-loop-bin-2 decreases-loop-bin-2

module _ (s : Begin) where
  abbrev sum_to : ℕ → ℤ
  sum_to bin = band_sum (relative_at s.args.exponents.now) s.args.first (bin - 1 - s.args.first)

  sum_small : (bin : ℕ) → bin ≤ s.args.last → Below 15 (sum_to bin)
  sum_small bin h = band_below (relative_at s.args.exponents.now) (relative_below s.args.exponents.now s.requires.1) s.args.first (bin - 1 - s.args.first) (omega arith)

  -- one bin more
  next : (bin : ℕ) → s.args.first < bin → sum_to (bin + 1) ≡ logadd (sum_to bin) (relative_at s.args.exponents.now bin)
  unfolding band_sum
  next bin h =
      let more : bin + 1 - 1 - s.args.first ≡ suc (bin - 1 - s.args.first) = omega arith in
      let here : s.args.first + suc (bin - 1 - s.args.first) ≡ bin = omega arith in
      rw more (ap (λ (k : ℕ). logadd (sum_to bin) (relative_at s.args.exponents.now k)) here)

  next_two : (bin : ℕ) → s.args.first < bin
      → sum_to (bin + 2) ≡ logadd (logadd (sum_to bin) (relative_at s.args.exponents.now bin)) (relative_at s.args.exponents.now (bin + 1))
  next_two bin h =
      let two : bin + 2 ≡ bin + 1 + 1 = omega arith in
      ap sum_to two ∙ next (bin + 1) (omega arith) ∙ ap (λ (z : ℤ). logadd z (relative_at s.args.exponents.now (bin + 1))) (next bin h)

  next_three : (bin : ℕ) → s.args.first < bin
      → sum_to (bin + 3) ≡ logadd (logadd (logadd (sum_to bin) (relative_at s.args.exponents.now bin)) (relative_at s.args.exponents.now (bin + 1))) (relative_at s.args.exponents.now (bin + 2))
  next_three bin h =
      let three : bin + 3 ≡ bin + 2 + 1 = omega arith in
      ap sum_to three ∙ next (bin + 2) (omega arith) ∙ ap (λ (z : ℤ). logadd z (relative_at s.args.exponents.now (bin + 2))) (next_two bin h)

  first_bin : sum_to (s.args.first + 1) ≡ relative_at s.args.exponents.now s.args.first
  unfolding band_sum
  first_bin = let none : s.args.first + 1 - 1 - s.args.first ≡ 0 = omega arith in rw none

-- the first bin, as it is read back
first_is : (c : tie.After-relative-sum invariant-loop-bin decreases-loop-bin invariant-loop-bin-2 decreases-loop-bin-2) → to_z w32 (of_z w32 c.relative-sum.result) ≡ sum_to c.before.before (c.before.before.args.first + 1)
first_is c = back_32 _ c.relative-sum.type_inv ∙ c.relative-sum.ensures ∙ ap relative (back_16 _ c.before.relative-arg-1.given) ∙ sym (first_bin c.before.before)

-- with two bins more, or as it is
holds : tie.Need-loop-bin-init invariant-loop-bin decreases-loop-bin invariant-loop-bin-2 decreases-loop-bin-2
holds c =
    let s = c.before.before.before in
    let from = s.args.first + 1 in
    elim c.if-bin-last.branch [
      | then-bin-last w ↦ (
        omega arith,
        omega arith,
        w.sum-is ∙ back_32 _ w.plus_two-sum.type_inv ∙ w.plus_two-sum.ensures ∙ rw (first_is c.before) (sym (next_two s from (omega arith))) ∙ ap (sum_to s) (sym w.bin-is),
      )
      | else-bin-last w ↦ (omega arith, omega arith, w.sum-is ∙ first_is c.before ∙ ap (sum_to s) (sym w.bin-is))
    ]

pub sum_levels_spec : {M : Type 1} → statement M
sum_levels_spec =
    tie.close
    (tie.spec
    invariant-loop-bin
    decreases-loop-bin
    invariant-loop-bin-2
    decreases-loop-bin-2
    (λ c. search rules)
    (λ c. search rules)
    (λ c. search rules)
    (λ c κs. rw (back_16 (at c.before.args.exponents.now c.before.args.first) c.relative-arg-1.given) (c.before.requires.1 c.before.args.first))
    (λ c. search rules)
    (λ c. search rules)
    (λ c κs.
    let s = c.before.before.before in
    (s.requires.0, s.requires.1, omega arith, below_is (first_is c.before) (below_more (sum_small s (s.args.first + 1) (omega arith)) tt)))
    (λ c. search rules)
    holds
    (λ c κs.
    let s = c.before.before.before.before.before in
    let at = c.before.loop-bin in
    (s.requires.0, s.requires.1, omega arith, below_is at.invariant.2 (below_more (sum_small s at.bin (omega arith)) tt)))
    (λ c. search rules)
    (λ c. search rules)
    (λ c.
    let s = c.before.before.before.before.before.before.before in
    let at = c.before.before.before.loop-bin in
    (search rules, search rules, back_32 _ c.before.plus_three-sum.type_inv ∙ c.before.plus_three-sum.ensures ∙ rw at.invariant.2 (sym (next_three s at.bin (omega arith)))))
    (λ c. c.before.loop-bin.invariant)
    (λ c κs.
    let s = c.before.before.before.before.before.before.before in
    let at = c.before.loop-bin-2 in
    (s.requires.0, s.requires.1, omega arith, below_is at.invariant.2 (below_more (sum_small s at.bin (omega arith)) tt)))
    (λ c. search rules)
    (λ c. search rules)
    (λ c.
    let s = c.before.before.before.before.before.before.before.before.before in
    let at = c.before.before.before.loop-bin-2 in
    (search rules, search rules, back_32 _ c.before.plus-sum.type_inv ∙ c.before.plus-sum.ensures ∙ rw at.invariant.2 (sym (next s at.bin (omega arith)))))
    (λ c.
    let s = c.before.before.before.before.before.before.before in
    let at = c.before.loop-bin-2 in
    let small = below_is at.invariant.2 (sum_small s at.bin (omega arith)) in
    search bounds depth 12)
    (λ c.
    let s = c.before.before.before.before.before.before.before in
    let at = c.before.loop-bin-2 in
    let small = below_is at.invariant.2 (sum_small s at.bin (omega arith)) in
    let end : at.bin ≡ s.args.last = omega arith in
    to_z-of_z w32 _ (search bounds depth 12) ∙ ap (λ (z : ℤ). z +ℤ pos 3072) (at.invariant.2 ∙ ap (sum_to s) end)
    ∙ sum_more s.args.exponents.now s.args.first (s.args.last - 1 - s.args.first)))
