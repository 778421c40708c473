-- `alloc::excitation::calc_lowcomp` meets its contract: each arm is the definition's, by the tests that led there. Assumes nothing.
use Rattle.std.proofs.Common.{◌≡◌, ap, true, false, ℤ, pos, ◌+ℤ◌, ◌-ℤ◌, FitsSigned, w32, of_z, to_z}
use borrow.Author.Tests.{lt-ltb, le-ltb}
use mir.ValLaws.{to_z-of_z}
use Rattle.signed.specs.Bound.{Below}
use Rattle.signed.specs.Level.{eq_z, max_z}
use Rattle.signed.proofs.Bounds.{bounds, levels}
use Rattle.signed.proofs.Equal.{same_bits, eq_z_yes, eq_z_no}
use Rattle.alloc.specs.Allocation.{lowcomp}
use Rattle.alloc.proofs.Larger.{larger}
use Rattle.alloc.proofs.excitation.calc_lowcomp.Goals as goal

-- the test for a rise by 256, from the one on the bits
module _ (b0 b1 : ℤ) (first : FitsSigned w32 b0) (second : FitsSigned w32 b1) (small : Below 20 b0) where
  rise : of_z w32 (to_z w32 (of_z w32 b0) +ℤ pos 256) ≡ of_z w32 b1 → eq_z (b0 +ℤ pos 256) b1 ≡ true
  rise e = eq_z_yes _ _ (same_bits w32 (b0 +ℤ pos 256) b1 (search bounds depth 12) second (rw (to_z-of_z w32 b0 first) at e))

  no_rise : (of_z w32 (to_z w32 (of_z w32 b0) +ℤ pos 256) ≡ of_z w32 b1 → ⊥) → eq_z (b0 +ℤ pos 256) b1 ≡ false
  no_rise h = eq_z_no (b0 +ℤ pos 256) b1 (λ e. h (rw (to_z-of_z w32 b0 first) (ap (of_z w32) e)))

pub returns-then-bin-lt7 : goal.returns-then-bin-lt7
unfolding lowcomp
returns-then-bin-lt7 c =
    rw (lt-ltb _ 20 c.if-bin-lt20.true, rise _ _ c.ranges.b0 c.ranges.b1 c.requires.1.0 c.if-b0-b1.true, lt-ltb _ 7 c.if-bin-lt7.true)

pub returns-else-bin-lt7 : goal.returns-else-bin-lt7
unfolding lowcomp
returns-else-bin-lt7 c =
    rw (lt-ltb _ 20 c.if-bin-lt20.true, rise _ _ c.ranges.b0 c.ranges.b1 c.requires.1.0 c.if-b0-b1.true, le-ltb _ 7 c.if-bin-lt7.false)

pub returns-then-b1-b0 : goal.returns-then-b1-b0
unfolding lowcomp
returns-then-b1-b0 c =
    let b0 = to_z-of_z w32 c.args.b0 c.ranges.b0 in
    let b1 = to_z-of_z w32 c.args.b1 c.ranges.b1 in
    let less : to_z w32 (of_z w32 (to_z w32 (of_z w32 c.args.a) -ℤ pos 64)) ≡ c.args.a -ℤ pos 64 = search levels depth 12 in
    let most : c.max.result ≡ max_z (c.args.a -ℤ pos 64) (pos 0) = larger (c.args.a -ℤ pos 64) (pos 0) (rw less at c.max.ensures.value) in
    rw (lt-ltb _ 20 c.if-bin-lt20.true, no_rise _ _ c.ranges.b0 c.ranges.b1 c.requires.1.0 c.if-b0-b1.false, rw (b0, b1) at c.if-b1-b0.true, ← most)
    (search levels depth 12)

pub returns-else-b1-b0 : goal.returns-else-b1-b0
unfolding lowcomp
returns-else-b1-b0 c =
    let b0 = to_z-of_z w32 c.args.b0 c.ranges.b0 in
    let b1 = to_z-of_z w32 c.args.b1 c.ranges.b1 in
    rw (lt-ltb _ 20 c.if-bin-lt20.true, no_rise _ _ c.ranges.b0 c.ranges.b1 c.requires.1.0 c.if-b0-b1.false, rw (b0, b1) at c.if-b1-b0.false)
    (to_z-of_z w32 c.args.a c.ranges.a)

pub returns : goal.returns
unfolding lowcomp
returns c =
    let less : to_z w32 (of_z w32 (to_z w32 (of_z w32 c.args.a) -ℤ pos 128)) ≡ c.args.a -ℤ pos 128 = search levels depth 12 in
    let most : c.max-2.result ≡ max_z (c.args.a -ℤ pos 128) (pos 0) = larger (c.args.a -ℤ pos 128) (pos 0) (rw less at c.max-2.ensures.value) in
    rw (le-ltb _ 20 c.if-bin-lt20.false, ← most) (search levels depth 12)
