-- `alloc::bands::plus_three` meets its contract: each sum has one bit more than the one before it. Assumes nothing.
use mathlib.Core.Path.{◌≡◌, ◌∙◌}
use Prim.Native.Nat.{ℕ, ◌+◌}
use native.Mathlib.Omega.{arith}
use borrow.Author.Rules.{rules}
use lib.Dec.{T, leb}
use lib.IntN.{ℤ}
use mir.Syntax.{w32}
use mir.Val.{to_z, of_z}
use mir.ValLaws.{to_z-of_z}
use Rattle.signed.specs.Bound.{Below}
use Rattle.signed.proofs.Bounds.{back_32, below_is, below_more, below_read}
use Rattle.alloc.specs.Allocation.{logadd}
use Rattle.alloc.specs.Stages.{relative_at}
use Rattle.alloc.proofs.Bounded.{logadd_below, relative_below}
use Rattle.alloc.proofs.bands.plus_three.Statement.{statement}
use Rattle.alloc.proofs.bands.plus_three.Tie as tie

-- the sums of the definition
module _ (s : tie.Start) where
  abbrev bin : ℕ → ℤ
  bin n = relative_at s.args.exponents.now (s.args.bin + n)

  bin_small : {k : ℕ} (n : ℕ) → T (leb 13 k) → Below k (bin n)
  bin_small n t = below_more (relative_below s.args.exponents.now s.requires.1 (s.args.bin + n)) t

  abbrev first : ℤ
  first = logadd s.args.sum (relative_at s.args.exponents.now s.args.bin)

  first_small : Below 18 first
  first_small = logadd_below {k = 17} s.requires.3 (below_more (relative_below s.args.exponents.now s.requires.1 s.args.bin) tt) tt

two_is : (c : tie.After-plus_two-two) → to_z w32 (of_z w32 c.plus_two-two.result) ≡ logadd (first c.before) (bin c.before 1)
two_is c = back_32 _ c.plus_two-two.type_inv ∙ c.plus_two-two.ensures ∙ rw (to_z-of_z w32 c.before.args.sum c.before.ranges.sum)

pub plus_three_spec : {M : Type 1} → statement M
plus_three_spec =
    tie.close
    (tie.spec
    (λ c κs. (c.requires.0, c.requires.1, omega arith, below_read (below_more c.requires.3 tt)))
    (λ c. search rules)
    (λ c κs.
    let s = c.before in
    (s.requires.0, s.requires.1, omega arith, below_is (two_is c) (below_more (logadd_below {k = 18} (first_small s) (bin_small s 1 tt) tt) tt)))
    (λ c. back_32 _ c.plus.type_inv ∙ c.plus.ensures ∙ rw (two_is c.before)))
