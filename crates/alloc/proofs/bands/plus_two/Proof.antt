-- `alloc::bands::plus_two` meets its contract: each sum has one bit more than the one before it. Assumes nothing.
use mathlib.Core.Path.{◌≡◌, ◌∙◌}
use native.Mathlib.Omega.{arith}
use borrow.Author.Rules.{rules}
use lib.IntN.{ℤ}
use mir.Syntax.{w32}
use mir.Val.{to_z, of_z}
use mir.ValLaws.{to_z-of_z}
use Rattle.signed.specs.Bound.{Below}
use Rattle.signed.proofs.Bounds.{back_32, below_is, below_more, below_read}
use Rattle.alloc.specs.Allocation.{logadd}
use Rattle.alloc.specs.Stages.{relative_at}
use Rattle.alloc.proofs.Bounded.{logadd_below, relative_below}
use Rattle.alloc.proofs.bands.plus_two.Statement.{statement}
use Rattle.alloc.proofs.bands.plus_two.Tie as tie

-- the sum with the first of them
module _ (s : tie.Start) where
  abbrev first : ℤ
  first = logadd s.args.sum (relative_at s.args.exponents.now s.args.bin)

  first_small : Below 19 first
  first_small = logadd_below {k = 18} s.requires.3 (below_more (relative_below s.args.exponents.now s.requires.1 s.args.bin) tt) tt

first_is : (c : tie.After-plus-one) → to_z w32 (of_z w32 c.plus-one.result) ≡ first c.before
first_is c = back_32 _ c.plus-one.type_inv ∙ c.plus-one.ensures ∙ rw (to_z-of_z w32 c.before.args.sum c.before.ranges.sum)

pub plus_two_spec : {M : Type 1} → statement M
plus_two_spec =
    tie.close
    (tie.spec
    (λ c κs. (c.requires.0, c.requires.1, omega arith, below_read (below_more c.requires.3 tt)))
    (λ c. search rules)
    (λ c κs. let s = c.before in (s.requires.0, s.requires.1, omega arith, below_is (first_is c) (below_more (first_small s) tt)))
    (λ c. back_32 _ c.plus.type_inv ∙ c.plus.ensures ∙ rw (first_is c.before)))
