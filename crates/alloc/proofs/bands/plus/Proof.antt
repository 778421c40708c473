-- `alloc::bands::plus` meets its contract. Assumes nothing.
use mathlib.Core.Path.{◌≡◌, ◌∙◌, ap}
use borrow.Author.Rules.{rules}
use lib.IntN.{neg_ℤ}
use mir.Syntax.{w32}
use mir.Val.{to_z, of_z}
use mir.ValLaws.{to_z-of_z}
use Rattle.signed.proofs.Bounds.{back_16, back_32, below_more, below_read}
use Rattle.alloc.specs.Allocation.{at}
use Rattle.alloc.specs.Stages.{relative, relative_at}
use Rattle.alloc.proofs.bands.plus.Statement.{statement}
use Rattle.alloc.proofs.bands.plus.Tie as tie

-- the level of the bin, as it is read back
bin_is : (c : tie.After-drop) → neg_ℤ (to_z w32 (of_z w32 c.drop.result)) ≡ relative_at c.before.before.args.exponents.now c.before.before.args.bin
bin_is c = ap neg_ℤ (back_32 c.drop.result c.drop.type_inv) ∙ c.drop.ensures.0 ∙ ap relative (back_16 _ c.before.drop-arg-1.given)

pub plus_spec : {M : Type 1} → statement M
plus_spec =
    tie.close
    (tie.spec
    (λ c. search rules)
    (λ c. search rules)
    (λ c κs. rw (back_16 (at c.before.args.exponents.now c.before.args.bin) c.drop-arg-1.given) (c.before.requires.1 c.before.args.bin))
    (λ c κs.
    let s = c.before.before in
    (s.requires.0, below_read s.requires.3, below_read (below_more c.drop.ensures.1 tt)))
    (λ c.
    let s = c.before.before.before in
    back_32 _ c.logadd.type_inv ∙ c.logadd.ensures ∙ rw (to_z-of_z w32 s.args.sum s.ranges.sum, bin_is c.before)))
