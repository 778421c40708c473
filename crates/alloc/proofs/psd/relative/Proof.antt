-- `alloc::psd::relative` meets its contract: the difference fits. Assumes nothing.
use mathlib.Core.Path.{◌≡◌, ◌∙◌, ap}
use borrow.Author.Rules.{rules}
use mir.Syntax.{w16, w32}
use mir.Val.{to_z, of_z}
use mir.ValLaws.{to_z-of_z}
use Rattle.signed.specs.Bound.{Below}
use Rattle.signed.proofs.Bounds.{back_32, below_more, fits_32}
use Rattle.alloc.specs.Allocation.{psd_of}
use Rattle.alloc.specs.Stages.{relative}
use Rattle.alloc.proofs.Bounded.{relative_small}
use Rattle.alloc.proofs.psd.relative.Statement.{statement}
use Rattle.alloc.proofs.psd.relative.Tie as tie

module _ (c : tie.After-level) where
  level_is : to_z w32 (of_z w32 c.level.result) ≡ psd_of c.before.args.exponent
  level_is = back_32 _ c.level.type_inv ∙ c.level.ensures ∙ ap psd_of (to_z-of_z w16 c.before.args.exponent c.before.ranges.exponent)

  small : Below 31 (relative c.before.args.exponent)
  small = below_more (relative_small c.before.args.exponent c.before.requires.0 c.before.requires.1) tt

pub relative_spec : {M : Type 1} → statement M
unfolding relative
relative_spec =
    tie.close
    (tie.spec
    (λ c κs. search rules)
    (λ c. rw (level_is c) (fits_32 (small c)))
    (λ c. rw (level_is c) (back_32 _ (small c).below)))
