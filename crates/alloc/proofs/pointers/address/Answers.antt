-- `alloc::pointers::address` meets its contract: the difference fits, the shift is the definition's, what is not below 0 fits a byte, and the two
-- tests clamp. Assumes nothing.
use Rattle.std.proofs.Common.{◌≡◌, ◌∙◌, ℤ, pos, ◌-ℤ◌, ◌≤ℤ◌, w32, to_z, of_z, FitsSigned, arith}
use lib.Signed.{shr_z}
use mir.ValLaws.{to_z-of_z}
use Rattle.signed.specs.Bound.{Below}
use Rattle.signed.specs.Level.{max_z}
use Rattle.signed.proofs.Bounds.{back_32, below_down, below_is, below_more, below_sub}
use Rattle.alloc.specs.Allocation.{address_of}
use Rattle.alloc.specs.Stages.{Limit}
use Rattle.alloc.proofs.Bounded.{natural}
use Rattle.alloc.proofs.Clamped.{clamped}
use Rattle.alloc.proofs.Larger.{larger}
use Rattle.alloc.proofs.pointers.address.Goals as goal

module _ (psd mask : ℤ) (p : FitsSigned w32 psd) (m : FitsSigned w32 mask) (low : pos 0 ≤ℤ psd) (high : psd ≤ℤ pos 3072) (limit : Limit mask) where
  small : Below 15 (psd -ℤ mask)
  small =
      let level = natural psd low high in
      below_sub (below_is level.0 (record { below = omega (arith, level.1) })) limit.below tt

  apart : to_z w32 (of_z w32 psd) -ℤ to_z w32 (of_z w32 mask) ≡ psd -ℤ mask
  apart = rw (to_z-of_z w32 psd p, to_z-of_z w32 mask m)

  shifted : to_z w32 (of_z w32 (shr_z (to_z w32 (of_z w32 (to_z w32 (of_z w32 psd) -ℤ to_z w32 (of_z w32 mask)))) 32)) ≡ shr_z (psd -ℤ mask) 32
  shifted =
      let whole = back_32 (psd -ℤ mask) (below_more {k = 31} small tt).below in
      rw (apart, whole) (back_32 _ (below_more {j = 10} {k = 31} (below_down 5 small) tt).below)

pub returns : goal.returns
unfolding address_of
returns c =
    let steps = shr_z (c.args.psd -ℤ c.args.mask) 32 in
    let shift = shifted c.args.psd c.args.mask c.ranges.psd c.ranges.mask c.requires.0 c.requires.1 c.requires.2 in
    let low : to_z w32 (of_z w32 c.max.result) ≡ max_z steps (pos 0) = back_32 _ c.max.type_inv ∙ larger steps (pos 0) (rw shift at c.max.ensures.value) in
    c.min.ensures ∙ rw low (clamped steps)
