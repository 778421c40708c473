-- `alloc::pointers::threshold` meets its contract. Assumes nothing.
use Rattle.std.proofs.Common.{◌≡◌, ◌∙◌, ◌<◌, ◌^◌, ℤ, pos, nat_abs, ◌+ℤ◌, ◌-ℤ◌, w32, to_z, of_z, bit_and, FitsSigned, arith}
use lib.Signed.{mag}
use mir.ValLaws.{to_z-of_z}
use Rattle.signed.specs.Level.{max_z}
use Rattle.signed.specs.Bound.{Below}
use Rattle.signed.proofs.Bounds.{levels, fits_32, below_add, below_more}
use Rattle.signed.proofs.Shift.{masked}
use Rattle.signed.proofs.Sign.{max_zero}
use Rattle.alloc.specs.Allocation.{kept, threshold}
use Rattle.alloc.proofs.Larger.{larger}
use Rattle.alloc.proofs.pointers.threshold.Goals as goal

-- what is not below 0 has its bits cut out of a natural number
module _ (over : ℤ) where
  cut : (z : ℤ) → z ≡ max_z over (pos 0) → mag z < 2 ^ 31 → to_z w32 (bit_and (of_z w32 z) 8160) ≡ kept (max_z over (pos 0))
  unfolding kept
  cut z e h =
      let is : z ≡ pos (nat_abs (max_z over (pos 0))) = e ∙ max_zero over in
      rw is (masked (nat_abs (max_z over (pos 0))) 8 5 (rw is at h))

  small : Below 13 (kept (max_z over (pos 0)))
  unfolding kept
  small = record { below = omega arith }

  sum_fits : (floor : ℤ) → Below 11 floor → FitsSigned w32 (kept (max_z over (pos 0)) +ℤ floor)
  sum_fits floor f = fits_32 (below_add (below_more small tt) (below_more f tt) tt)

pub overflow_add-result : goal.overflow_add-result
overflow_add-result c =
    let over = c.args.mask -ℤ c.args.snroffset -ℤ c.args.floor in
    let less : to_z w32 (of_z w32 (to_z w32 (of_z w32 (to_z w32 (of_z w32 c.args.mask) -ℤ to_z w32 (of_z w32 c.args.snroffset))) -ℤ to_z w32 (of_z w32 c.args.floor))) ≡ over = search levels depth 12 in
    let bits = cut over c.max.result (larger over (pos 0) (rw less at c.max.ensures.value)) c.max.type_inv in
    rw (bits, to_z-of_z w32 c.args.floor c.ranges.floor) (sum_fits over c.args.floor c.requires.2)

pub returns : goal.returns
unfolding threshold
returns c =
    let over = c.args.mask -ℤ c.args.snroffset -ℤ c.args.floor in
    let less : to_z w32 (of_z w32 (to_z w32 (of_z w32 (to_z w32 (of_z w32 c.args.mask) -ℤ to_z w32 (of_z w32 c.args.snroffset))) -ℤ to_z w32 (of_z w32 c.args.floor))) ≡ over = search levels depth 12 in
    let bits = cut over c.max.result (larger over (pos 0) (rw less at c.max.ensures.value)) c.max.type_inv in
    rw (bits, to_z-of_z w32 c.args.floor c.ranges.floor) (to_z-of_z w32 _ (sum_fits over c.args.floor c.requires.2))
