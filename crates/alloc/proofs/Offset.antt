-- The offset of the signal to noise ratio is small enough for the allocation. Assumes nothing.
use Prim.Native.Nat.{ℕ, suc, ◌*◌, ◌<◌, ◌^◌}
use native.Mathlib.Omega.{arith}
use lib.IntN.{ℤ, pos, negsuc, ◌+ℤ◌, ◌-ℤ◌, ◌*ℤ◌}
use lib.Signed.{mag}
use Rattle.signed.specs.Bound.{Below}
use Rattle.signed.proofs.Bounds.{bounds, below_16, neg_pos}
use Rattle.alloc.specs.Allocation.{snr_offset}

four : (z : ℤ) {n : ℕ} → mag z < n → mag (z *ℤ pos 4) < n * 4
four (pos a) h = omega arith
four (negsuc a) h = rw (neg_pos (suc a * 4) (omega arith)) (omega arith)

pub snr_below : (coarse fine : ℕ) → coarse < 64 → fine < 16 → Below 20 (snr_offset coarse fine)
unfolding snr_offset
snr_below coarse fine h g =
    let small : Below 6 (pos coarse) × Below 4 (pos fine) = omega arith in
    let sum : Below 12 ((pos coarse -ℤ pos 15) *ℤ pos 16 +ℤ pos fine) = search (bounds, below_16) depth 12 in
    let all : mag (((pos coarse -ℤ pos 15) *ℤ pos 16 +ℤ pos fine) *ℤ pos 4) < 2 ^ 12 * 4 = four ((pos coarse -ℤ pos 15) *ℤ pos 16 +ℤ pos fine) sum.below in
    record { below = omega arith }
