-- Addresses: the larger of 0 and a level less its mask, in steps of 32, fits a byte; the smaller of that and 63 is the definition's. Assumes nothing.
use mathlib.Core.Path.{◌≡◌, refl}
use Prim.Native.Nat.{ℕ, zero, suc, ◌/◌, ◌<◌, min, zero-le}
use native.Mathlib.Omega.{arith}
use mathlib.Core.Bool.{Bool, true, false, cond}
use lib.Dec.{T, ltb, leb→le}
use lib.IntN.{ℤ, pos, negsuc, nat_abs, ◌-ℤ◌}
use lib.Signed.{non_neg, shr_z, ◌≤ℤ◌}
use borrow.Author.Tests.{le-ltb}
use Rattle.signed.specs.Level.{max_z, clamp_z}
use Rattle.signed.proofs.Sign.{clamp_le}
use Rattle.alloc.specs.Allocation.{address_of}

pub clamped : (z : ℤ) → min (nat_abs (max_z z (pos 0))) 63 ≡ clamp_z z 63
clamped (pos n) = rw (le-ltb n 0 zero-le)
clamped (negsuc n) = refl

-- so an address is below 64
pub address_below : (psd mask : ℤ) → address_of psd mask < 64
unfolding address_of
address_below psd mask = omega (arith, clamp_le)

-- ---- a level less a mask that is not far below 0

fallen : (t : Bool) (x y : ℕ) {n : ℕ} → y < n → T (non_neg (cond t (negsuc x) (pos y))) → nat_abs (cond t (negsuc x) (pos y)) < n
fallen true x y h t = absurd t
fallen false x y h t = h

apart_small : (psd mask : ℤ) → pos 0 ≤ℤ psd → psd ≤ℤ pos 3072 → negsuc 2047 ≤ℤ mask → T (non_neg (psd -ℤ mask)) → nat_abs (psd -ℤ mask) < 8192
apart_small (negsuc n) mask low high above t = absurd low.le
apart_small (pos n) (pos zero) low high above t = omega (arith, leb→le n 3072 high.le)
apart_small (pos n) (pos (suc m)) low high above t = fallen (ltb n (suc m)) _ _ (omega (arith, leb→le n 3072 high.le)) t
apart_small (pos n) (negsuc m) low high above t = omega (arith, leb→le n 3072 high.le, leb→le m 2047 above.le)

stepped : (z : ℤ) → (T (non_neg z) → nat_abs z < 8192) → nat_abs (max_z (shr_z z 32) (pos 0)) < 256
stepped (pos a) h = rw (le-ltb (a / 32) 0 zero-le) (omega (arith, h tt))
stepped (negsuc a) h = omega arith

pub fits_byte : (psd mask : ℤ) → pos 0 ≤ℤ psd → psd ≤ℤ pos 3072 → negsuc 2047 ≤ℤ mask → nat_abs (max_z (shr_z (psd -ℤ mask) 32) (pos 0)) < 256
fits_byte psd mask low high above = stepped (psd -ℤ mask) (apart_small psd mask low high above)
