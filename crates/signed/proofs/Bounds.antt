-- No overflow, by counting bits: a sum of two numbers below k is below k + 1, so that `search levels` proves that each step of a formula fits its width, from what its parameters are below.
-- Assumes nothing.
use mathlib.Core.Path.{◌≡◌, ap}
use mathlib.Core.Bool.{Bool, true, false, not, cond}
use Prim.Native.Nat.{ℕ, zero, suc, ◌+◌, ◌*◌, ◌-◌, ◌^◌, ◌<◌}
use native.Mathlib.Omega.{arith}
use native.Mathlib.Nat.{div-lt_iff_lt-mul, lt_of_lt_of_le, lt_of_le_of_lt, pow-suc, not-suc-le-zero, suc-mul, mul-le-mul_right, sub-add_cancel}
use lib.IntN.{ℤ, pos, negsuc, ◌+ℤ◌, ◌-ℤ◌, ◌*ℤ◌, neg_ℤ, sub_ℕ}
use lib.Dec.{T, leb, ltb, leb→le, ltb→lt, nltb→le}
use lib.Pow.{pow_mono, pow-add, pow_pos}
use lib.Signed.{mag, shr_z, mag_shr, lt_z, non_neg}
use mir.Syntax.{w16, w32}
use mir.Val.{SFits, sel, to_z, of_z}
use mir.ValLaws.{to_z-of_z, to_z_pos}
use Rattle.signed.specs.Bound.{Below}
use Rattle.signed.specs.Level.{max_z}

pub fits_32 : {z : ℤ} → Below 31 z → SFits w32 z
fits_32 b = record { sfits = b.below }

pub below_i16 : {z : ℤ} → SFits w16 z → Below 15 z
below_i16 f = record { below = f.sfits }

pub below_u16 : (n : ℕ) → n < 2 ^ 16 → Below 16 (pos n)
below_u16 n p = record { below = p }

pub below_lit : {k n : ℕ} → T (ltb n (2 ^ k)) → Below k (pos n)
below_lit {k} {n} t = record { below = ltb→lt n (2 ^ k) t }

pub below_more : {j k : ℕ} {z : ℤ} → Below j z → T (leb j k) → Below k z
below_more {j} {k} b t = record { below = lt_of_lt_of_le b.below (pow_mono (leb→le j k t)) }

pub below_is : {k : ℕ} {y z : ℤ} → y ≡ z → Below k z → Below k y
below_is {k} e b = rw e b

-- ---- sums

pub mag_cond : (t : Bool) (a b : ℤ) {n : ℕ} → mag a < n → mag b < n → mag (cond t a b) < n
mag_cond true a b p q = p
mag_cond false a b p q = q

mag_subℕ : (a b n : ℕ) → a < n → b < suc n → mag (sub_ℕ a b) < n
mag_subℕ a b n p q = mag_cond (ltb a b) (negsuc (b - suc a)) (pos (a - b)) (omega arith) (omega arith)

pub mag_add : (a b : ℤ) {m n : ℕ} → mag a < m → mag b < n → mag (a +ℤ b) < m + n
mag_add (pos a) (pos b) p q = omega arith
mag_add (pos a) (negsuc b) {m} {n} p q = mag_subℕ a (suc b) (m + n) (omega arith) (omega arith)
mag_add (negsuc a) (pos b) {m} {n} p q = mag_subℕ b (suc a) (m + n) (omega arith) (omega arith)
mag_add (negsuc a) (negsuc b) p q = omega arith

pub mag_sub : (a b : ℤ) {m n : ℕ} → mag a < m → mag b < n → mag (a -ℤ b) < m + n
mag_sub (pos a) (pos zero) p q = omega arith
mag_sub (pos a) (pos (suc b)) {m} {n} p q = mag_subℕ a (suc b) (m + n) (omega arith) (omega arith)
mag_sub (pos a) (negsuc b) p q = omega arith
mag_sub (negsuc a) (pos zero) {m} {n} p q = mag_subℕ 0 (suc a) (m + n) (omega arith) (omega arith)
mag_sub (negsuc a) (pos (suc b)) p q = omega arith
mag_sub (negsuc a) (negsuc b) {m} {n} p q = mag_subℕ (suc b) (suc a) (m + n) (omega arith) (omega arith)

half : (k : ℕ) → T (ltb 0 k) → 2 ^ (k - 1) + 2 ^ (k - 1) ≡ 2 ^ k
half zero t = elim t [ ]
half (suc k) t = let e : suc k - 1 ≡ k = omega arith in rw e (omega (arith, pow-suc 2 k))

-- k is written as a number, so that k - 1 computes
pub below_add : {k : ℕ} {a b : ℤ} → Below (k - 1) a → Below (k - 1) b → T (ltb 0 k) → Below k (a +ℤ b)
below_add {k} {a} {b} p q t = record { below = rw (← half k t) (mag_add a b p.below q.below) }

pub below_sub : {k : ℕ} {a b : ℤ} → Below (k - 1) a → Below (k - 1) b → T (ltb 0 k) → Below k (a -ℤ b)
below_sub {k} {a} {b} p q t = record { below = rw (← half k t) (mag_sub a b p.below q.below) }

-- ---- the larger, and a shift right

pub below_cond : (t : Bool) {k : ℕ} {a b : ℤ} → Below k a → Below k b → Below k (cond t a b)
below_cond t {k} {a} {b} p q = record { below = mag_cond t a b p.below q.below }

pub below_max : {k : ℕ} {a b : ℤ} → Below k a → Below k b → Below k (max_z a b)
below_max {k} {a} {b} p q = record { below = mag_cond (lt_z a b) b a q.below p.below }

cond_by : (t : Bool) (a b : ℤ) {n : ℕ} → (T t → mag a < n) → (T (not t) → mag b < n) → mag (cond t a b) < n
cond_by true a b p q = p tt
cond_by false a b p q = q tt

-- the larger of z and y is as near to 0 as y, where z is negative
mag_max : (z y : ℤ) {n : ℕ} → (T (non_neg z) → mag z < n) → mag y < n → mag (max_z z y) < n
mag_max (pos a) y p q = mag_cond (lt_z (pos a) y) y (pos a) q (p tt)
mag_max (negsuc a) (pos b) p q = q
mag_max (negsuc a) (negsuc b) p q = cond_by (ltb b a) (negsuc b) (negsuc a) (λ t. q) (λ t. omega (arith, nltb→le b a t))

mag_less : (x : ℤ) (d : ℕ) {n : ℕ} → mag x < n → T (non_neg (x -ℤ pos d)) → mag (x -ℤ pos d) < n
mag_less (pos a) zero p t = omega arith
mag_less (pos a) (suc d) {n} p t = by (ltb a (suc d)) t
  where
    by : (b : Bool) → T (non_neg (cond b (negsuc (suc d - suc a)) (pos (a - suc d)))) → mag (cond b (negsuc (suc d - suc a)) (pos (a - suc d))) < n
    by true t = absurd t
    by false t = omega arith
mag_less (negsuc a) zero {n} p t = mag_subℕ 0 (suc a) n (omega arith) (omega arith)
mag_less (negsuc a) (suc d) p t = absurd t

-- a number that falls by d, and not below y, is no further from 0 than the two
pub below_fall : {k : ℕ} {x y : ℤ} (d : ℕ) → Below k x → Below k y → Below k (max_z (x -ℤ pos d) y)
below_fall {k} {x} {y} d p q = record { below = mag_max (x -ℤ pos d) y (mag_less x d p.below) q.below }

pub below_shr : {k : ℕ} {z : ℤ} (m : ℕ) → Below k z → Below k (shr_z z m)
below_shr {k} {z} m p = record { below = lt_of_le_of_lt (mag_shr z m) p.below }

-- a shift right by j bits leaves j bits less
pub below_down : {k : ℕ} {z : ℤ} (j : ℕ) → Below (k + j) z → Below k (shr_z z (2 ^ j))
below_down {k} {z} j p = record { below = down z p.below }
  where
    down : (y : ℤ) → mag y < 2 ^ (k + j) → mag (shr_z y (2 ^ j)) < 2 ^ k
    down (pos a) h = (div-lt_iff_lt-mul (pow_pos j)).1 (rw (pow-add 2 k j) at h)
    down (negsuc a) h = (div-lt_iff_lt-mul (pow_pos j)).1 (rw (pow-add 2 k j) at h)

-- ---- what is read back from the bits of a number is no further from 0

mag_sel : (t : Bool) (a b n : ℕ) → (T t → a < n) → (T (not t) → b < n) → mag (sel t (pos a) (negsuc b)) < n
mag_sel true a b n p q = p tt
mag_sel false a b n p q = q tt

mag_read : (z : ℤ) {n : ℕ} → mag z < n → mag (to_z w32 (of_z w32 z)) < n
mag_read (pos a) {n} p = mag_sel (ltb a (2 ^ 31)) a (2 ^ 32 - suc a) n (λ t. p) (λ t. omega (arith, nltb→le a (2 ^ 31) t))
mag_read (negsuc a) {n} p =
    let b = 2 ^ 32 - suc a in
    mag_sel (ltb b (2 ^ 31)) b (2 ^ 32 - suc b) n (λ t. omega (arith, ltb→lt b (2 ^ 31) t)) (λ t. omega (arith, nltb→le b (2 ^ 31) t))

mag_cast : (a : ℕ) {n : ℕ} → a < n → mag (to_z w32 a) < n
mag_cast a p = mag_read (pos a) p

pub below_cast : {k n : ℕ} → Below k (pos n) → Below k (to_z w32 n)
below_cast {k} {n} p = record { below = mag_cast n p.below }

pub below_read : {k : ℕ} {z : ℤ} → Below k z → Below k (to_z w32 (of_z w32 z))
below_read {k} {z} p = record { below = mag_read z p.below }

-- a call's result and an element that was read are in range (`c.f.ok`, `c.f-arg.given`)
pub back_16 : (z : ℤ) → mag z < 2 ^ 15 → to_z w16 (of_z w16 z) ≡ z
back_16 z h = to_z-of_z w16 z (record { sfits = h })

pub back_32 : (z : ℤ) → mag z < 2 ^ 31 → to_z w32 (of_z w32 z) ≡ z
back_32 z h = to_z-of_z w32 z (record { sfits = h })

-- an unsigned number that was cast
pub cast_32 : (n : ℕ) → n < 2 ^ 31 → to_z w32 n ≡ pos n
cast_32 = to_z_pos w32

-- ---- a product with a power of two

pub neg_pos : (n : ℕ) → 0 < n → neg_ℤ (pos n) ≡ negsuc (n - 1)
neg_pos zero p = absurd (not-suc-le-zero p)
neg_pos (suc n) p = ap negsuc (omega arith)

mag_mul : (z : ℤ) (m : ℕ) {n : ℕ} → 0 < m → mag z < n → mag (z *ℤ pos m) < n * m
mag_mul (pos a) m o p = omega (arith, mul-le-mul_right m p, suc-mul a m)
mag_mul (negsuc a) m o p = rw (neg_pos (suc a * m) (omega (arith, suc-mul a m))) (omega (arith, mul-le-mul_right m p, suc-mul a m))

below_mul : {k : ℕ} {z : ℤ} (j : ℕ) → Below (k - j) z → T (leb j k) → Below k (z *ℤ pos (2 ^ j))
below_mul {k} {z} j p t =
    record { below = rw (← sub-add_cancel (leb→le j k t), pow-add 2 (k - j) j) (mag_mul z (2 ^ j) (pow_pos j) p.below) }

pub below_128 : {k : ℕ} {z : ℤ} → Below (k - 7) z → T (leb 7 k) → Below k (z *ℤ pos 128)
below_128 = below_mul 7

pub below_16 : {k : ℕ} {z : ℤ} → Below (k - 4) z → T (leb 4 k) → Below k (z *ℤ pos 16)
below_16 = below_mul 4

pub ruleset bounds = (tt, fits_32, below_lit, below_read, below_cast, below_add, below_sub, below_max, below_more, below_is)

-- the same, with what turns a number that was read back into itself
pub ruleset levels = (to_z-of_z, bounds)
