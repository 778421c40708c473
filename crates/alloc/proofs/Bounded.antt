-- How far the definition's levels are from 0: bounds on the definition, which the loops' steps cite. Assumes nothing.
use mathlib.Core.Path.{◌≡◌, refl, ap, sym, ◌∙◌}
use mathlib.Core.Bool.{Bool, true, false, not, cond, ◌&&◌}
use mathlib.Core.List.{List}
use Prim.Native.Nat.{ℕ, zero, suc, ◌+◌, ◌*◌, ◌-◌, ◌/◌, ◌^◌, ◌≤◌, ◌<◌, min, zero-le}
use native.Mathlib.Omega.{arith}
use native.Mathlib.Nat.{lt_of_lt_of_le, pow-succ'}
use native.Mathlib.Numerals.{add-one}
use lib.Dec.{T, leb, ltb, leb→le, le→leb}
use borrow.Author.Tests.{le-ltb}
use lib.IntN.{ℤ, pos, negsuc, nat_abs, neg_ℤ, ◌+ℤ◌, ◌-ℤ◌, ◌*ℤ◌, +ℤ_idl, +ℤ_comm, +ℤ-neg_ℤ_cancel}
use lib.Signed.{mag, lt_z, ◌≤ℤ◌}
use Rattle.signed.specs.Level.{max_z}
use Rattle.signed.specs.Bound.{Below}
use Rattle.signed.proofs.Bounds.{bounds, mag_add, mag_cond, below_is, below_u16, below_more, below_add, below_shr, below_128, below_lit, below_cond, below_fall}
use Rattle.signed.proofs.Order.{plus_mono, plus_above}
use Rattle.alloc.specs.Allocation.{at, psd_of, psd_at, logadd, lowcomp, band_sum, lfe_last, low_after, fall_to, over_knee, kept, threshold, delta_of}
use Rattle.alloc.specs.Sound.{Exponents}
use Rattle.alloc.specs.Stages.{Limit, relative, relative_at}
use Rattle.tables.proofs.Rule.{log_add_at_most}

-- the sum is between the larger level and 64 more
pub logadd_above : (a b : ℤ) → max_z a b ≤ℤ logadd a b
unfolding logadd
logadd_above a b = plus_above (max_z a b) _

pub logadd_close : (a b : ℤ) → logadd a b ≤ℤ (max_z a b +ℤ pos 64)
unfolding logadd
logadd_close a b = plus_mono (max_z a b) _ 64 (log_add_at_most (min (nat_abs (a -ℤ b) / 2) 255))

logadd_mag : (a b : ℤ) {m : ℕ} → mag a < m → mag b < m → mag (logadd a b) < m + 65
unfolding logadd
logadd_mag a b p q = mag_add (max_z a b) _ (mag_cond (lt_z a b) b a q p) (omega (arith, log_add_at_most (min (nat_abs (a -ℤ b) / 2) 255)))

pub logadd_below : {k : ℕ} {a b : ℤ} → Below k a → Below k b → T (leb 65 (2 ^ k)) → Below (k + 1) (logadd a b)
logadd_below {k} {a} {b} p q t =
    record { below = rw (add-one k, pow-succ') (lt_of_lt_of_le (logadd_mag a b p.below q.below) (omega (arith, leb→le 65 (2 ^ k) t))) }

band_mag : (level : ℕ → ℤ) {m : ℕ} → ((bin : ℕ) → mag (level bin) < m) → (first n : ℕ) → mag (band_sum level first n) < m + 65 * n
unfolding band_sum
band_mag level all first zero = omega (arith, all first)
band_mag level {m} all first (suc n) =
    lt_of_lt_of_le (logadd_mag (band_sum level first n) _ (band_mag level all first n) (omega (arith, all (first + suc n)))) (omega arith)

pub band_below : (level : ℕ → ℤ) → ((bin : ℕ) → Below 13 (level bin)) → (first n : ℕ) → n ≤ 256 → Below 15 (band_sum level first n)
band_below level all first n p = record { below = omega (arith, band_mag level (λ bin. (all bin).below) first n) }

-- a number between 0 and a top
pub natural : {top : ℕ} (z : ℤ) → pos 0 ≤ℤ z → z ≤ℤ pos top → (z ≡ pos (nat_abs z)) × (nat_abs z ≤ top)
natural {top} (pos n) low high = (refl, leb→le n top high.le)
natural (negsuc n) low high = absurd low.le

-- an exponent, and the level that it stands for
exponent_below : (z : ℤ) → pos 0 ≤ℤ z → z ≤ℤ pos 24 → Below 5 z
exponent_below z low high = let e = natural z low high in below_is e.0 (record { below = omega arith })

pub level_below : (exponents : List ℤ) → Exponents exponents → (bin : ℕ) → Below 13 (psd_at exponents bin)
unfolding psd_of
level_below exponents all bin = let e = exponent_below (at exponents bin) (all bin).0 (all bin).1 in search (bounds, below_128) depth 12

less : (a b : ℕ) → b ≤ a → pos a -ℤ pos b ≡ pos (a - b)
less a zero h = ap pos (omega arith)
less a (suc b) h = rw (le-ltb a (suc b) h) (ap pos (omega arith))

-- a level is between that of exponent 24 and that of exponent 0
pub level_range : (exponents : List ℤ) → Exponents exponents → (bin : ℕ) → (pos 0 ≤ℤ psd_at exponents bin) × (psd_at exponents bin ≤ℤ pos 3072)
unfolding psd_of
level_range exponents all bin = let e = natural (at exponents bin) (all bin).0 (all bin).1 in rw e.0 (ranged (nat_abs (at exponents bin)) e.1)
  where
    ranged : (k : ℕ) → k ≤ 24 → (pos 0 ≤ℤ (pos 3072 -ℤ pos k *ℤ pos 128)) × ((pos 3072 -ℤ pos k *ℤ pos 128) ≤ℤ pos 3072)
    ranged k h = rw (less 3072 (k * 128) (omega arith)) (record { le = le→leb 0 (3072 - k * 128) zero-le }, record { le = le→leb (3072 - k * 128) 3072 (omega arith) })

relative_is : (z : ℤ) → relative z ≡ pos 0 -ℤ z *ℤ pos 128
unfolding relative psd_of
relative_is z =
    ap (λ (y : ℤ). y -ℤ pos 3072) (+ℤ_comm (pos 3072) (neg_ℤ (z *ℤ pos 128)))
    ∙ +ℤ-neg_ℤ_cancel (neg_ℤ (z *ℤ pos 128)) (pos 3072)
    ∙ sym (+ℤ_idl (neg_ℤ (z *ℤ pos 128)))

-- how far it is below that of exponent 0
pub drop_is : (z : ℤ) → neg_ℤ (z *ℤ pos 128) ≡ relative z
drop_is z = sym (relative_is z ∙ +ℤ_idl (neg_ℤ (z *ℤ pos 128)))

pub drop_below : (z : ℤ) → pos 0 ≤ℤ z → z ≤ℤ pos 24 → Below 13 (z *ℤ pos 128)
drop_below z low high = let e = exponent_below z low high in search (bounds, below_128) depth 12

pub relative_small : (z : ℤ) → pos 0 ≤ℤ z → z ≤ℤ pos 24 → Below 13 (relative z)
relative_small z low high = let e = exponent_below z low high in below_is (relative_is z) (search (bounds, below_128) depth 12)

pub relative_below : (exponents : List ℤ) → Exponents exponents → (bin : ℕ) → Below 13 (relative_at exponents bin)
relative_below exponents all bin = relative_small (at exponents bin) (all bin).0 (all bin).1

pub fall_below : {k : ℕ} (leak : ℤ) (decay : ℕ) (floor : ℤ) → Below k leak → Below k floor → Below k (fall_to leak decay floor)
unfolding fall_to
fall_below leak decay floor p q = below_fall decay p q

pub lowcomp_below : (a b0 b1 : ℤ) (bin : ℕ) → Below 9 a → Below 9 (lowcomp a b0 b1 bin)
unfolding lowcomp
lowcomp_below a b0 b1 bin p =
    below_cond (ltb bin 20)
    (below_cond _
    (below_cond (ltb bin 7) (below_lit tt) (below_lit tt))
    (below_cond (lt_z b1 b0) (below_fall 64 p (below_lit tt)) p))
    (below_fall 128 p (below_lit tt))

pub low_below : (level : ℕ → ℤ) (bands band : ℕ) (low : ℤ) → Below 9 low → Below 9 (low_after level bands band low)
unfolding low_after
low_below level bands band low p =
    below_cond (ltb band 22 && not (lfe_last bands band)) (lowcomp_below low (level band) (level (band + 1)) band p) p

pub knee_below : (excite here : ℤ) (knee : ℕ) → knee < 2 ^ 16 → Below 18 excite → Below 15 here → Below 19 (over_knee excite here knee)
unfolding over_knee
knee_below excite here knee k p q =
    let n = below_u16 knee k in
    below_cond (lt_z here (pos knee)) (search (bounds, below_shr) depth 12) (below_more p tt)

kept_below : (z : ℤ) → Below 13 (kept z)
unfolding kept
kept_below z = record { below = omega arith }

threshold_below : (mask snr floor : ℤ) → Below 11 floor → Below 14 (threshold mask snr floor)
unfolding threshold
threshold_below mask snr floor p = below_add {k = 14} (kept_below (max_z (mask -ℤ snr -ℤ floor) (pos 0))) (below_more p tt) tt

-- and is not below the lowest floor
not_below : (t : Bool) (x y : ℕ) → x ≤ 2047 → negsuc 2047 ≤ℤ cond t (negsuc x) (pos y)
not_below true x y h = record { le = le→leb x 2047 h }
not_below false x y h = record { le = tt }

raised : (k : ℕ) (floor : ℤ) → Below 11 floor → negsuc 2047 ≤ℤ (pos k +ℤ floor)
raised k (pos f) p = record { le = tt }
raised k (negsuc f) p = not_below (ltb k (suc f)) _ _ (omega (arith, p.below))

pub threshold_limit : (mask snr floor : ℤ) → Below 11 floor → Limit (threshold mask snr floor)
unfolding threshold kept
threshold_limit mask snr floor p = record { below = threshold_below mask snr floor p; above = raised _ floor p }

pub delta_of_below : (code : ℕ) → code < 256 → Below 16 (delta_of code)
unfolding delta_of
delta_of_below code p =
    let small : Below 8 (pos code) = record { below = p } in
    below_cond (leb 4 code) {k = 16} {a = (pos code -ℤ pos 3) *ℤ pos 128} {b = (pos code -ℤ pos 4) *ℤ pos 128} (search (bounds, below_128) depth 12) (search (bounds, below_128) depth 12)
