-- Sums of levels: of two, by their difference; and sums of levels that are all less by a constant are less by that constant.
-- Assumes nothing.
use mathlib.Core.List.{List}
use mathlib.Core.Path.{◌≡◌, refl, sym, ap, ap₂, ◌∙◌, subst}
use mathlib.Core.Bool.{Bool, true, false, not, cond, ◌&&◌}
use Prim.Native.Nat.{ℕ, zero, suc, ◌+◌, ◌/◌, ◌≤◌, ◌<◌, min, zero-le}
use native.Mathlib.Omega.{arith}
use lib.Dec.{T, leb, ltb, ltb→lt, leb-suc-suc}
use lib.IntN.{ℤ, pos, negsuc, suc_ℤ, pred_ℤ, neg_ℤ, nat_abs, suc-pred, neg_ℤ-suc_ℤ, ◌+ℤ◌, ◌-ℤ◌, +ℤ_idr, +ℤ-suc_ℤ, +ℤ-pred_ℤ, suc_ℤ-+ℤ, -ℤ-+ℤ_cancel}
use lib.ListN.{get_or}
use lib.Signed.{lt_z, le_z, non_neg}
use borrow.Author.Tests.{lt-ltb, le-ltb, le-leb, ltb-true, ltb-false}
use Rattle.signed.specs.Level.{max_z}
use Rattle.tables.specs.Tables.{log_add}
use Rattle.tables.proofs.Rule.{log_add_rule}
use store.Enc.{and_r}
use Rattle.alloc.specs.Allocation.{at, logadd, psd_of, psd_at, band_sum}
use Rattle.alloc.specs.Stages.{relative, relative_at}

-- ---- the larger of two, by the sign of their difference

sign : (t : Bool) (x y : ℕ) → lt_z (cond t (negsuc x) (pos y)) (pos 0) ≡ t
sign true x y = refl
sign false x y = le-ltb y 0 zero-le

pub less_by : (a b : ℤ) → lt_z (a -ℤ b) (pos 0) ≡ lt_z a b
less_by (pos a) (pos zero) = le-ltb (a + 0) 0 zero-le ∙ sym (le-ltb a 0 zero-le)
less_by (pos a) (pos (suc b)) = sign (ltb a (suc b)) _ _
less_by (pos a) (negsuc b) = le-ltb (a + suc b) 0 zero-le
less_by (negsuc a) (pos zero) = sign (ltb 0 (suc a)) _ _ ∙ lt-ltb 0 (suc a) (omega arith)
less_by (negsuc a) (pos (suc b)) = refl
less_by (negsuc a) (negsuc b) = sign (ltb (suc b) (suc a)) _ _ ∙ leb-suc-suc (suc b) a

not_less : (z : ℤ) → T (non_neg z) → lt_z z (pos 0) ≡ false
not_less (pos n) t = le-ltb n 0 zero-le
not_less (negsuc n) t = absurd t

pub larger_first : (a b : ℤ) → T (non_neg (a -ℤ b)) → max_z a b ≡ a
larger_first a b t = rw (sym (less_by a b) ∙ not_less (a -ℤ b) t)

less : (z : ℤ) → T (not (non_neg z)) → lt_z z (pos 0) ≡ true
less (pos n) t = absurd t
less (negsuc n) t = refl

pub larger_second : (a b : ℤ) → T (not (non_neg (a -ℤ b))) → max_z a b ≡ b
larger_second a b t = rw (sym (less_by a b) ∙ less (a -ℤ b) t)

-- the sum is the larger, m, and what the table has at half the distance
pub near : (a b m : ℤ) → max_z a b ≡ m → nat_abs (a -ℤ b) < 512 → m +ℤ pos (get_or log_add (nat_abs (a -ℤ b) / 2) 0) ≡ logadd a b
unfolding logadd
near a b m e h =
    let inside : nat_abs (a -ℤ b) / 2 ≡ min (nat_abs (a -ℤ b) / 2) 255 = omega arith in
    ap₂ ◌+ℤ◌ (sym e) (ap (λ (k : ℕ). pos (get_or log_add k 0)) inside)

-- far apart, the table has nothing to add
pub far : (a b m : ℤ) → max_z a b ≡ m → 512 ≤ nat_abs (a -ℤ b) → m ≡ logadd a b
unfolding logadd
far a b m e h =
    let last : min (nat_abs (a -ℤ b) / 2) 255 ≡ 255 = omega arith in
    sym (+ℤ_idr m) ∙ ap₂ ◌+ℤ◌ (sym e) (ap pos (sym log_add_rule.2 ∙ ap (λ (k : ℕ). get_or log_add k 0) (sym last)))

-- ---- what the tests on a difference tell

pub near_test : (z : ℤ) → (le_z (pos 0) z && lt_z z (pos 512)) ≡ true → T (non_neg z) × (nat_abs z < 512)
near_test (pos n) e = (tt, ltb→lt n 512 (and_r (leb 0 n) (ltb n 512) (subst T (sym e) tt)))
near_test (negsuc n) e = absurd (subst T (sym e) tt)

pub far_test : (z : ℤ) → (le_z (pos 0) z && lt_z z (pos 512)) ≡ false → le_z (pos 0) z ≡ true → T (non_neg z) × (512 ≤ nat_abs z)
far_test (pos n) e h = (tt, ltb-false n 512 (sym (ap (λ (t : Bool). (t && ltb n 512)) h) ∙ e))
far_test (negsuc n) e h = absurd (subst T (sym h) tt)

pub below_test : (z : ℤ) → le_z (pos 0) z ≡ false → T (not (non_neg z))
below_test (pos n) e = absurd (subst T (sym (le-leb 0 n zero-le) ∙ e) tt)
below_test (negsuc n) e = tt

pub near_below_test : (z : ℤ) → T (not (non_neg z)) → lt_z (negsuc 511) z ≡ true → nat_abs z < 512
near_below_test (pos n) t e = absurd t
near_below_test (negsuc n) t e = omega (arith, ltb-true n 511 e)

pub far_below_test : (z : ℤ) → T (not (non_neg z)) → lt_z (negsuc 511) z ≡ false → 512 ≤ nat_abs z
far_below_test (pos n) t e = absurd t
far_below_test (negsuc n) t e = omega (arith, ltb-false n 511 e)

pub opposite : (z : ℤ) → T (not (non_neg z)) → pos 0 -ℤ z ≡ pos (nat_abs z)
opposite (pos n) t = absurd t
opposite (negsuc n) t = ap pos (omega arith)

-- ---- levels that are all less by a constant

sub_suc : (a b : ℤ) → suc_ℤ a -ℤ suc_ℤ b ≡ a -ℤ b
sub_suc a b =
    ap (λ (k : ℤ). suc_ℤ a +ℤ k) (neg_ℤ-suc_ℤ b) ∙ suc_ℤ-+ℤ a (pred_ℤ (neg_ℤ b)) ∙ ap suc_ℤ (+ℤ-pred_ℤ a (neg_ℤ b)) ∙ suc-pred (a +ℤ neg_ℤ b)

max_suc : (a b : ℤ) → max_z (suc_ℤ a) (suc_ℤ b) ≡ suc_ℤ (max_z a b)
max_suc a b =
    ap (λ (t : Bool). cond t (suc_ℤ b) (suc_ℤ a)) (sym (less_by (suc_ℤ a) (suc_ℤ b)) ∙ ap (λ (z : ℤ). lt_z z (pos 0)) (sub_suc a b) ∙ less_by a b)
    ∙ either (lt_z a b)
  where
    either : (t : Bool) → cond t (suc_ℤ b) (suc_ℤ a) ≡ suc_ℤ (cond t b a)
    either true = refl
    either false = refl

logadd_suc : (a b : ℤ) → logadd (suc_ℤ a) (suc_ℤ b) ≡ suc_ℤ (logadd a b)
unfolding logadd
logadd_suc a b =
    ap₂ (λ (m d : ℤ). m +ℤ pos (get_or log_add (min (nat_abs d / 2) 255) 0)) (max_suc a b) (sub_suc a b)
    ∙ suc_ℤ-+ℤ (max_z a b) (pos (get_or log_add (min (nat_abs (a -ℤ b) / 2) 255) 0))

logadd_more : (n : ℕ) (a b : ℤ) → logadd (a +ℤ pos n) (b +ℤ pos n) ≡ logadd a b +ℤ pos n
logadd_more zero a b = rw (+ℤ_idr a, +ℤ_idr b, +ℤ_idr (logadd a b))
logadd_more (suc n) a b =
    ap₂ logadd (+ℤ-suc_ℤ a (pos n)) (+ℤ-suc_ℤ b (pos n)) ∙ logadd_suc (a +ℤ pos n) (b +ℤ pos n) ∙ ap suc_ℤ (logadd_more n a b) ∙ sym (+ℤ-suc_ℤ (logadd a b) (pos n))

level_more : (e : ℤ) → psd_of e ≡ relative e +ℤ pos 3072
unfolding relative
level_more e = sym (-ℤ-+ℤ_cancel (psd_of e) (pos 3072))

pub sum_more : (exponents : List ℤ) (first n : ℕ) → band_sum (relative_at exponents) first n +ℤ pos 3072 ≡ band_sum (psd_at exponents) first n
unfolding band_sum
sum_more exponents first zero = sym (level_more (at exponents first))
sum_more exponents first (suc n) =
    sym (logadd_more 3072 (band_sum (relative_at exponents) first n) (relative_at exponents (first + suc n)))
    ∙ ap₂ logadd (sum_more exponents first n) (sym (level_more (at exponents (first + suc n))))
