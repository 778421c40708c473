-- The bands: their ends rise, and a bin's band is the one whose end is the first above it. Assumes nothing.
use mathlib.Core.Path.{◌≡◌, ◌∙◌, refl, ap, sym}
use mathlib.Core.Bool.{Bool, true, cond, ◌&&◌}
use mathlib.Core.List.{List, [], ◌∷◌}
use Prim.Native.Nat.{ℕ, zero, suc, ◌+◌, ◌-◌, ◌/◌, ◌≤◌, ◌<◌, min, max, suc-le-suc}
use native.Mathlib.Decide.{ℕ_discrete, dec_lt}
use native.Mathlib.Nat.{add-zero, zero-add, le_refl, le_of_suc-le-suc, not-suc-le-zero}
use native.Mathlib.Numerals.{add-one}
use native.Mathlib.Omega.{arith}
use lib.Dec.{T, leb, ltb, eqb, leb→le, ltb→lt, eqb→eq}
use lib.IntN.{ℤ}
use lib.ListN.{length, get_or}
use borrow.Author.Tests.{lt-ltb, le-ltb}
use Rattle.tables.specs.Tables.{band_end}
use Rattle.alloc.specs.Allocation.{first_above, band_of, start_of, end_of, band_sum, band_psd}
use Rattle.alloc.specs.Band.{InBand}
use store.Enc.{and_l, and_r}

-- ---- the first entry of a list above b

first_is : (xs : List ℕ) (b k : ℕ) → k < length xs → ((j : ℕ) → j < k → get_or xs j 0 ≤ b) → b < get_or xs k 0 → first_above xs b ≡ k
first_is [] b k h low high = absurd (not-suc-le-zero h)
first_is (x ∷ xs) b zero h low high = rw (lt-ltb b x high)
first_is (x ∷ xs) b (suc k) h low high =
    rw (le-ltb b x (low 0 (omega arith))) (ap suc (first_is xs b k (le_of_suc-le-suc h) (λ j p. low (suc j) (suc-le-suc p)) high))

-- ---- the ends rise

-- each entry is above the one before it; x stands before the first
abbrev rises : ℕ → List ℕ → Bool
rises x [] = true
rises x (y ∷ ys) = ltb x y && rises y ys

rises_at : (x : ℕ) (ys : List ℕ) → T (rises x ys) → (k : ℕ) → k < length ys → get_or (x ∷ ys) k 0 < get_or ys k 0
rises_at x [] t k h = absurd (not-suc-le-zero h)
rises_at x (y ∷ ys) t zero h = ltb→lt x y (and_l (ltb x y) (rises y ys) t)
rises_at x (y ∷ ys) t (suc k) h = rises_at y ys (and_r (ltb x y) (rises y ys) t) k (le_of_suc-le-suc h)

pub rising : (band : ℕ) → band < 50 → start_of band < end_of band
unfolding band_end start_of end_of
rising band h = rises_at 0 band_end tt band h

-- what a copy of the table has
pub end_at : (l : List ℕ) (band : ℕ) → l ≡ band_end → get_or l band 0 ≡ end_of band
unfolding end_of
end_at l band e = ap (λ (m : List ℕ). get_or m band 0) e

-- a band starts where the one before it ends
start_next : (band : ℕ) → start_of (suc band) ≡ end_of band
unfolding start_of end_of
start_next band = refl

pub start_after : (band : ℕ) → start_of (band + 1) ≡ end_of band
start_after band = rw (add-one band) (start_next band)

pub start_at : (l : List ℕ) (band : ℕ) → l ≡ band_end → 0 < band → get_or l (band - 1) 0 ≡ start_of band
start_at l band e h =
    let back : band - 1 + 1 ≡ band = omega arith in
    end_at l (band - 1) e ∙ sym (start_after (band - 1)) ∙ ap start_of back

start_zero : start_of 0 ≡ 0
unfolding start_of
start_zero = refl

pub last_start : start_of 50 ≡ 253
unfolding band_end start_of
last_start = refl

pub start_mono : (j k : ℕ) → j ≤ k → k ≤ 50 → start_of j ≤ start_of k
start_mono j zero p h = let e : j ≡ 0 = omega arith in rw e (le_refl _)
start_mono j (suc k) p h = by (ℕ_discrete j (suc k)) (start_mono j k)
  where
    by : Dec (j ≡ suc k) → (j ≤ k → k ≤ 50 → start_of j ≤ start_of k) → start_of j ≤ start_of (suc k)
    by (yes same) before = rw same (le_refl _)
    by (no other) before = omega (arith, before (omega arith) (omega arith), rising k (omega arith), start_next k)

pub end_mono : (j k : ℕ) → j ≤ k → k < 50 → end_of j ≤ end_of k
end_mono j k p h = rw (← start_next j, ← start_next k) (start_mono (suc j) (suc k) (omega arith) (omega arith))

-- ---- bands of 1, 3, 6, 12 and 24 bins

abbrev width_of : ℕ → ℕ
width_of band = cond (ltb band 28) 1 (cond (ltb band 35) 3 (cond (ltb band 41) 6 (cond (ltb band 45) 12 24)))

-- each band, counted from i, is as wide as that; x is where the first one starts
abbrev regular : ℕ → ℕ → List ℕ → Bool
regular i x [] = true
regular i x (y ∷ ys) = eqb y (x + width_of i) && regular (suc i) y ys

regular_at : (i x : ℕ) (ys : List ℕ) → T (regular i x ys) → (k : ℕ) → k < length ys → get_or ys k 0 ≡ get_or (x ∷ ys) k 0 + width_of (i + k)
regular_at i x [] t k h = absurd (not-suc-le-zero h)
regular_at i x (y ∷ ys) t zero h = rw add-zero (eqb→eq y (x + width_of i) (and_l (eqb y (x + width_of i)) (regular (suc i) y ys) t))
regular_at i x (y ∷ ys) t (suc k) h =
    let next : suc i + k ≡ i + suc k = omega arith in
    regular_at (suc i) y ys (and_r (eqb y (x + width_of i)) (regular (suc i) y ys) t) k (le_of_suc-le-suc h) ∙ ap (λ (n : ℕ). get_or (y ∷ ys) k 0 + width_of n) next

pub width : (band : ℕ) → band < 50 → end_of band ≡ start_of band + width_of band
unfolding band_end start_of end_of
width band h = regular_at 0 0 band_end tt band h ∙ ap (λ (n : ℕ). get_or (0 ∷ band_end) band 0 + width_of n) (zero-add band)

-- below 28 a band is a bin
pub narrow : (band : ℕ) → band < 28 → (start_of band ≡ band) × (end_of band ≡ band + 1)
narrow zero h = (start_zero, width 0 (omega arith) ∙ ap (λ (n : ℕ). n + 1) start_zero)
narrow (suc band) h =
    let start : start_of (suc band) ≡ suc band = start_next band ∙ (narrow band (omega arith)).1 ∙ add-one band in
    (start, width (suc band) (omega arith) ∙ rw (start, lt-ltb (suc band) 28 h))

-- ---- a bin's band

band_is : (bin band : ℕ) → band < 50 → ((j : ℕ) → j < band → end_of j ≤ bin) → bin < end_of band → band_of bin ≡ band
unfolding band_end band_of end_of
band_is bin band h low high = first_is band_end bin band h low high

pub band_at : (bin band : ℕ) → band < 50 → start_of band ≤ bin → bin < end_of band → band_of bin ≡ band
band_at bin band h low high =
    band_is bin band h (λ j p. omega (arith, start_next j, start_mono (suc j) band (omega arith) (omega arith))) high

pub in_band : (bin band : ℕ) → band < 50 → start_of band ≤ bin → bin < end_of band → InBand bin band
in_band bin band h low high = record { is = sym (band_at bin band h low high); small = h; low = low; high = high }

pub in_order : (a b j k : ℕ) → InBand a j → InBand b k → a ≤ b → j ≤ k
in_order a b j k p q h = by (dec_lt k j)
  where
    by : Dec (k < j) → j ≤ k
    by (yes less) = absurd (omega (arith, start_mono (k + 1) j (omega arith) (omega arith), start_after k))
    by (no more) = omega arith

-- the band of a bin by the ranges
unfoldable pub ranged : (bin : ℕ) → ℕ
ranged bin =
    cond (ltb bin 28) bin
    (cond (ltb bin 49) (28 + (bin - 28) / 3)
    (cond (ltb bin 85) (35 + (bin - 49) / 6)
    (cond (ltb bin 133) (41 + (bin - 85) / 12)
    (45 + (bin - 133) / 24))))

-- the ranges are those of the table, by one computed test over all bins
abbrev contained : ℕ → Bool
contained bin = ltb (ranged bin) 50 && (leb (start_of (ranged bin)) bin && ltb bin (end_of (ranged bin)))

abbrev all_contained : ℕ → Bool
all_contained zero = true
all_contained (suc n) = contained n && all_contained n

contained_at : (n : ℕ) → T (all_contained n) → (bin : ℕ) → bin < n → T (contained bin)
contained_at zero t bin h = absurd (not-suc-le-zero h)
contained_at (suc n) t bin h = by (contained_at n (and_r (contained n) (all_contained n) t) bin) (ℕ_discrete bin n)
  where
    by : (bin < n → T (contained bin)) → Dec (bin ≡ n) → T (contained bin)
    by before (yes same) = rw same (and_l (contained n) (all_contained n) t)
    by before (no other) = before (omega arith)

test : T (all_contained 253)
unfolding band_end ranged start_of end_of
test = tt

pub ranged_in : (bin : ℕ) → bin < 253 → InBand bin (ranged bin)
ranged_in bin h =
    let t = contained_at 253 test bin h in
    let rest = and_r (ltb (ranged bin) 50) (leb (start_of (ranged bin)) bin && ltb bin (end_of (ranged bin))) t in
    in_band bin (ranged bin)
    (ltb→lt (ranged bin) 50 (and_l (ltb (ranged bin) 50) (leb (start_of (ranged bin)) bin && ltb bin (end_of (ranged bin))) t))
    (leb→le (start_of (ranged bin)) bin (and_l (leb (start_of (ranged bin)) bin) (ltb bin (end_of (ranged bin))) rest))
    (ltb→lt bin (end_of (ranged bin)) (and_r (leb (start_of (ranged bin)) bin) (ltb bin (end_of (ranged bin))) rest))

-- so every bin has its band
pub band_of_lem : (bin : ℕ) → bin < 253 → InBand bin (band_of bin)
band_of_lem bin h = let r = ranged_in bin h in rw (← r.is) r

-- ---- levels of bands

-- a band of one bin has that bin's level
pub narrow_level : (level : ℕ → ℤ) (start end band : ℕ) → band < 28 → start ≤ band → band < end → level band ≡ band_psd level start end band
unfolding band_psd band_sum
narrow_level level start end band h p q =
    let n = narrow band h in
    let first : max start (start_of band) ≡ band = omega arith in
    let none : min end (end_of band) - 1 - band ≡ 0 = omega arith in
    rw (first, none)
