-- The stages of the code are those of the definition, and how far each is from 0. Assumes nothing.
use mathlib.Core.Bool.{◌&&◌}
use mathlib.Core.Path.{◌≡◌, ◌∙◌, sym, ap, ap₂}
use mathlib.Core.List.{List}
use Prim.Native.Nat.{ℕ, zero, suc, ◌+◌, ◌-◌, ◌≤◌, ◌<◌, min, max}
use native.Mathlib.Omega.{arith}
use lib.Dec.{leb, ltb}
use lib.IntN.{ℤ, pos, ◌+ℤ◌}
use lib.Pow.{pow_pos}
use Rattle.signed.specs.Bound.{Below}
use Rattle.signed.proofs.Bounds.{below_cond}
use Rattle.alloc.specs.Allocation.{from, psd_at, mapped_psd, band_sum, band_of, start_of, end_of, band_psd, bndstrt, bndend, integrated_psd, leak_before, excitation, mask_of, masking_curve, delta_sum, delta_applied, threshold, thresholds, bap_of, pointers, allocation_by}
use Rattle.alloc.specs.Sound.{Exponents}
use Rattle.alloc.specs.Fills.{within}
use Rattle.alloc.specs.Leaks.{excite_at}
use Rattle.alloc.specs.Stages.{Limit, bands_of, thresholds_of, threshold_at, threshold_by}
use Rattle.alloc.specs.Band.{InBand}
use Rattle.alloc.specs.declared.Parameters.{Parameters}
use Rattle.alloc.proofs.BandEnds.{rising, start_mono, end_mono}
use Rattle.alloc.proofs.Bounded.{band_below, level_below, threshold_limit}
use Rattle.alloc.proofs.Filled.{filled_same, everywhere}
use Rattle.alloc.proofs.Noted.{from_same, placed_in, noted_in, noted_is, excitation_at}

-- what is near 0 inside a range and 0 outside is near 0
pub within_below : {k : ℕ} (from to : ℕ) (g : ℕ → ℤ) → ((j : ℕ) → Below k (g j)) → (j : ℕ) → Below k (within (pos 0) from to g j)
within_below from to g all j = below_cond (leb from j && ltb j to) (all j) (record { below = pow_pos _ })

-- ---- 6.2.2.3

sum_same : (f g : ℕ → ℤ) (first n : ℕ) → ((k : ℕ) → first ≤ k → k ≤ first + n → f k ≡ g k) → band_sum f first n ≡ band_sum g first n
unfolding band_sum
sum_same f g first zero same = same first (omega arith) (omega arith)
sum_same f g first (suc n) same =
    let last = same (first + suc n) (omega arith) (omega arith) in
    rw (sum_same f g first n (λ k p q. same k p (omega arith)), last)

module _ (exponents : List ℤ) (p : Parameters) (first last : ℕ) (low : InBand p.start first) (high : InBand (p.end - 1) (last - 1)) (some : 0 < last) (more : p.start < p.end) where
  -- the psd of a band's bins are those of the range
  in_range : (band : ℕ) → first ≤ band → band < last
      → band_psd (psd_at exponents) p.start p.end band ≡ band_psd (mapped_psd p exponents) p.start p.end band
  unfolding band_psd mapped_psd
  in_range band a b =
      let wide = rising band (omega arith) in
      let from = start_mono band (last - 1) (omega arith) (omega arith) in
      let to = end_mono first band (omega arith) (omega arith) in
      sum_same _ _ _ _ (λ k c d. sym (noted_in p.start p.end (psd_at exponents) k (omega arith) (omega arith)))

  pub bands_are : within (pos 0) first last (band_psd (psd_at exponents) p.start p.end) ≡ bands_of exponents p
  unfolding integrated_psd
  bands_are =
      let end_is : last ≡ band_of (p.end - 1) + 1 = omega (arith, high.is) in
      let whole = band_psd (mapped_psd p exponents) p.start p.end in
      everywhere (filled_same (band_psd (psd_at exponents) p.start p.end) whole (λ _. pos 0) first last in_range)
      ∙ ap₂ (λ (a b : ℕ). within (pos 0) a b whole) low.is end_is
      ∙ sym (noted_is (bndstrt p) (bndend p) whole)

pub bands_below : (exponents : List ℤ) (start end first last : ℕ) → end ≤ 253 → Exponents exponents → (band : ℕ) → Below 15 (within (pos 0) first last (band_psd (psd_at exponents) start end) band)
unfolding band_psd
bands_below exponents start end first last h all = within_below first last (band_psd (psd_at exponents) start end) one
  where
    one : (band : ℕ) → Below 15 (band_psd (psd_at exponents) start end band)
    one band = band_below (psd_at exponents) (level_below exponents all) (max start (start_of band)) (min end (end_of band) - 1 - max start (start_of band)) (omega arith)

-- ---- 6.2.2.4 to 6.2.2.7

module _ (exponents : List ℤ) (p : Parameters) where
  -- the excitation of a band, as the code's loops meet it
  abbrev pub excite_of : (bndpsd : ℕ → ℤ) → ℕ → ℤ
  excite_of bndpsd = excite_at p.gains bndpsd (bndend p) (bndstrt p) (leak_before p)

  excite_is : (bndpsd : ℕ → ℤ) (band : ℕ) → bndstrt p ≤ band → band < bndend p → excitation p bndpsd band ≡ excite_of bndpsd band
  unfolding excitation
  excite_is bndpsd band a b =
      placed_in (bndstrt p) _ band a ∙ excitation_at p.gains bndpsd (bndend p) (bndend p - bndstrt p) (bndstrt p) (leak_before p) (band - bndstrt p) (omega arith)

  module _ (band : ℕ) (a : bndstrt p ≤ band) (b : band < bndend p) where
    threshold_is : thresholds_of exponents p band
        ≡ threshold (mask_of (excite_of (bands_of exponents p) band) (bands_of exponents p band) p.dbknee p.fscod band +ℤ delta_sum p.segments band p.count) p.snroffset p.floor
    unfolding thresholds delta_applied masking_curve
    threshold_is =
        noted_in (bndstrt p) (bndend p) _ band a b
        ∙ ap (λ (m : ℤ). threshold m p.snroffset p.floor)
        (noted_in (bndstrt p) (bndend p) _ band a b
        ∙ ap (λ (m : ℤ). m +ℤ delta_sum p.segments band p.count)
        (noted_in (bndstrt p) (bndend p) _ band a b
        ∙ ap (λ (e : ℤ). mask_of e (bands_of exponents p band) p.dbknee p.fscod band) (excite_is (bands_of exponents p) band a b)))

    pub threshold_by_lem : (excite delta : ℕ → ℤ) → excite band ≡ excite_of (bands_of exponents p) band → delta band ≡ delta_sum p.segments band p.count
        → threshold_by excite (bands_of exponents p) delta p.dbknee p.fscod p.snroffset p.floor band ≡ thresholds_of exponents p band
    unfolding threshold_at mask_of
    threshold_by_lem excite delta e d =
        ap₂ (λ (x y : ℤ). threshold (mask_of x (bands_of exponents p band) p.dbknee p.fscod band +ℤ y) p.snroffset p.floor) e d
        ∙ sym threshold_is

    -- a threshold is bounded, whatever the input
    pub limited : Below 11 p.floor → Limit (thresholds_of exponents p band)
    limited h = rw threshold_is (threshold_limit _ p.snroffset p.floor h)

-- the pointers by a table, bin by bin
module _ (baps : List ℕ) (exponents : List ℤ) (p : Parameters) where
  pub pointers_are : (f : ℕ → ℕ) → ((bin : ℕ) → p.start ≤ bin → bin < p.end → f bin ≡ bap_of baps (psd_at exponents bin) (thresholds_of exponents p (band_of bin)))
      → from p.start (p.end - p.start) f ≡ allocation_by baps exponents p
  unfolding allocation_by pointers mapped_psd
  pointers_are f is =
      from_same f _ (p.end - p.start) p.start
      (λ bin a b.
      is bin a (omega arith)
      ∙ ap (λ (z : ℤ). bap_of baps z (thresholds_of exponents p (band_of bin))) (sym (noted_in p.start p.end (psd_at exponents) bin a (omega arith))))
