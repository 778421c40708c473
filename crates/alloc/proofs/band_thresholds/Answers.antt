-- `alloc::band_thresholds` meets its contract: stage by stage, the entries of each array are the definition's. Assumes nothing.
use Rattle.std.proofs.Common.{◌≡◌, ◌∙◌, refl, ap, ℕ, ◌-◌, ◌≤◌, ◌<◌, ◌^◌, List, replicate, ℤ, pos, arith}
use mathlib.Core.Path.{ap₂}
use Rattle.signed.proofs.Bounds.{below_is}
use Rattle.alloc.specs.Allocation.{at, psd_at, band_psd, bndstrt, bndend, leak_before, delta_sum}
use Rattle.alloc.specs.Band.{Spans}
use Rattle.alloc.specs.Fills.{within, Fills}
use Rattle.alloc.specs.Leaks.{excite_at}
use Rattle.alloc.specs.Sound.{Exponents, SoundParameters, Bounded, Every}
use Rattle.alloc.specs.Stages.{threshold_by, bands_of, thresholds_of}
use Rattle.alloc.specs.declared.Parameters.{Parameters}
use Rattle.alloc.proofs.BandEnds.{in_order}
use Rattle.alloc.proofs.Filled.{everywhere, filled_in, fills_fresh}
use Rattle.alloc.proofs.Leaks.{excite_below}
use Rattle.alloc.proofs.Stages.{within_below, bands_are, bands_below, excite_of, threshold_by_lem}
use Rattle.alloc.proofs.band_thresholds.Goals as goal

module _ (exponents : List ℤ) (p : Parameters) (first last : ℕ) (spans : Spans p.start p.end first last) where
  ordered : first ≤ last - 1
  ordered = in_order p.start (p.end - 1) first (last - 1) spans.low spans.high (omega (arith, spans.more))

  first_is : first ≡ bndstrt p
  first_is = spans.low.is

  last_is : last ≡ bndend p
  last_is = omega (arith, spans.high.is, spans.some)

  module _ (sound : SoundParameters p) (all : Exponents exponents) (l : List ℤ) (filled : Fills (pos 0) first last (band_psd (psd_at exponents) p.start p.end) (replicate 50 (pos 0)) l) where
    -- 6.2.2.3
    bands_in : (k : ℕ) → at l k ≡ within (pos 0) first last (band_psd (psd_at exponents) p.start p.end) k
    bands_in = fills_fresh _ _ 50 _ _ refl filled

    bands : at l ≡ bands_of exponents p
    bands = everywhere bands_in ∙ bands_are exponents p first last spans.low spans.high spans.some spans.more

    bands_small : Every 15 l
    bands_small k = below_is (bands_in k) (bands_below exponents p.start p.end first last sound.end all k)

    -- 6.2.2.4
    abbrev excite_by : (ℕ → ℤ) → ℕ → ℤ
    excite_by level = excite_at p.gains level last first (leak_before p)

    module _ (e : List ℤ) (excited : Fills (pos 0) first last (excite_by (at l)) (replicate 50 (pos 0)) e) where
      excite_in : (k : ℕ) → at e k ≡ within (pos 0) first last (excite_by (at l)) k
      excite_in = fills_fresh _ _ 50 _ _ refl excited

      excite_is : (band : ℕ) → first ≤ band → band < last → at e band ≡ excite_of exponents p (bands_of exponents p) band
      excite_is band a b =
          excite_in band
          ∙ filled_in (excite_by (at l)) (λ _. pos 0) first last band a b
          ∙ ap (λ (level : ℕ → ℤ). excite_by level band) bands
          ∙ ap₂ (λ (m n : ℕ). excite_at p.gains (bands_of exponents p) m n (leak_before p) band) last_is first_is

      excite_small : (p.gains.fgain < 2 ^ 16) × (p.gains.sgain < 2 ^ 16) → Bounded (leak_before p) → Every 18 e
      excite_small fits bounded k =
          below_is (excite_in k)
          (within_below first last (excite_by (at l)) (λ j. excite_below p.gains fits (at l) bands_small last first (leak_before p) bounded (j - first)) k)

      -- 6.2.2.5 to 6.2.2.7
      thresholds_are : (delta : ℕ → ℤ) (band : ℕ) → first ≤ band → band < last → delta band ≡ delta_sum p.segments band p.count
          → threshold_by (at e) (at l) delta p.dbknee p.fscod p.snroffset p.floor band ≡ thresholds_of exponents p band
      thresholds_are delta band a b d =
          ap (λ (level : ℕ → ℤ). threshold_by (at e) level delta p.dbknee p.fscod p.snroffset p.floor band) bands
          ∙ threshold_by_lem exponents p band (omega (arith, first_is)) (omega (arith, last_is)) (at e) delta (excite_is band a b) d

pub excitations-requires : goal.excitations-requires
excitations-requires c =
    let a = c.args in
    let o = ordered a.exponents.now a.p a.first a.last c.requires.1 in
    (refl, omega (arith, c.requires.1.some), omega (arith, c.requires.1.high.small), c.leak_before-before.ensures.1, bands_small a.exponents.now a.p a.first a.last c.requires.1 c.requires.2 c.requires.3 c.band_levels.new.out c.band_levels.ensures)

pub thresholds-requires : goal.thresholds-requires
thresholds-requires c =
    let a = c.args in
    let o = ordered a.exponents.now a.p a.first a.last c.requires.1 in
    let excited = rw c.leak_before-before.ensures.0 at c.excitations.ensures in
    let bounded = rw c.leak_before-before.ensures.0 at c.leak_before-before.ensures.1 in
    let bands = bands_small a.exponents.now a.p a.first a.last c.requires.1 c.requires.2 c.requires.3 c.band_levels.new.out c.band_levels.ensures in
    let excite = excite_small a.exponents.now a.p a.first a.last c.requires.1 c.requires.2 c.requires.3 c.band_levels.new.out c.band_levels.ensures c.excitations.new.out excited (omega arith, omega arith) bounded in
    (omega (arith, c.requires.1.some), omega (arith, c.requires.1.high.small), c.requires.2, c.hearing_thresholds-quiet.ensures, excite, bands, c.deltas-deltas.ensures.1)

pub returns : goal.returns
returns c band from to =
    let a = c.args in
    let p = a.p in
    let excited = rw c.leak_before-before.ensures.0 at c.excitations.ensures in
    let limit = threshold_by (at c.excitations.new.out) (at c.band_levels.new.out) (at c.deltas-deltas.result) p.dbknee p.fscod p.snroffset p.floor in
    c.thresholds.ensures band
    ∙ filled_in limit (λ _. pos 0) a.first a.last band from to
    ∙ thresholds_are a.exponents.now p a.first a.last c.requires.1 c.requires.2 c.requires.3 c.band_levels.new.out c.band_levels.ensures c.excitations.new.out excited (at c.deltas-deltas.result) band from to (c.deltas-deltas.ensures.0 band (omega (arith, c.requires.1.high.small)))
