-- `alloc::addresses_of` meets its contract: stage by stage, what each bin has is the definition's. Assumes nothing.
use Rattle.std.proofs.Common.{◌≡◌, ◌∙◌, ap, ℕ, ◌+◌, ◌-◌, ◌≤◌, ◌<◌, List, ℤ, arith}
use Rattle.alloc.specs.Allocation.{at, psd_at, band_of, address_of}
use Rattle.alloc.specs.Stages.{Limit, thresholds_of}
use Rattle.alloc.specs.Band.{InBand}
use Rattle.alloc.specs.Sound.{SoundParameters}
use Rattle.alloc.specs.declared.Parameters.{Parameters}
use Rattle.alloc.proofs.BandEnds.{band_of_lem, in_order}
use Rattle.alloc.proofs.Filled.{fills_same}
use Rattle.alloc.proofs.Stages.{limited}
use Rattle.alloc.proofs.addresses_of.Goals as goal

-- a bin of the range has the threshold of its band
module _ (exponents : List ℤ) (p : Parameters) (sound : SoundParameters p) (first last : ℕ) (low : InBand p.start first) (high : InBand (p.end - 1) last)
    (bands bins : List ℤ) (of_band : (band : ℕ) → first ≤ band → band < last + 1 → at bands band ≡ thresholds_of exponents p band)
    (of_bin : (bin : ℕ) → bin < 253 → band_of bin < last + 1 → at bins bin ≡ at bands (band_of bin))
    (bin : ℕ) (from : p.start ≤ bin) (to : bin < p.end) where
  band : InBand bin (band_of bin)
  band = band_of_lem bin (omega (arith, sound.end))

  after_first : first ≤ band_of bin
  after_first = in_order p.start bin _ _ low band from

  before_last : band_of bin ≤ last
  before_last = in_order bin (p.end - 1) _ _ band high (omega arith)

  limit_is : at bins bin ≡ thresholds_of exponents p (band_of bin)
  limit_is = of_bin bin (omega (arith, sound.end)) (omega (arith, before_last)) ∙ of_band (band_of bin) after_first (omega (arith, before_last))

  limit_small : Limit (at bins bin)
  limit_small = rw limit_is (limited exponents p (band_of bin) (omega (arith, after_first, low.is)) (omega (arith, before_last, high.is)) sound.floor)

pub addresses-requires : goal.addresses-requires
addresses-requires c =
    let a = c.args in
    let low = c.masktab-first.ensures.0 (omega (arith, c.if-p.false, c.requires.1.end)) in
    let high = c.masktab-last.ensures.0 (omega (arith, c.if-p.false, c.requires.1.end)) in
    (c.requires.0, omega (arith, c.if-p.false), omega (arith, c.requires.1.end), c.requires.2, limit_small a.exponents.now a.p c.requires.1 c.masktab-first.result c.masktab-last.result low high c.band_thresholds-thresholds.result c.by_bin.new.out c.band_thresholds-thresholds.ensures c.by_bin.ensures.1)

pub returns : goal.returns
returns c =
    let a = c.args in
    let low = c.masktab-first.ensures.0 (omega (arith, c.if-p.false, c.requires.1.end)) in
    let high = c.masktab-last.ensures.0 (omega (arith, c.if-p.false, c.requires.1.end)) in
    fills_same 0 _ _ a.p.start a.p.end
    (λ bin from to. ap (address_of (psd_at a.exponents.now bin)) (limit_is a.exponents.now a.p c.requires.1 c.masktab-first.result c.masktab-last.result low high c.band_thresholds-thresholds.result c.by_bin.new.out c.band_thresholds-thresholds.ensures c.by_bin.ensures.1 bin from to))
    c.addresses.ensures
