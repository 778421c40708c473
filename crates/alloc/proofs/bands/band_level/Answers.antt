-- `alloc::bands::band_level` meets its contract: the part of the band that is in the range has a first bin and a last. Assumes nothing.
use Rattle.std.proofs.Common.{◌≡◌, ◌∙◌, ℕ, ◌-◌, min, max, arith}
use mathlib.Core.Path.{ap₂}
use lib.Dec.{lit≤}
use Rattle.signed.proofs.Bounds.{back_32}
use Rattle.alloc.specs.Allocation.{psd_at, start_of, end_of, band_sum, band_psd}
use Rattle.alloc.proofs.BandEnds.{rising, narrow, start_mono, end_at, start_at}
use Rattle.alloc.proofs.bands.band_level.Goals as goal

pub sum_levels-requires : goal.sum_levels-requires
sum_levels-requires c =
    let a = c.args in
    let from = c.from.ensures ∙ start_at a.ends.now a.band c.requires.1 c.requires.3 in
    let to = c.from-2.ensures ∙ end_at a.ends.now a.band c.requires.1 in
    let first : c.max-first.result ≡ max a.p.now.start (start_of a.band) = omega (arith, c.max-first.ensures, from) in
    let last : c.min-last.result ≡ min a.p.now.end (end_of a.band) = omega (arith, c.min-last.ensures, to) in
    let wide = rising a.band (omega arith) in
    let after = start_mono 1 a.band (omega arith) (omega arith) in
    (c.requires.0, c.requires.2, omega (arith, after, (narrow 1 (lit≤ tt)).0), omega arith, omega arith)

pub returns : goal.returns
unfolding band_psd
returns c =
    let a = c.args in
    let from = c.from.ensures ∙ start_at a.ends.now a.band c.requires.1 c.requires.3 in
    let to = c.from-2.ensures ∙ end_at a.ends.now a.band c.requires.1 in
    let first : c.max-first.result ≡ max a.p.now.start (start_of a.band) = omega (arith, c.max-first.ensures, from) in
    let last : c.min-last.result ≡ min a.p.now.end (end_of a.band) = omega (arith, c.min-last.ensures, to) in
    back_32 _ c.sum_levels.type_inv ∙ c.sum_levels.ensures ∙ ap₂ (λ (m n : ℕ). band_sum (psd_at a.exponents.now) m (n - 1 - m)) first last
