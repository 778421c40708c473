-- `alloc::bands::band_levels` meets its contract: below band 28 a band is a bin, and from there on the bands are added up.
-- Assumes nothing.
use Rattle.std.proofs.Common.{◌≡◌, ℕ, ◌-◌, ◌≤◌, ◌<◌, min, max, List, ℤ, pos, arith}
use Rattle.alloc.specs.Allocation.{psd_at, band_psd}
use Rattle.alloc.specs.Band.{Spans}
use Rattle.alloc.specs.Fills.{Fills}
use Rattle.alloc.proofs.BandEnds.{narrow, narrow_level, in_order, start_mono, end_mono}
use Rattle.alloc.proofs.Filled.{fills_same, fills_join}
use Rattle.alloc.proofs.bands.band_levels.Goals as goal

module _ (start end first last : ℕ) (spans : Spans start end first last) where
  ordered : first ≤ last - 1
  ordered = in_order start (end - 1) first (last - 1) spans.low spans.high (omega arith)

  -- a narrow band of the range
  one_bin : (level : ℕ → ℤ) (split band : ℕ) → split ≡ min last (max first 28) → first ≤ band → band < split → level band ≡ band_psd level start end band
  one_bin level split band e p q =
      let n = narrow band (omega arith) in
      let f = narrow first (omega arith) in
      let order = start_mono band (last - 1) (omega arith) (omega arith) in
      let high = spans.low.high in
      let low = spans.high.low in
      narrow_level level start end band (omega arith) (omega arith) (omega arith)

  narrowed : (level : ℕ → ℤ) (split : ℕ) {x y : List ℤ} → split ≡ min last (max first 28) → Fills (pos 0) first split level x y → Fills (pos 0) first split (band_psd level start end) x y
  narrowed level split e f = fills_same _ _ _ _ _ (λ band. one_bin level split band e) f

pub narrow_levels-requires : goal.narrow_levels-requires
narrow_levels-requires c =
    let o = ordered _ _ _ _ c.requires.3 in
    (c.requires.0, omega (arith, c.min-split.ensures, c.max.ensures), omega (arith, c.min-split.ensures, c.max.ensures, c.requires.3.high.small))

pub wide_levels-requires : goal.wide_levels-requires
wide_levels-requires c =
    let o = ordered _ _ _ _ c.requires.3 in
    let e : c.min-split.result ≡ min c.args.last (max c.args.first 28) = omega (arith, c.min-split.ensures, c.max.ensures) in
    let spans = c.requires.3 in
    let high = end_mono c.args.first c.min-split.result (omega arith) (omega (arith, spans.high.small)) in
    (c.narrow_levels.array_long, c.requires.1, c.requires.2, omega arith, omega arith, omega (arith, spans.high.small), omega (arith, spans.high.low), omega (arith, spans.low.high), omega arith, omega arith)

pub returns-then-last-split : goal.returns-then-last-split
returns-then-last-split c =
    let o = ordered _ _ _ _ c.requires.3 in
    let e : c.min-split.result ≡ min c.args.last (max c.args.first 28) = omega (arith, c.min-split.ensures, c.max.ensures) in
    let end : c.min-split.result ≡ c.args.last = omega arith in
    rw end at (narrowed _ _ _ _ c.requires.3 (psd_at c.args.exponents.now) c.min-split.result e c.narrow_levels.ensures)

pub returns : goal.returns
returns c =
    let o = ordered _ _ _ _ c.requires.3 in
    let e : c.min-split.result ≡ min c.args.last (max c.args.first 28) = omega (arith, c.min-split.ensures, c.max.ensures) in
    fills_join _ _ _ _ _ (omega arith) (omega arith) (narrowed _ _ _ _ c.requires.3 (psd_at c.args.exponents.now) c.min-split.result e c.narrow_levels.ensures) c.wide_levels.ensures
