-- `alloc::bands::wide_levels`: the loop's invariant is the definition's, up to `band`. Assumes nothing.
use Rattle.std.proofs.Common.{◌≤◌, pos}
use Rattle.alloc.specs.Allocation.{psd_at, band_psd}
use Rattle.alloc.specs.Fills.{Fills}
use Rattle.alloc.proofs.bands.wide_levels.Given as goal

abbrev pub invariant-loop-band : goal.invariant-loop-band
invariant-loop-band l = (l.first ≤ l.band) × (l.band ≤ l.last) × Fills (pos 0) l.first l.band (band_psd (psd_at l.exponents) l.p.start l.p.end) l.fn.out l.out
