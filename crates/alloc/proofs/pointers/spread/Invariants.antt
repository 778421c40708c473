-- `alloc::pointers::spread`: the bins of the bands before `band` have their thresholds. Assumes nothing.
use Rattle.std.proofs.Common.{◌≤◌, pos}
use Rattle.alloc.specs.Allocation.{at, band_of, start_of}
use Rattle.alloc.specs.Fills.{Fills}
use Rattle.alloc.proofs.pointers.spread.Given as goal

abbrev pub invariant-loop-band : goal.invariant-loop-band
invariant-loop-band l = (l.first ≤ l.band) × (l.band ≤ l.last) × Fills (pos 0) (start_of l.first) (start_of l.band) (λ bin. at l.thresholds (band_of bin)) l.fn.out l.out
