-- `alloc::pointers::thresholds`: the loop's invariant is the definition's, up to `band`. Assumes nothing.
use Rattle.std.proofs.Common.{◌≤◌, pos, replicate}
use Rattle.alloc.specs.Allocation.{at}
use Rattle.alloc.specs.Fills.{Fills}
use Rattle.alloc.specs.Stages.{threshold_by}
use Rattle.alloc.proofs.pointers.thresholds.Given as goal

abbrev pub invariant-loop-band : goal.invariant-loop-band
invariant-loop-band l =
    (l.first ≤ l.band) × (l.band ≤ l.last)
    × Fills (pos 0) l.first l.band (threshold_by (at l.excite) (at l.bands) (at l.deltas) l.p.dbknee l.p.fscod l.p.snroffset l.p.floor) (replicate 50 (pos 0)) l.out
