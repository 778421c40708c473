-- `alloc::mask::add_delta`: the loop's invariant is the definition's, up to `band`. Assumes nothing.
use Rattle.std.proofs.Common.{◌≤◌, max, pos, ◌+ℤ◌}
use Rattle.alloc.specs.Allocation.{at}
use Rattle.alloc.specs.Fills.{Fills}
use Rattle.alloc.proofs.mask.add_delta.Given as goal

abbrev pub invariant-loop-band : goal.invariant-loop-band
invariant-loop-band l = (l.first ≤ l.band) × (l.band ≤ max l.first l.last) × Fills (pos 0) l.first l.band (λ j. at l.fn.out j +ℤ l.fn.delta) l.fn.out l.out
