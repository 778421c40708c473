-- `alloc::pointers::pointers`: the loop's invariant is the definition's, up to `bin`. Assumes nothing.
use Rattle.std.proofs.Common.{◌≤◌}
use Rattle.alloc.specs.Fills.{Fills}
use Rattle.alloc.specs.Stages.{bap_at}
use Rattle.alloc.proofs.pointers.pointers.Given as goal

abbrev pub invariant-loop-bin : goal.invariant-loop-bin
invariant-loop-bin l = (l.p.start ≤ l.bin) × (l.bin ≤ l.p.end) × Fills 0 l.p.start l.bin (bap_at l.baps l.addresses) l.fn.out l.out
