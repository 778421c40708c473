-- `alloc::pointers::addresses`: the loop's invariant is the definition's, up to `bin`. Assumes nothing.
use Rattle.std.proofs.Common.{◌≤◌}
use Rattle.alloc.specs.Allocation.{at, psd_at, address_of}
use Rattle.alloc.specs.Fills.{Fills}
use Rattle.alloc.proofs.pointers.addresses.Given as goal

abbrev pub invariant-loop-bin : goal.invariant-loop-bin
invariant-loop-bin l = (l.p.start ≤ l.bin) × (l.bin ≤ l.p.end) × Fills 0 l.p.start l.bin (λ k. address_of (psd_at l.exponents k) (at l.masks k)) l.fn.out l.out
