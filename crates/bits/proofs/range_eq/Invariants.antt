-- The bits before are the same.
use Rattle.std.proofs.Common.{◌≡◌, true, min}
use Rattle.bits.specs.Bits.{same_bits}
use Rattle.bits.proofs.range_eq.Given as goal

abbrev pub invariant-loop-i : goal.invariant-loop-i
invariant-loop-i l = same_bits l.x l.a l.y l.b (min l.i l.n) ≡ true
