-- The groups so far are those of the value so far.
use Rattle.packed.proofs.Stored.{Running}
use Rattle.packed.proofs.cells.several.Given as goal

abbrev pub invariant-loop-i : goal.invariant-loop-i
invariant-loop-i l = Running l.packed l.at l.n l.k l.i
