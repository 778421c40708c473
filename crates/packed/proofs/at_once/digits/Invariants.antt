-- The digits so far are those of the value so far.
use Rattle.packed.proofs.AtOnce.{Run}
use Rattle.packed.proofs.at_once.digits.Given as goal

abbrev pub invariant-loop-to : goal.invariant-loop-to
invariant-loop-to l = Run l.listing l.at l.n l.to
