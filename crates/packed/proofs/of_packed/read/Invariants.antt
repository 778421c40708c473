-- What the bytes so far tell is told.
use Rattle.std.proofs.Common.{drop}
use Rattle.packed.specs.declared.Packed.TheVariants.{At}
use Rattle.packed.specs.declared.Place.TheVariants.{Count}
use Rattle.packed.specs.Tellers.{Reads}
use Rattle.packed.specs.Packed.{step, tell}
use Rattle.packed.proofs.of_packed.read.Given as goal

abbrev pub invariant-loop-b : goal.invariant-loop-b
invariant-loop-b g l = Reads step tell g.T.Teller.tells (At Count 0 0) l.packed l.fn.out l.at l.s (drop l.b-index l.b-items) l.out l.to
