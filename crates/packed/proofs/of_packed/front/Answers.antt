-- Where no row count stands whole, nothing is read.
use Rattle.std.proofs.Common.{arith}
use Rattle.packed.specs.Packed.{step, tell}
use Rattle.packed.proofs.Passes.{begins}
use Rattle.packed.proofs.of_packed.front.Goals as goal

pub returns-in_default : goal.returns-in_default
returns-in_default g c = (begins step tell g.met.T.Teller.laws _ _ _ _ c.requires, omega arith)

pub returns-in_default-2 : goal.returns-in_default-2
returns-in_default-2 g c = (begins step tell g.met.T.Teller.laws _ _ _ _ c.requires, omega arith)
