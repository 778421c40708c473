-- `mend::get` meets its contract: at most 16 bits are read. Assumes nothing.
use Rattle.std.proofs.Common.{min, arith}
use Rattle.bits.proofs.Window.{value_lt_16}
use Rattle.mend.proofs.get.Goals as goal

pub overflow_cast-result : goal.overflow_cast-result
overflow_cast-result c = record { fits = omega (arith, c.get.ensures, value_lt_16 c.args.s.now c.args.at (min c.args.n 16) (omega arith)) }
