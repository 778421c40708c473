-- `mend::flip` meets its contract: a bit is 0 or 1. Assumes nothing.
use Rattle.std.proofs.Common.{arith}
use Rattle.bits.proofs.Window.{value_lt}
use Rattle.mend.proofs.flip.Goals as goal

pub overflow_sub-bit : goal.overflow_sub-bit
overflow_sub-bit c = omega (arith, c.get-bit.ensures, value_lt c.args.s.now c.args.p 1)
