-- `bits::with_bit` meets its contract: it computes the definition, and a byte stays a byte. Assumes nothing.
use Rattle.std.proofs.Common.{rules, arith}
use Rattle.bits.proofs.Writing.{with_bit_fits}
use Rattle.bits.proofs.Window.{power}
use Rattle.bits.proofs.with_bit.Goals as goal

pub overflow_cast-result : goal.overflow_cast-result
overflow_cast-result c =
    record { fits = (with_bit_fits {x = c.args.x} c.requires.0 c.requires.1 (power c.args.k (omega arith)) (search rules)).1 }

pub returns : goal.returns
returns c = (with_bit_fits c.requires.0 c.requires.1 (power c.args.k (omega arith)) (search rules)).0
