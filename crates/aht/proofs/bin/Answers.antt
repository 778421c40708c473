-- A mantissa has 3 bits at least.
use Rattle.std.proofs.Common.{◌-◌, arith}
use Rattle.tables.proofs.Rule.{gaq_at_least}
use Rattle.aht.proofs.bin.Goals as goal

pub mantissas-requires : goal.mantissas-requires
mantissas-requires c = (rw c.gaq_bits.ensures.0 (gaq_at_least (c.args.hebap - 8) (omega arith)), c.gaq_bits.ensures.1)
