-- `mantissas::counting::weights` meets its contract: the table is that of the sixteen pointers, each weighed. Assumes nothing.
use Rattle.tables.specs.Tables.{bap_bits}
use Rattle.alloc.specs.Allocation.{from}
use Rattle.mantissas.proofs.counting.weights.Goals as goal

pub returns : goal.returns
unfolding bap_bits from
returns c = rw c.mantissa_bits-bits.ensures
