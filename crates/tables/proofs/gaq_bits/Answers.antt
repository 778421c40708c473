-- `tables::gaq_bits` meets its contract: the table is the definition's, and no entry is above its bound. Assumes nothing.
use Rattle.tables.specs.Tables.{gain_bits, gaq_bits}
use Rattle.tables.proofs.Rules.{small_at}
use Rattle.tables.proofs.gaq_bits.Goals as goal

pub returns : goal.returns
unfolding gaq_bits
returns c = (c.entry.ensures, rw c.entry.ensures (small_at 16 gain_bits tt c.args.index))
