-- `tables::nfchans` meets its contract: the table is the definition's, and no entry is above its bound. Assumes nothing.
use Rattle.tables.specs.Tables.{channel_counts, nfchans}
use Rattle.tables.proofs.Rules.{small_at}
use Rattle.tables.proofs.nfchans.Goals as goal

pub returns : goal.returns
unfolding nfchans
returns c = (c.entry.ensures, rw c.entry.ensures (small_at 5 channel_counts tt c.args.acmod))
