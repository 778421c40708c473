-- `tables::words_48` meets its contract: the table is the definition's, and no entry is above its bound. Assumes nothing.
use Rattle.tables.specs.Tables.{words48}
use Rattle.tables.proofs.Rules.{small_at}
use Rattle.tables.proofs.words_48.Goals as goal

pub returns : goal.returns
unfolding words48
returns c = (c.entry.ensures, rw c.entry.ensures (small_at 1280 words48 tt c.args.half))
