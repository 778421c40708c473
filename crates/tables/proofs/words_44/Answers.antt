-- `tables::words_44` meets its contract: the table is the definition's, and no entry is above its bound. Assumes nothing.
use Rattle.tables.specs.Tables.{words44}
use Rattle.tables.proofs.Rules.{small_at}
use Rattle.tables.proofs.words_44.Goals as goal

pub returns : goal.returns
unfolding words44
returns c = (c.entry.ensures, rw c.entry.ensures (small_at 1394 words44 tt c.args.frmsizecod))
