-- `tables::floor` meets its contract: the table is the definition's, and each entry is below 11 bits. Assumes nothing.
use Rattle.std.proofs.Common.{◌∙◌}
use Rattle.signed.proofs.Bounds.{back_32, below_is, below_more}
use Rattle.tables.specs.Tables.{floors, floor}
use Rattle.tables.proofs.Rules.{near_at}
use Rattle.tables.proofs.floor.Goals as goal

pub returns : goal.returns
unfolding floor
returns c =
    let near = below_is c.entry.ensures (near_at 11 floors tt c.args.floorcod) in
    let is = back_32 c.entry.result (below_more {k = 31} near tt).below in
    (is ∙ c.entry.ensures, below_is is near)
