-- `mantissas::Counts::with_one` meets its contract: the table has the bits of the pointer. Assumes nothing.
use lib.Dec.{eqb}
use Rattle.tables.specs.Tables.{bap_bits}
use Rattle.mantissas.proofs.Counted.{one_if}
use Rattle.mantissas.proofs.Counts.with_one.Goals as goal

pub returns : goal.returns
unfolding bap_bits
returns c =
    let bap = c.args.bap in
    rw (c.from.ensures, c.from-2.ensures, c.from-3.ensures, c.from-4.ensures, c.requires.1, one_if (eqb bap 1), one_if (eqb bap 2), one_if (eqb bap 4))
