-- `syntax::Reader::enter` meets its contract: the room decides which case of `entered` holds. Assumes nothing.
use mathlib.Core.Path.{refl}
use Rattle.std.proofs.Common.{arith}
use Rattle.syntax.proofs.Recorded.{entered_full, entered_row}
use Rattle.syntax.proofs.Reader.enter.Goals as goal

pub returns-then-self : goal.returns-then-self
returns-then-self c = entered_full c.args.item c.args.width c.args.value c.args.start (omega arith)

pub returns : goal.returns
returns c =
    entered_row c.args.item c.args.width c.args.value c.args.start (omega arith) (rw c.write_row.ensures)
    (record { bytes = refl; lent = refl; long = c.write_row.auto.rows })
