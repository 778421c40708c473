-- What is left to write are the lines of the rows from `row` on; each row that was written makes a line, in 99 bytes.
use Rattle.std.proofs.Common.{◌*◌, ◌≤◌}
use Rattle.syntax.specs.Numbers.{row_width}
use Rattle.listing.specs.Listing.{Each, Line, line, joined}
use Rattle.lister.specs.Listed.{rows_in}
use Rattle.lister.proofs.Begun.{Begun}
use Rattle.lister.proofs.Lines.{rows_from}
use Rattle.lister.proofs.put_rows.Given as goal

abbrev pub invariant-loop-row : goal.invariant-loop-row
invariant-loop-row l = record {
  begun : Begun l.fn.out 0 (joined line (rows_in l.count l.rows)) (joined line (rows_from l.count l.rows l.row)) l.out l.to;
  near : l.to ≤ l.row * 99;
  each : Each (Line row_width) (rows_from l.count l.rows l.row) → Each (Line row_width) (rows_in l.count l.rows);
}
