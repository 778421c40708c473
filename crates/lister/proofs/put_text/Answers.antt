-- The rows, and then the last line, which has at most 63 bytes.
use Rattle.std.proofs.Common.{arith, not, map, eqb}
use Rattle.listing.specs.Listing.{line, joined}
use Rattle.listing.proofs.Left.{both}
use Rattle.lister.specs.Listed.{stored, rows_in, last_of, last_line}
use Rattle.lister.proofs.Last.{last_short}
use Rattle.lister.proofs.Lines.{length_rows}
use Rattle.lister.proofs.put_text.Goals as goal

pub returns-clause-value : goal.returns-clause-value
returns-clause-value c =
    let a = c.args.a in
    let rows = c.put_rows-at.ensures.value in
    let done = both c.args.out.now 0 (joined line (rows_in a.rows c.args.rows.now)) (last_line a) (omega (arith, rows.0), rows.1) c.put_last.ensures.value in
    (omega (arith, done.0), done.1)

pub returns-clause-valid : goal.returns-clause-valid
returns-clause-valid c =
    let a = c.args.a in
    let last = c.put_last.ensures in (
      record { rows = c.put_rows-at.ensures.each.0; count = omega (arith, c.requires.0, length_rows a.rows c.args.rows.now); last = last.line },
      omega (arith, c.put_rows-at.ensures.each.1, last.value.0, last_short (not (eqb a.refusal 0)) (map stored (last_of a)) last.line),
    )
