-- A turn writes the line of the next row; after the last one nothing is left.
use Rattle.std.proofs.Common.{arith, map, ◌≡◌, ◌∙◌, ◌+◌, ◌-◌, ◌*◌, ◌≤◌, ℕ, ℤ, List, length, take, drop, length-drop}
use Rattle.std.proofs.lemmas.List.{length-take-le}
use Rattle.syntax.specs.Numbers.{row_width}
use Rattle.listing.specs.Listing.{line, joined}
use Rattle.lister.specs.Listed.{stored}
use Rattle.lister.proofs.Begun.{onward, finished}
use Rattle.lister.proofs.Lines.{rows_from, rows_from_lem, rows_end}
use Rattle.lister.proofs.Short.{line_short}
use Rattle.lister.proofs.put_rows.Goals as goal

-- a row as the code has it, and the numbers of one
abbrev part : List ℤ → ℕ → List ℤ
part rows row = take (row * row_width + row_width - row * row_width) (drop (row * row_width) rows)

nine : (rows : List ℤ) (row : ℕ) → row * row_width + row_width ≤ length rows → length (part rows row) ≡ row_width
nine rows row h = length-take-le (row * row_width + row_width - row * row_width) (drop (row * row_width) rows) (omega (arith, length-drop (row * row_width) rows)) ∙ omega arith

pub loop-row-preserved : goal.loop-row-preserved
loop-row-preserved c =
    let l = c.loop-row in
    let rows = c.args.rows.now in
    let from = rows_from_lem c.args.count rows l.row c.loop-row-test.true in
    let long = nine rows l.row (omega (arith, c.requires.0, c.loop-row-test.true)) in
    let value = c.put_line-to.ensures.value in
    let fit = c.put_line-to.ensures.line in
    record {
      begun = onward (line (map stored (part rows l.row))) (joined line (rows_from c.args.count rows (l.row + 1))) (rw from at l.invariant.begun) value;
      near = omega (arith, l.invariant.near, value.0, line_short (map stored (part rows l.row)) fit.1, fit.0, long);
      each = λ later. l.invariant.each (rw from ((fit.0 ∙ long, fit.1), later));
    }

-- at the end all rows are written
pub returns-clause-value : goal.returns-clause-value
returns-clause-value c =
    let all : c.loop-row.row ≡ c.args.count = omega (arith, c.loop-row.auto.row-end, c.loop-row-test.false) in
    let done = finished (rw (rows_end c.args.count c.args.rows.now) at (rw all at c.loop-row.invariant.begun)) in
    (omega (arith, done.0), done.1)

pub returns-clause-each : goal.returns-clause-each
returns-clause-each c =
    let all : c.loop-row.row ≡ c.args.count = omega (arith, c.loop-row.auto.row-end, c.loop-row-test.false) in
    (c.loop-row.invariant.each (rw (all, rows_end c.args.count c.args.rows.now) tt), omega (arith, c.loop-row.invariant.near))
