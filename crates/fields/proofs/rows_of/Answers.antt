-- Before the first turn nothing is written; a turn writes the next record's row where the last one ends.
use Rattle.std.proofs.Common.{◌≡◌, ◌*◌, ◌<◌, length, get_or, ap, ◌∙◌, List, arith}
use Rattle.std.proofs.Math.IntN.{ℤ}
use Rattle.std.proofs.Math.Seq.{sets}
use Rattle.std.proofs.lemmas.List.{get_or_default}
use Rattle.syntax.specs.Numbers.{row_width}
use Rattle.fields.specs.Fields.{blank, row_of, row_at}
use Rattle.fields.proofs.Written.{written_none, written_next}
use Rattle.fields.proofs.rows_of.Goals as goal

pub loop-i-init : goal.loop-i-init
loop-i-init c = written_none c.args.fields.now c.args.rows.now

pub loop-i-preserved : goal.loop-i-preserved
loop-i-preserved c =
    let fields = c.args.fields.now in
    let i = c.loop-i.i in
    let there : i < length fields = omega arith in
    let row : c.row_of.result ≡ row_of (get_or fields i blank) = c.row_of.ensures ∙ ap row_of (get_or_default fields i _ blank there) in
    let put =
    c.put_row.ensures
    ∙ ap (λ (r : List ℤ). sets c.loop-i.rows (i * row_width) (row_at r 0)) row
    ∙ ap (λ (rows : List ℤ). sets rows (i * row_width) (row_of (get_or fields i blank))) c.loop-i.invariant in
    written_next fields c.args.rows.now i c.put_row.new.rows there (omega arith) put
