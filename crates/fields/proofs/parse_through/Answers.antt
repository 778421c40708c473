-- The rows are made of the records that a frame is parsed into, over a run of blanks.
use Rattle.std.proofs.Common.{◌≡◌, ℕ, List, ap, ◌∙◌, replicate}
use Rattle.std.proofs.Math.IntN.{ℤ}
use Rattle.ac3.specs.RowBound.{most_rows}
use Rattle.ac3.specs.declared.Answer.{Answer}
use Rattle.fields.specs.Fields.{blank, rows_written, parsed, parsed_through}
use Rattle.fields.specs.declared.Field.{Field}
use Rattle.fields.proofs.parse_through.Goals as goal

through_is :
    (capture : List ℕ) (place : ℕ) (room : List ℤ) {a : Answer} {blanks fields : List Field} {n : ℕ} {rows : List ℤ}
    → blanks ≡ replicate most_rows blank
    → (a, fields) ≡ parsed capture place blanks
    → (n, rows) ≡ rows_written fields a.rows room
    → (a, rows) ≡ parsed_through capture place room
through_is capture place room blanks said told =
    let there = said ∙ ap (parsed capture place) blanks in
    λ j. ((there j).0, (ap (λ x. x.1) told ∙ ap (λ (t : Answer × List Field). (rows_written t.1 t.0.rows room).1) there) j)

pub returns : goal.returns
returns c = through_is c.args.capture.now c.args.place c.args.rows.now c.no_fields-fields.ensures c.parse_fields-answer.ensures c.rows_of.ensures
