-- The rows that the parser leaves in the room of zeros, offered over the run, are the definition's records.
use Rattle.fields.proofs.Parsed.{parsed_is}
use Rattle.fields.proofs.parse_fields.Goals as goal

pub returns : goal.returns
returns c =
    let a = c.args in
    parsed_is a.capture.now a.place a.fields.now c.no_rows-rows.result c.parse_within-answer.new.rows c.no_rows-rows.ensures c.parse_within-answer.auto.rows c.parse_within-answer.ensures c.offer.ensures
