-- Every record is that of a row of zeros.
use Rattle.std.proofs.Common.{ap, replicate}
use Rattle.ac3.specs.RowBound.{most_rows}
use Rattle.fields.proofs.no_fields.Goals as goal

pub returns : goal.returns
returns c = ap (replicate most_rows) c.field_of-field.ensures
