-- The first i rows are filled in, and the rest of the run is as it was.
use Rattle.std.proofs.Common.{◌≡◌}
use Rattle.fields.specs.Fields.{field_at, filled}
use Rattle.fields.proofs.fill.Given as goal

abbrev pub invariant-loop-i : goal.invariant-loop-i
invariant-loop-i l = l.fields ≡ filled (field_at l.rows) l.i l.fn.fields
