-- The rows of the first i records are written, and the rest of the run is as it was.
use Rattle.std.proofs.Common.{◌≡◌}
use Rattle.fields.proofs.Written.{written}
use Rattle.fields.proofs.rows_of.Given as goal

abbrev pub invariant-loop-i : goal.invariant-loop-i
invariant-loop-i l = l.rows ≡ written l.fields l.fn.rows l.i
