-- The answer is i more than that for the rows that are left.
use Rattle.std.proofs.Common.{◌≡◌, ◌+◌, ◌-◌, ◌*◌, drop}
use Rattle.syntax.specs.Numbers.{row_width}
use Rattle.rows.specs.Look.{first}
use Rattle.rows.proofs.first.Given as goal

abbrev pub invariant-loop-i : goal.invariant-loop-i
invariant-loop-i l = first l.count l.name l.rows ≡ l.i + first (l.count - l.i) l.name (drop (l.i * row_width) l.rows)
