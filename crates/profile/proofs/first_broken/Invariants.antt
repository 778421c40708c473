-- The answer is i more than that for the rows that are left.
use Rattle.std.proofs.Common.{◌≡◌, ◌+◌, ◌-◌, ◌*◌, drop}
use Rattle.syntax.specs.Numbers.{row_width}
use Rattle.rows.specs.Look.{first_where}
use Rattle.profile.specs.Rules.{rule, broken_in}
use Rattle.profile.proofs.first_broken.Given as goal

abbrev pub invariant-loop-i : goal.invariant-loop-i
invariant-loop-i l =
    let test = broken_in l.header (rule l.number) in
    first_where test l.count l.rows ≡ l.i + first_where test (l.count - l.i) (drop (l.i * row_width) l.rows)
