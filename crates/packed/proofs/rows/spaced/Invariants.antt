-- What the numbers so far tell is told.
use Rattle.std.proofs.Common.{◌-◌, ◌≤◌, length, drop}
use Rattle.packed.specs.Moves.{cell}
use Rattle.packed.specs.Tellers.{Reads}
use Rattle.packed.specs.Text.{step, tell}
use Rattle.packed.proofs.rows.spaced.Given as goal

abbrev pub invariant-loop-left : goal.invariant-loop-left
invariant-loop-left g l =
    Reads step tell g.T.Teller.tells (cell l.rows 8) (drop l.from l.text) l.fn.out l.at (cell l.rows (l.left - 1)) (drop l.i l.text) l.out l.to
    × (l.i ≤ length l.text)
    × (1 ≤ l.left)
    × (l.left ≤ 9)
