-- What the rows so far tell is told.
use Rattle.std.proofs.Common.{◌≤◌, length, drop}
use Rattle.packed.specs.declared.Text.TheVariants.{Line}
use Rattle.packed.specs.Moves.{cell}
use Rattle.packed.specs.Tellers.{Reads}
use Rattle.packed.specs.Text.{step, tell}
use Rattle.packed.proofs.rows.read.Given as goal

abbrev pub invariant-loop-rows : goal.invariant-loop-rows
invariant-loop-rows g l =
    Reads step tell g.T.Teller.tells (Line 1) l.text l.fn.out l.at (cell l.rows 8) (drop l.i l.text) l.out l.to × (l.i ≤ length l.text)
