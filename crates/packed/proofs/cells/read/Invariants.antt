-- What the rows so far tell is told.
use Rattle.std.proofs.Common.{◌≤◌, length, drop}
use Rattle.packed.specs.Moves.{spot}
use Rattle.packed.specs.Tellers.{Reads}
use Rattle.packed.specs.Packed.{step, tell}
use Rattle.packed.proofs.cells.read.Given as goal

abbrev pub invariant-loop-after : goal.invariant-loop-after
invariant-loop-after g l =
    Reads step tell g.T.Teller.tells (spot l.count 8) (drop l.from l.packed) l.fn.out l.at (spot l.after 8) (drop l.i l.packed) l.out l.to
    × (l.i ≤ length l.packed)
