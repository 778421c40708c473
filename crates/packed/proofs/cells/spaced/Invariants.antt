-- What the numbers so far tell is told.
use Rattle.std.proofs.Common.{◌-◌, ◌≤◌, length, drop}
use Rattle.packed.specs.Moves.{spot}
use Rattle.packed.specs.Tellers.{Reads}
use Rattle.packed.specs.Packed.{step, tell}
use Rattle.packed.proofs.cells.spaced.Given as goal

abbrev pub invariant-loop-left : goal.invariant-loop-left
invariant-loop-left g l =
    Reads step tell g.T.Teller.tells (spot l.more 8) (drop l.from l.packed) l.fn.out l.at (spot l.more (l.left - 1)) (drop l.i l.packed) l.out l.to
    × (l.i ≤ length l.packed)
    × (1 ≤ l.left)
