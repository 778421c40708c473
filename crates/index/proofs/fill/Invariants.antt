-- What is left to walk from the loop's place on fills in what the whole walk does.
use Rattle.std.proofs.Common.{length, ◌-◌}
use Rattle.index.proofs.Loop.{Going}
use Rattle.index.proofs.fill.Given as goal

abbrev pub invariant-loop-place : goal.invariant-loop-place
invariant-loop-place l = Going l.capture l.fn.rows l.fn.index l.entries l.from l.rows l.index l.done l.place

abbrev pub decreases-loop-place : goal.decreases-loop-place
decreases-loop-place l = length l.capture - l.place
