-- What is left to walk from the loop's place on is the whole walk.
use Rattle.std.proofs.Common.{length, ◌-◌}
use Rattle.salvage.specs.Refusals.{going}
use Rattle.salvage.proofs.Loop.{Going}
use Rattle.salvage.proofs.walk.Given as goal

abbrev pub invariant-loop-place : goal.invariant-loop-place
invariant-loop-place l = Going l.capture l.fn.rows l.fn.list l.fn.out l.rows l.list l.out (going l.done) l.from l.place

abbrev pub decreases-loop-place : goal.decreases-loop-place
decreases-loop-place l = length l.capture - l.place
