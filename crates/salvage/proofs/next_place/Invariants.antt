-- The places before have no sync word.
use Rattle.salvage.specs.Passed.{Passed}
use Rattle.salvage.proofs.next_place.Given as goal

abbrev pub invariant-loop-place : goal.invariant-loop-place
invariant-loop-place l = Passed l.capture l.from l.place
