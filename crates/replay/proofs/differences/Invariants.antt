-- No more differences are found than cases were gone through.
use Rattle.std.proofs.Common.{◌≤◌}
use Rattle.replay.proofs.differences.Given as goal

abbrev pub invariant-loop-i : goal.invariant-loop-i
invariant-loop-i g l = l.found ≤ l.i
