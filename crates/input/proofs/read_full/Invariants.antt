-- What was read lies within the run, which keeps its length.
use Rattle.std.proofs.Common.{◌≡◌, ◌≤◌, length}
use Rattle.input.proofs.read_full.Given as goal

abbrev pub invariant-loop : goal.invariant-loop
invariant-loop g l = record { within : l.at ≤ length l.bytes; long : length l.bytes ≡ length l.fn.bytes }
