-- A turn takes one group off the number and counts it, and the last one is counted from the start.
use Rattle.std.proofs.Common.{◌+◌, ◌≡◌, ◌^◌, ◌<◌, length}
use Rattle.listing.specs.Number.{groups}
use Rattle.packed.proofs.numbers.groups_size.Given as goal

abbrev pub invariant-loop-rest : goal.invariant-loop-rest
invariant-loop-rest l = (l.n + length (groups l.rest) ≡ 1 + length (groups l.v)) × (l.rest < 2 ^ 64)

abbrev pub decreases-loop-rest : goal.decreases-loop-rest
decreases-loop-rest l = l.rest
