-- A turn takes one digit off the number and counts it.
use Rattle.std.proofs.Common.{◌≡◌, ◌+◌, length}
use Rattle.listing.specs.Number.{decimal}
use Rattle.listing.proofs.decimal_size.Given as goal

abbrev pub invariant-loop-rest : goal.invariant-loop-rest
invariant-loop-rest l = l.n + length (decimal l.rest) ≡ 1 + length (decimal l.v)

abbrev pub decreases-loop-rest : goal.decreases-loop-rest
decreases-loop-rest l = l.rest
