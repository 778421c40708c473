-- What is left to write are the groups of what is left of the number.
use Rattle.std.proofs.Common.{◌+◌, ◌^◌, ◌<◌, length}
use Rattle.std.proofs.lemmas.List.Edits.{sets}
use Rattle.listing.specs.Number.{groups}
use Rattle.listing.proofs.Left.{Left}
use Rattle.packed.proofs.numbers.put_groups.Given as goal

abbrev pub invariant-loop-rest : goal.invariant-loop-rest
invariant-loop-rest l =
    Left l.out l.to (groups l.rest) (sets l.fn.out l.at (groups l.v)) (l.at + length (groups l.v)) (length l.fn.out) × (l.rest < 2 ^ 64)

abbrev pub decreases-loop-rest : goal.decreases-loop-rest
decreases-loop-rest l = l.rest
