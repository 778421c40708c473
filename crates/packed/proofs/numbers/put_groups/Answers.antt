-- A turn writes one group, and the last one is written behind the loop.
use Rattle.std.proofs.Common.{[], ◌∷◌, ◌+◌, ◌/◌, ◌%◌, ap, length, arith}
use native.Mathlib.Nat.{div-le_self}
use Rattle.listing.specs.Number.{groups}
use Rattle.packed.proofs.Groups.{groups_small, groups_large}
use Rattle.listing.proofs.Left.{onward, last}
use Rattle.packed.proofs.numbers.put_groups.Goals as goal

pub put-to-requires : goal.put-to-requires
put-to-requires c = omega (arith, c.loop-rest.invariant.0.room, ap length (groups_large c.loop-rest-test.true c.loop-rest.invariant.1))

pub loop-rest-preserved : goal.loop-rest-preserved
loop-rest-preserved c =
    let rest = c.loop-rest.rest in (
      onward ((128 + rest % 128) ∷ []) (groups (rest / 128)) (rw (groups_large c.loop-rest-test.true c.loop-rest.invariant.1) at c.loop-rest.invariant.0) c.put-to.ensures.0 c.put-to.ensures.1,
      omega (arith, div-le_self rest 128),
    )

pub put-requires : goal.put-requires
put-requires c = omega (arith, c.loop-rest.invariant.0.room, ap length (groups_small c.loop-rest-test.false))

pub returns : goal.returns
returns c = last (rw (groups_small c.loop-rest-test.false) at c.loop-rest.invariant.0) c.put.ensures.0 c.put.ensures.1
