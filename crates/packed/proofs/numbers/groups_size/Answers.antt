-- A number from 128 on is one group and the groups of its 128th part.
use Rattle.std.proofs.Common.{ap, length, arith}
use native.Mathlib.Nat.{div-lt_self, div-le_self}
use lib.Dec.{lit<}
use Rattle.packed.proofs.Groups.{groups_small, groups_large, groups_few}
use Rattle.packed.proofs.numbers.groups_size.Goals as goal

pub overflow_add-n : goal.overflow_add-n
overflow_add-n c = omega (arith, groups_few c.args.v, c.loop-rest.invariant.0)

pub loop-rest-smaller : goal.loop-rest-smaller
loop-rest-smaller c = div-lt_self (omega arith) (lit< tt)

pub loop-rest-preserved : goal.loop-rest-preserved
loop-rest-preserved c = (
  omega (arith, ap length (groups_large c.loop-rest-test.true c.loop-rest.invariant.1)),
  omega (arith, div-le_self c.loop-rest.rest 128),
)

pub returns : goal.returns
returns c =
    let last = ap length (groups_small c.loop-rest-test.false) in
    let few = groups_few c.args.v in (omega arith, omega arith)
