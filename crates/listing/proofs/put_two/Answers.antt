-- `listing::put_two` meets its contract: the tenth is one digit, and the rest the other. Assumes nothing.
use Rattle.std.proofs.Common.{[], ◌∷◌, ◌+◌, ◌/◌, ◌%◌, ap, length, arith}
use Rattle.listing.proofs.Decimals.{decimal_two}
use Rattle.listing.proofs.Left.{both}
use Rattle.listing.proofs.put_two.Goals as goal

pub put-to-requires : goal.put-to-requires
put-to-requires c = omega (arith, ap length (decimal_two c.requires.0 c.requires.1), c.requires.2)

pub put-requires : goal.put-requires
put-requires c = omega (arith, ap length (decimal_two c.requires.0 c.requires.1), c.requires.2, c.put-to.ensures.0, c.put-to.auto.out)

pub returns : goal.returns
returns c =
    let v = c.args.v in
    rw (decimal_two c.requires.0 c.requires.1)
    (both c.args.out.now c.args.at ((48 + v / 10) ∷ []) ((48 + v % 10) ∷ []) (rw c.digit.ensures at c.put-to.ensures) (rw c.digit-2.ensures at c.put.ensures))
