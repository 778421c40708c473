-- `listing::put_decimal` meets its contract: the digits before the last two are those of a hundredth, which the call of itself writes.
-- Assumes nothing.
use Rattle.std.proofs.Common.{arith, ap, [], ◌∷◌, ◌++◌, ◌+◌, ◌/◌, ◌%◌, length}
use Rattle.std.proofs.Math.Nat.{div-lt_self, div-le_self}
use Rattle.std.proofs.Math.Dec.{lit<}
use Rattle.listing.specs.Number.{decimal}
use Rattle.listing.proofs.Decimals.{decimal_small, decimal_pair, pair_length}
use Rattle.listing.proofs.Left.{both}
use Rattle.listing.proofs.+put_decimal.Goals as goal

pub put-requires : goal.put-requires
put-requires t c = omega (arith, ap length (decimal_small c.if-v-lt10.true), c.requires)

pub returns-then-v-lt10 : goal.returns-then-v-lt10
returns-then-v-lt10 t c = rw (decimal_small c.if-v-lt10.true) (rw c.digit.ensures at c.put.ensures)

pub put_decimal-to-requires : goal.put_decimal-to-requires
put_decimal-to-requires t c =
    let v = c.args.v in (
      omega (arith, c.decreases, div-lt_self {n = v} {k = 10} (omega (arith, c.if-v-lt10.false)) (lit< tt), div-le_self (v / 10) 10),
      omega (arith, c.requires, pair_length c.if-v-lt10.false c.if-tenth-lt10.false c.ranges.v.fits),
    )

pub put-last-requires : goal.put-last-requires
put-last-requires t c =
    let p = c.put_decimal-to in
    omega (arith, c.requires, p.ensures.0, p.auto.out, pair_length c.if-v-lt10.false c.if-tenth-lt10.false c.ranges.v.fits)

pub put-requires-2 : goal.put-requires-2
put-requires-2 t c =
    let p = c.put_decimal-to in
    let q = c.put-last in
    omega (arith, c.requires, p.ensures.0, p.auto.out, q.ensures.0, q.auto.out, pair_length c.if-v-lt10.false c.if-tenth-lt10.false c.ranges.v.fits)

pub returns : goal.returns
returns t c =
    let out = c.args.out.now in
    let at = c.args.at in
    let v = c.args.v in
    rw (decimal_pair c.if-v-lt10.false c.if-tenth-lt10.false c.ranges.v.fits)
    (both out at (decimal (v / 10 / 10) ++ ((48 + v / 10 % 10) ∷ [])) ((48 + v % 10) ∷ [])
    (both out at (decimal (v / 10 / 10)) ((48 + v / 10 % 10) ∷ []) c.put_decimal-to.ensures (rw c.digit-2.ensures at c.put-last.ensures))
    (rw c.digit-3.ensures at c.put-2.ensures))
