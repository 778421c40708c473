-- `listing::put_signed` meets its contract: `-1` byte by byte, or the digits of one less, of which one or two are put at once. Assumes nothing.
use Rattle.std.proofs.Common.{[], ◌∷◌, ◌∙◌, ap, length, arith}
use Rattle.listing.proofs.Decimals.{decimal_small, signed_digit, signed_none, signed_some}
use Rattle.listing.proofs.Left.{both}
use Rattle.listing.proofs.put_signed.Goals as goal

pub put-to-requires : goal.put-to-requires
put-to-requires c = omega (arith, ap length (signed_none c.if-v-eq0.true), c.requires)

pub put-requires : goal.put-requires
put-requires c = omega (arith, ap length (signed_none c.if-v-eq0.true), c.requires, c.put-to.ensures.0, c.put-to.auto.out)

pub returns-then-v-eq0 : goal.returns-then-v-eq0
returns-then-v-eq0 c = rw (signed_none c.if-v-eq0.true) (both c.args.out.now c.args.at (45 ∷ []) (49 ∷ []) c.put-to.ensures c.put.ensures)

pub put-requires-then-v-lt11 : goal.put-requires-then-v-lt11
put-requires-then-v-lt11 c = omega (arith, ap length (signed_digit c.if-v-eq0.false c.if-v-lt11.true), c.requires)

pub returns-then-v-lt11 : goal.returns-then-v-lt11
returns-then-v-lt11 c = rw (signed_some c.if-v-eq0.false ∙ decimal_small (omega arith)) (rw c.digit.ensures at c.put-then-v-lt11.ensures)

pub put_two-requires : goal.put_two-requires
put_two-requires c = (omega arith, omega arith, rw (signed_some c.if-v-eq0.false) at c.requires)

pub returns-then-v-lt101 : goal.returns-then-v-lt101
returns-then-v-lt101 c = rw (signed_some c.if-v-eq0.false) c.put_two.ensures

pub put_decimal-requires : goal.put_decimal-requires
put_decimal-requires c = rw (signed_some c.if-v-eq0.false) at c.requires

pub returns : goal.returns
returns c = rw (signed_some c.if-v-eq0.false) c.put_decimal.ensures
