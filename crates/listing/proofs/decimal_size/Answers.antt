-- `listing::decimal_size` meets its contract: few digits are counted by the powers of ten; of more a turn takes one digit off the number and
-- counts it, and the last one is counted from the start. Assumes nothing.
use Rattle.std.proofs.Common.{[], ◌∷◌, ◌+◌, ◌/◌, ◌%◌, ap, sym, length, arith}
use lib.ListN.{length-append}
use Rattle.listing.specs.Number.{decimal}
use Rattle.listing.proofs.Decimals.{decimal_count, decimal_small, decimal_large, decimal_few}
use Rattle.listing.proofs.decimal_size.Goals as goal

pub returns-then-v-lt10 : goal.returns-then-v-lt10
returns-then-v-lt10 c = (sym (ap length (decimal_small c.if-v-lt10.true)), omega arith)

pub returns-then-v-lt100 : goal.returns-then-v-lt100
returns-then-v-lt100 c = (sym (decimal_count 1 c.args.v c.if-v-lt10.false c.if-v-lt100.true (omega arith)), omega arith)

pub returns-then-v-lt1000 : goal.returns-then-v-lt1000
returns-then-v-lt1000 c = (sym (decimal_count 2 c.args.v c.if-v-lt100.false c.if-v-lt1000.true (omega arith)), omega arith)

pub returns-then-v-lt10000 : goal.returns-then-v-lt10000
returns-then-v-lt10000 c = (sym (decimal_count 3 c.args.v c.if-v-lt1000.false c.if-v-lt10000.true (omega arith)), omega arith)

pub returns-then-v-lt100000 : goal.returns-then-v-lt100000
returns-then-v-lt100000 c = (sym (decimal_count 4 c.args.v c.if-v-lt10000.false c.if-v-lt100000.true (omega arith)), omega arith)

pub overflow_add-n : goal.overflow_add-n
overflow_add-n c = record { fits = omega (arith, decimal_few c.args.v, c.loop-rest.invariant) }

pub loop-rest-preserved : goal.loop-rest-preserved
loop-rest-preserved c =
    let rest = c.loop-rest.rest in
    omega (
      arith,
      c.loop-rest.invariant,
      ap length (decimal_large {n = rest} c.loop-rest-test.true (omega arith)),
      length-append (decimal (rest / 10)) ((48 + rest % 10) ∷ []),
    )

pub returns : goal.returns
returns c =
    let last = ap length (decimal_small c.loop-rest-test.false) in
    let few = decimal_few c.args.v in
    (omega (arith, c.loop-rest.invariant, last), omega (arith, c.loop-rest.invariant, last, few))
