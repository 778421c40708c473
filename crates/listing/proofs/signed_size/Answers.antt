-- `listing::signed_size` meets its contract: `-1`, or the digits of one less. Assumes nothing.
use Rattle.std.proofs.Common.{ap, sym, ◌∙◌, length, arith}
use Rattle.listing.proofs.Decimals.{signed_none, signed_some}
use Rattle.listing.proofs.signed_size.Goals as goal

pub returns-then-v-eq0 : goal.returns-then-v-eq0
returns-then-v-eq0 c = (sym (ap length (signed_none c.if-v-eq0.true)), omega arith)

pub returns : goal.returns
returns c = (c.decimal_size.ensures.0 ∙ sym (ap length (signed_some c.if-v-eq0.false)), c.decimal_size.ensures.1)
