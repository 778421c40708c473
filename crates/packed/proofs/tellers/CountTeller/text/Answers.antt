-- A number's text is short.
use Rattle.std.proofs.Common.{arith, rules}
use Rattle.packed.proofs.Few.{signed_few}
use Rattle.packed.proofs.tellers.CountTeller.text.Goals as goal

pub capped-requires : goal.capped-requires
capped-requires c = (search rules, omega (arith, c.ended_size.ensures, signed_few c.args.v))
