-- `ferrysprig::ferrysprig_burst_read` meets its contract: `burst_read` tells no more rows than a frame has. Assumes nothing.
use Rattle.std.proofs.Common.{ap, arith}
use Rattle.burst.specs.Answers.{Left, told}
use Rattle.burst.proofs.Few.{few_read}
use Rattle.ferrysprig.proofs.ferrysprig_burst_read.Goals as goal

pub burst_numbers-requires : goal.burst_numbers-requires
burst_numbers-requires c =
    let a = c.args in omega (arith, ap (λ (x : Left). (told x.0).rows) c.burst_read.ensures, few_read a.burst.now a.rows.now a.out.now)
