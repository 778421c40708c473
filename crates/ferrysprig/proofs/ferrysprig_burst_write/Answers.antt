-- `ferrysprig::ferrysprig_burst_write` meets its contract: `burst_write` tells no more rows than a frame has. Assumes nothing.
use Rattle.std.proofs.Common.{ap, arith}
use Rattle.burst.specs.Answers.{Left, told}
use Rattle.burst.proofs.Few.{few_written}
use Rattle.ferrysprig.proofs.ferrysprig_burst_write.Goals as goal

pub burst_numbers-requires : goal.burst_numbers-requires
burst_numbers-requires c =
    let a = c.args in omega (arith, ap (λ (x : Left). (told x.0).rows) c.burst_write.ensures, few_written a.capture.now a.place a.rows.now a.out.now)
