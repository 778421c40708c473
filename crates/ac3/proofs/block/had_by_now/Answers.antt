-- `ac3::block::had_by_now` meets its contract: a store changes none of the channels that are done. Assumes nothing.
use mathlib.Core.Bool.{false}
use mathlib.Core.Path.{◌∙◌}
use borrow.Author.Count.{below_more}
use lib.ListN.{length-set}
use lib.Seq.{get_or-set_same, get_or-set_other}
use Rattle.std.proofs.Common.{arith}
use Rattle.ac3.proofs.block.had_by_now.Goals as goal

pub loop-ch-preserved : goal.loop-ch-preserved
loop-ch-preserved c =
    let had = c.loop-ch.had in
    let ch = c.loop-ch.ch in (
      length-set had ch _ ∙ c.loop-ch.invariant.0,
      below_more
          _
          ch
          (λ k l. get_or-set_other had ch k _ false (λ same. omega arith) ∙ c.loop-ch.invariant.1 k l)
          (get_or-set_same had ch _ false (omega (arith, c.loop-ch.invariant.0))),
    )

pub returns : goal.returns
returns c k l = c.loop-ch.invariant.1 k (omega arith)
