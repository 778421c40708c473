-- `salvage::close_gap` meets its contract: each way through it is one of the definition's. Assumes nothing.
use Rattle.std.proofs.Common.{refl, arith}
use Rattle.salvage.proofs.Steps.{no_gap, gap_refused, gap_entered}
use Rattle.salvage.proofs.close_gap.Goals as goal

pub returns-then-to-from : goal.returns-then-to-from
returns-then-to-from c = (refl, λ out. no_gap c.if-to-from.true)

pub returns-then-list-done : goal.returns-then-list-done
returns-then-list-done c = (refl, λ out. gap_refused (omega (arith, c.if-to-from.false)) c.if-list-done.true)

pub returns : goal.returns
returns c = (refl, λ out. gap_entered (omega (arith, c.if-to-from.false)) (omega (arith, c.if-list-done.false)) c.put_entry.ensures)
