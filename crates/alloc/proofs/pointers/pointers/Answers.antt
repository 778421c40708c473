-- `alloc::pointers::pointers` meets its contract. Assumes nothing.
use Rattle.std.proofs.Common.{ap, get_or, arith}
use Rattle.alloc.proofs.Filled.{fills_none, fills_set}
use Rattle.alloc.proofs.pointers.pointers.Goals as goal

pub loop-bin-init : goal.loop-bin-init
loop-bin-init c = (omega arith, omega arith, fills_none _ _ _ _)

pub loop-bin-preserved : goal.loop-bin-preserved
loop-bin-preserved c =
    let here = c.loop-bin in
    (omega arith, omega arith, fills_set _ _ _ _ here.out here.bin _ (omega arith) (omega (arith, here.invariant.2.long)) (ap (λ k. get_or c.args.baps.now k 0) c.from.ensures) here.invariant.2)
