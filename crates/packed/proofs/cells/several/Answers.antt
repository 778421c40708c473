-- A turn takes one group more.
use Rattle.std.proofs.lemmas.Grind.{common_steps}
use Rattle.std.proofs.Common.{◌≡◌, min, ◌+◌, ◌*◌, ◌%◌, ap, get_or, arith}
use Rattle.packed.proofs.Stored.{group_goes, running_more}
use Rattle.packed.proofs.cells.several.Goals as goal

pub loop-i-preserved : goal.loop-i-preserved
loop-i-preserved c =
    let l = c.loop-i in
    let b = get_or c.args.packed.now l.i 0 in
    let k : c.min-k.result + 1 ≡ min (l.k + 1) 5 = grind (arith, common_steps) in
    rw k
    (running_more c.args.packed.now c.args.at l.invariant (omega arith) (group_goes l.n l.k b (ap (λ x. l.n + b % 128 * x) c.weight_of.ensures.0) (omega arith) (omega arith)) (omega arith))
