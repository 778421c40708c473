-- `bits::put` meets its contract: the bit that is put is the last of those that are left. Assumes nothing.
use Rattle.std.proofs.Common.{◌≡◌, ◌∙◌, ◌-◌, ◌/◌, ◌%◌, rules, arith, sym, ap}
use Rattle.bits.specs.Put as after
use Rattle.bits.proofs.Writing.{put_bit_along, put_last}
use Rattle.bits.proofs.put.Goals as goal

pub loop-left-preserved : goal.loop-left-preserved
loop-left-preserved c =
    let l = c.loop-left.left - 1 in
    ap (λ t. after.put t c.args.pos l (c.loop-left.rest / 2)) (c.put_bit.ensures ∙ put_bit_along c.loop-left.s c.args.pos l (c.loop-left.rest % 2))
    ∙ sym (put_last c.loop-left.s c.args.pos c.loop-left.left c.loop-left.rest (search rules)) ∙ c.loop-left.invariant

pub returns : goal.returns
unfolding after.put
returns c = let done : c.loop-left.left ≡ 0 = omega arith in rw done at c.loop-left.invariant
