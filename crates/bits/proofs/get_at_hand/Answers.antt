-- `bits::get_at_hand` meets its contract: `extracted` cuts the field out of the window of two bytes. Assumes nothing.
use Rattle.std.proofs.Common.{rules, ◌/◌, arith}
use Rattle.bits.proofs.Window.{window_2, extracted}
use Rattle.bits.proofs.get_at_hand.Goals as goal

pub returns : goal.returns
returns c =
    rw (window_2 c.args.s.now (c.args.pos / 8) {a = c.from.result} {b = c.from-2.result} (search rules) (search rules))
    (extracted c.args.s.now c.args.pos c.args.n 16 (omega arith) (omega arith))
