-- `bits::gather` meets its contract: what is joined is the window of three bytes. Assumes nothing.
use Rattle.std.proofs.Common.{rules}
use Rattle.bits.proofs.Window.{window_3}
use Rattle.bits.proofs.gather.Goals as goal

pub returns : goal.returns
returns c =
    window_3 c.args.s.now c.args.first {a = c.from-high.result} {b = c.from-middle.result} {c = c.from.result} (search rules) (search rules) (search rules)
