-- `bits::get` meets its contract: `extracted` cuts the field out of the window. Assumes nothing.
use Rattle.std.proofs.Common.{ℕ, ◌-◌, ◌/◌, ◌%◌, ◌*◌, ◌^◌, ◌∙◌, min, bit_and, arith}
use mathlib.Core.Path.{ap₂}
use Rattle.bits.proofs.Window.{extracted}
use Rattle.bits.proofs.get.Goals as goal

pub returns : goal.returns
returns c =
    ap₂ (λ (window width : ℕ). bit_and (window / 2 ^ (24 - c.args.pos % 8 - width)) (1 * 2 ^ width % 4294967296 - 1)) c.gather.ensures c.min-width.ensures
    ∙ extracted c.args.s.now c.args.pos (min c.args.n 16) 24 (omega arith) (omega arith)
