-- `mend::crc2` meets its contract: the register is zero after the first five eighths, so the rest alone decides it. Assumes nothing.
use Rattle.std.proofs.Common.{◌≡◌, ◌∙◌, ◌-◌, ◌*◌, arith}
use mathlib.Core.Path.{ap₂}
use Rattle.crc.specs.Register.{register}
use Rattle.mend.specs.Mend.{five_eighths}
use Rattle.mend.proofs.Stages.{crc2_by_rest}
use Rattle.mend.proofs.crc2.Goals as goal

pub returns : goal.returns
returns c =
    let words = c.args.words in
    let five = five_eighths words in
    let place : five * 2 * 8 ≡ five * 16 = omega arith in
    let bits : (words * 2 - 2 - five * 2) * 8 ≡ (words - 1 - five) * 16 = omega arith in
    c.register.ensures ∙ ap₂ (register c.args.s.now) place bits ∙ crc2_by_rest words c.args.s.now c.requires.0 c.requires.2
