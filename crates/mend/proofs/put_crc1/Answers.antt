-- `mend::put_crc1` meets its contract: it writes the word that the register, run backwards, asks for. Assumes nothing.
use Rattle.std.proofs.Common.{◌≡◌, ◌∙◌, ◌+◌, ◌-◌, ◌*◌, ◌/◌, ap, arith}
use Rattle.bits.specs.Put.{put}
use Rattle.crc.specs.Register.{leading}
use Rattle.mend.specs.Mend.{with_crc1}
use Rattle.mend.proofs.put_crc1.Goals as goal

pub returns : goal.returns
unfolding with_crc1
returns c =
    let list = c.args.s.now in
    let words = c.args.words in
    let bits : ((words / 2 + words / 8) * 2 - 4) * 8 ≡ (words / 2 + words / 8 - 2) * 16 = omega arith in
    c.put.ensures ∙ ap (put list 16 16) (c.from.ensures ∙ c.leading-crc1.ensures ∙ ap (leading list 32) bits)
