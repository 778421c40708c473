-- `crc::unfeed` meets its contract: eight shifts backwards move the byte at the top down and put the table's entry in. Assumes nothing.
use Rattle.std.proofs.Common.{ap, ◌∙◌, rules, ◌*◌, ◌/◌, ◌%◌}
use Rattle.std.specs.Int.Bits.{bit_xor}
use Rattle.crc.specs.Bytes.{unfed}
use Rattle.crc.proofs.Bytes.{unfed_by_table}
use Rattle.crc.proofs.unfeed.Goals as goal

pub returns : goal.returns
returns c =
    let r = c.args.register in
    let b = c.from.result in
    ap (λ t. bit_xor (bit_xor (r / 256) t) (b * 256 % 65536)) (c.requires.each (r % 256) (search rules)) ∙ unfed_by_table r b (search rules) (search rules) ∙ ap (unfed r) c.from.ensures
