-- `crc::feed` meets its contract: eight shifts move the byte at the bottom up and put the table's entry in. Assumes nothing.
use Rattle.std.proofs.Common.{ap, ◌∙◌, rules, ◌*◌, ◌/◌, ◌%◌, ◌<◌}
use Rattle.std.specs.Int.Bits.{bit_xor, xor_lt}
use Rattle.crc.proofs.Bytes.{fed_by_table}
use Rattle.crc.proofs.feed.Goals as goal

pub returns : goal.returns
returns c =
    let r = c.args.register in
    let b = c.args.b in
    -- the byte that leaves is one of the 256
    let top_lt : bit_xor (r / 256) b < 256 = xor_lt 8 (r / 256) b (search rules) (search rules) in
    ap (bit_xor (r * 256 % 65536)) (c.requires.each (bit_xor (r / 256) b) top_lt) ∙ fed_by_table r b (search rules) (search rules)
