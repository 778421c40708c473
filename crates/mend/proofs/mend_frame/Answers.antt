-- `mend::mend_frame` meets its contract: the three writes are the definition's. Assumes nothing.
use Rattle.std.proofs.Common.{◌≡◌, ◌∙◌, ◌≤◌, ap, sym, subst, min, length, rules, arith}
use Rattle.bits.proofs.Writing.{put_count}
use Rattle.mend.specs.Mend.{FirstIsZero, with_crc1, with_crcrsv, with_crc2, mended}
use Rattle.mend.proofs.Stages.{crc1_first}
use Rattle.mend.proofs.mend_frame.Goals as goal

pub put_crc2-requires : goal.put_crc2-requires
put_crc2-requires c =
    let list = c.args.s.now in
    let same : length c.put.new.s ≡ length list = ap length c.put.ensures ∙ put_count list c.args.at (min c.args.n 16) c.args.v in
    let long : 4 ≤ length c.put.new.s = omega (arith, c.requires) in
    (search rules, search rules, subst (FirstIsZero c.args.words) (sym c.put_crc1.ensures) (crc1_first c.args.words c.put.new.s c.requires.0 long))

pub returns : goal.returns
unfolding mended
returns c =
    let words = c.args.words in
    c.put_crc2.ensures ∙ ap (λ t. with_crc2 words (with_crcrsv words t)) (c.put_crc1.ensures ∙ ap (with_crc1 words) c.put.ensures)
