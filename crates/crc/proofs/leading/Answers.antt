-- `crc::leading` meets its contract: a turn of the loop is a byte less, and sixteen shifts backwards then take the word out. Assumes nothing.
use Rattle.std.proofs.Common.{◌≡◌, ◌∙◌, ◌*◌, ◌-◌, ap, arith, rules}
use Rattle.crc.specs.Register as the
use Rattle.crc.specs.Bytes.{unfed}
use Rattle.crc.proofs.Bytes.{unrun_less, unfed_word}
use Rattle.crc.proofs.leading.Goals as goal

pub loop-at-preserved : goal.loop-at-preserved
loop-at-preserved c =
    let list = c.args.s.now in
    let from = c.args.from in
    let at = c.loop-at.at in
    record {
      word = search rules;
      same =
          ap (λ q. the.unrun q list (from * 8) ((at - 1 - from) * 8)) (c.unfeed-r.ensures ∙ ap (unfed c.loop-at.r) c.byte.ensures.0)
          ∙ unrun_less list from at c.loop-at.r (search rules) (search rules) c.loop-at.invariant.word ∙ c.loop-at.invariant.same;
    }

pub returns : goal.returns
unfolding the.unrun the.leading
returns c =
    let done : c.loop-at.at - c.args.from ≡ 0 = omega arith in
    let reached : c.loop-at.r ≡ the.unrun 0 c.args.s.now (c.args.from * 8) ((c.args.to - c.args.from) * 8) = rw done at c.loop-at.invariant.same in
    c.unfeed-2.ensures ∙ ap (λ q. unfed q 0) (c.unfeed.ensures ∙ ap (λ q. unfed q 0) reached) ∙ unfed_word _
