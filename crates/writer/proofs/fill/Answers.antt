-- `writer::fill` meets its contract: the byte is written as often as it fits. Assumes nothing.
use Rattle.std.proofs.Common.{◌≡◌, ◌+◌, ◌-◌, ◌∙◌, sym, ap, length, replicate, take, drop, arith}
use lib.ListN.{length-replicate, length-drop}
use lib.Seq.{length-take-le}
use Rattle.std.proofs.lemmas.List.{take-replicate}
use Rattle.writer.proofs.Written.{part}
use Rattle.writer.proofs.fill.Goals as goal

pub returns : goal.returns
returns c =
    let a = c.args in
    let start = c.min-start.result in
    let n = c.fitting-n.result in
    let many : length (take (start + n - start) (drop start a.run.now)) ≡ n =
    length-take-le (start + n - start) (drop start a.run.now) (omega (arith, length-drop start a.run.now)) ∙ omega arith in
    part (replicate a.count a.byte) a.run.now a.at c.fill.new.self start n c.min-start.ensures (omega (arith, length-replicate a.count a.byte))
    (c.fill.ensures.after (λ y e. e) ∙ ap (λ k. replicate k a.byte) many ∙ sym (take-replicate n a.count a.byte (omega arith)))
