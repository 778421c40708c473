-- `writer::copy` meets its contract: a turn writes one more, and all that fit are all. Assumes nothing.
use Rattle.std.proofs.Common.{◌≡◌, ◌∙◌, ◌+◌, ap, get_or, set, arith}
use Rattle.writer.proofs.Written.{store, whole}
use Rattle.writer.proofs.copy.Goals as goal

pub loop-i-preserved : goal.loop-i-preserved
loop-i-preserved c =
    let a = c.args in
    let i = c.loop-i.i in
    ap (λ l. set l (a.at + i) (get_or a.from.now i 0)) c.loop-i.invariant
    ∙ store a.from.now a.run.now a.at i 0 (omega (arith, c.fitting-i-end.ensures))

pub returns : goal.returns
returns c =
    let n : c.loop-i.i ≡ c.fitting-i-end.result = omega arith in
    c.loop-i.invariant ∙ whole c.args.from.now c.args.run.now c.args.at c.loop-i.i (n ∙ c.fitting-i-end.ensures)
