-- `mantissas::parameters::is_silent` meets its contract: what was passed had offset 0, so that what is left decides. Assumes nothing.
use mathlib.Core.Path.{ap, ◌∙◌}
use borrow.Author.Tests.{eq-eqb, ne_eqb}
use Rattle.std.proofs.lemmas.List.{drop_more, drop_all}
use Rattle.mantissas.specs.Mantissas.{silent}
use Rattle.mantissas.specs.Sound.{no_part}
use Rattle.mantissas.proofs.parameters.is_silent.Goals as goal

pub returns-then-offsets-p-ne0 : goal.returns-then-offsets-p-ne0
unfolding silent
returns-then-offsets-p-ne0 c =
    let step = drop_more c.slots-p-items.result.now c.loop-p.p-index no_part c.loop-p-test.true in
    (rw (ne_eqb _ 0 c.if-offsets-p-ne0.true) at (rw step at c.loop-p.invariant)) ∙ ap (silent c.args.offsets.now) c.slots-p-items.ensures.value

pub loop-p-preserved : goal.loop-p-preserved
unfolding silent
loop-p-preserved c =
    let step = drop_more c.slots-p-items.result.now c.loop-p.p-index no_part c.loop-p-test.true in
    rw (eq-eqb _ 0 c.if-offsets-p-ne0.false) at (rw step at c.loop-p.invariant)

pub returns : goal.returns
unfolding silent
returns c =
    (rw (drop_all c.loop-p.p-index c.slots-p-items.result.now c.loop-p-test.false) at c.loop-p.invariant) ∙ ap (silent c.args.offsets.now) c.slots-p-items.ensures.value
