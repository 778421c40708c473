-- `edits::set` meets its contract: the checks are the definition's, in its order, and what it writes into the part from the place on is
-- written into the capture. Assumes nothing.
use Rattle.std.proofs.Common.{◌+◌, ◌-◌, ◌*◌, ◌≤◌, length, sym, ap, ◌∙◌, arith}
use borrow.Author.Tests.{leb-true, leb-false}
use Rattle.edits.proofs.Setting.{no_bits, too_many_bits, past_the_end, too_great, is_set, part_back}
use Rattle.edits.proofs.set.Goals as goal
use Rattle.edits.proofs.set.Goals.{then-width-eq0-via-then-width-eq0, then-width-eq0-via-else-width-eq0+then-width-gt16, then-capture-place-via-then-capture-place, then-capture-place-via-else-capture-place+then-not-within}

pub returns-then-width-eq0 : goal.returns-then-width-eq0
returns-then-width-eq0 c =
    let a = c.args in
    elim c.then-width-eq0.branch [
      | then-width-eq0-via-then-width-eq0 w ↦ no_bits a.capture.now a.place a.position a.width a.value w.if-width-eq0.true
      | then-width-eq0-via-else-width-eq0+then-width-gt16 w ↦ too_many_bits a.capture.now a.place a.position a.width a.value w.if-width-gt16.true
    ]

-- a place past the end, and a field that ends past it
pub returns-then-capture-place : goal.returns-then-capture-place
returns-then-capture-place c =
    let a = c.args in
    past_the_end a.capture.now a.place a.position a.width a.value c.if-width-eq0.false c.if-width-gt16.false
    (elim c.then-capture-place.branch [
      | then-capture-place-via-then-capture-place w ↦ omega (arith, w.if-capture-place.true)
      | then-capture-place-via-else-capture-place+then-not-within w ↦
          omega (arith, w.if-capture-place.false, leb-false (a.position + a.width) ((length a.capture.now - a.place) * 8) (sym w.within.ensures ∙ w.if-not-within.true))
    ])

pub returns-then-values-value : goal.returns-then-values-value
returns-then-values-value c =
    let a = c.args in
    let inside : a.place * 8 + a.position + a.width ≤ length a.capture.now * 8 = omega (arith, c.if-capture-place.false, leb-true (a.position + a.width) ((length a.capture.now - a.place) * 8) (sym c.within.ensures ∙ c.if-not-within.false)) in
    too_great a.capture.now a.place a.position a.width a.value c.if-width-eq0.false c.if-width-gt16.false inside (omega (arith, c.values.ensures.0, c.if-values-value.true))

pub returns : goal.returns
returns c =
    let a = c.args in
    let inside : a.place * 8 + a.position + a.width ≤ length a.capture.now * 8 = omega (arith, c.if-capture-place.false, leb-true (a.position + a.width) ((length a.capture.now - a.place) * 8) (sym c.within.ensures ∙ c.if-not-within.false)) in
    ap (λ l. (0, l)) (part_back a.capture.now a.place a.position a.width a.value c.if-width-gt16.false c.put.ensures)
    ∙ is_set a.capture.now a.place a.position a.width a.value c.if-width-eq0.false c.if-width-gt16.false inside (omega (arith, c.values.ensures.0, c.if-values-value.false))
