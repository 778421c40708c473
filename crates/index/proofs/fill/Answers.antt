-- `index::fill` meets its contract: what is left to walk from the loop's place on fills in what the whole walk does. Assumes nothing.
use Rattle.std.proofs.Common.{refl, sym, ◌∙◌, arith}
use Rattle.index.proofs.Loop.{begins, full, short, on, moves, meets, ends}
use Rattle.index.proofs.fill.Goals as goal

pub loop-place-init : goal.loop-place-init
loop-place-init c = begins _ _ _ _ _ c.requires.0

pub returns-then-parsed-number : goal.returns-then-parsed-number
returns-then-parsed-number c =
    full _ _ _ _ _ c.loop-place.invariant c.loop-place-test.true c.parse-parsed.ensures.rows_after c.parse-parsed.auto.rows (c.if-parsed-number.true ∙ c.number.ensures)

pub returns-then-is_short : goal.returns-then-is_short
returns-then-is_short c =
    short _ _ _ _ _ c.loop-place.invariant c.loop-place-test.true c.parse-parsed.ensures.rows_after c.parse-parsed.auto.rows (sym c.is_short.ensures ∙ c.if-is_short.true)

pub loop-place-preserved-then-parsed-ne0 : goal.loop-place-preserved-then-parsed-ne0
loop-place-preserved-then-parsed-ne0 c =
    on _ _ _ _ _ c.loop-place.invariant c.loop-place-test.true c.parse-parsed.ensures.rows_after c.parse-parsed.auto.rows
    (λ seven. c.if-parsed-number.false (seven ∙ sym c.number.ensures)) (sym c.is_short.ensures ∙ c.if-is_short.false) c.if-parsed-ne0.true c.next_place-place.ensures.passed

pub loop-place-smaller : goal.loop-place-smaller
loop-place-smaller c =
    omega (
      arith,
      moves _ _ _ _ _ c.loop-place.invariant c.loop-place-test.true c.parse-parsed.ensures.rows_after c.parse-parsed.auto.rows c.if-parsed-ne0.false,
      c.from-place.ensures,
      c.loop-place-test.true,
    )

pub loop-place-preserved : goal.loop-place-preserved
loop-place-preserved c =
    let parsed = c.parse-parsed.ensures.rows_after in
    meets _ _ _ _ _ c.loop-place.invariant c.loop-place-test.true parsed c.parse-parsed.auto.rows c.if-parsed-ne0.false c.from-place.ensures
    (c.entry_of.ensures _ refl parsed) c.put.ensures

pub returns : goal.returns
returns c = ends _ _ _ _ _ c.loop-place.invariant c.loop-place-test.false
