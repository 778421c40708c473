-- `index::extend` meets its contract: with ample room one walk answers; else the first walk counts, and the second finds the same. Assumes
-- nothing.
use Rattle.std.proofs.Common.{refl, arith}
use Rattle.std.proofs.lemmas.Result.{err_from_is_err_and}
use Rattle.index.proofs.Answered.{ample, entries_are, no_fields_lem, no_room_lem, second}
use Rattle.index.proofs.extend.Goals as goal

pub returns-then-capture-from : goal.returns-then-capture-from
returns-then-capture-from c =
    let a = c.args in
    ample a.capture.now a.rows.now a.index.now a.entries a.from c.requires.0 c.requires.1 c.if-rows-ge-MOST_ROWS.true c.if-capture-from.true c.fill.ensures

pub returns-in_err-counted : goal.returns-in_err-counted
returns-in_err-counted c =
    let p = err_from_is_err_and c.from_residual.result c.from_residual.ensures.1 in rw (p.1, p.2) (no_fields_lem _ _ _ _ _ c.in_err-counted.ensures refl)

pub overflow_sub-counted : goal.overflow_sub-counted
overflow_sub-counted c =
    let a = c.args in
    omega (arith, entries_are a.capture.now a.rows.now a.index.now a.entries a.from c.in_ok-counted.ensures refl)

pub returns-then-room-entries : goal.returns-then-room-entries
returns-then-room-entries c = no_room_lem _ _ _ _ _ c.in_ok-counted.ensures refl c.if-room-entries.true

pub returns : goal.returns
returns c = second _ _ _ _ _ c.in_ok-counted.ensures refl c.requires.1 c.if-room-entries.false c.fill-3.ensures
