-- `level::correct` meets its contract: what is refused is left as it was; else the level is written into the part from the place on, at the
-- position that dialnorm's row says. Assumes nothing.
use Rattle.std.proofs.Common.{sym, ◌∙◌}
use Rattle.level.proofs.Correcting.{refused, corrected}
use Rattle.level.proofs.correct.Goals as goal

pub returns-in-Err : goal.returns-in-Err
returns-in-Err c =
    let a = c.args in
    refused a.capture.now a.place a.programme a.level a.rows.now a.changes.now c.parse-parsed.ensures.rows_after
    (sym c.check.ensures ∙ c.in-Err.is)

pub returns : goal.returns
returns c =
    let a = c.args in
    corrected a.capture.now a.place a.programme a.level a.rows.now a.changes.now c.parse-parsed.ensures.rows_after
    (sym c.check.ensures ∙ c.in_default.is) c.dialnorm_of-name.ensures c.position-at.ensures
    c.mend-listed.ensures.s c.mend-listed.ensures.list.0 c.mend-listed.ensures.list.1
