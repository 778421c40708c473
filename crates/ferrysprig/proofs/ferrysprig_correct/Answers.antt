-- `ferrysprig::ferrysprig_correct` meets its contract: what `correct` answers, as numbers, and none is too large. Assumes nothing.
use Rattle.std.proofs.Common.{ap, arith}
use Rattle.level.specs.Level.{Outcome, correct_to, numbered, told}
use Rattle.level.proofs.Few.{few_rows, four}
use Rattle.ferrysprig.specs.Levels.{level_told}
use Rattle.ferrysprig.proofs.ferrysprig_correct.Goals as goal

pub level_numbers-requires : goal.level_numbers-requires
unfolding correct_to
level_numbers-requires c =
    let a = c.args in (
      omega (arith, ap (λ (x : Outcome). (told x.0).rows) c.correct.ensures, few_rows a.capture.now a.place a.programme a.level a.rows.now a.changes.now),
      omega (arith, ap (λ (x : Outcome). (told x.0).changes) c.correct.ensures, four a.capture.now a.place a.programme a.level a.rows.now a.changes.now),
    )

pub returns : goal.returns
unfolding correct_to
returns c = rw c.level_numbers.ensures (ap (λ (x : Outcome). level_told (numbered x)) c.correct.ensures)
