-- `ferrysprig::level_numbers` meets its contract: each entry of the array is a number of the answer, and none is too large. Assumes nothing.
use Rattle.std.proofs.Common.{[], ◌∷◌, pos, sym, ap, ◌∙◌, arith, rules}
use mir.Facts.{to_z_pos, to_z-of_z}
use mir.Syntax.{w32}
use Rattle.level.specs.Level as levels
use Rattle.ferrysprig.specs.Levels.{level_numbers}
use Rattle.ferrysprig.proofs.level_numbers.Goals as goal

pub returns-in-Ok : goal.returns-in-Ok
unfolding level_numbers
returns-in-Ok c =
    let rows = to_z_pos w32 {n = c.in-Ok.correction.rows} (omega (arith, ap (λ x. (levels.told x).rows) c.in-Ok.is, c.requires)) in
    let changes = to_z_pos w32 {n = c.in-Ok.correction.changes} (omega (arith, ap (λ x. (levels.told x).changes) c.in-Ok.is, c.requires)) in
    (λ j. pos 0 ∷ rows j ∷ changes j ∷ []) ∙ sym (ap (λ x. level_numbers (levels.told x)) c.in-Ok.is)

pub returns-in-Err : goal.returns-in-Err
unfolding level_numbers
returns-in-Err c =
    let rows = to_z_pos w32 {n = c.in-Err.refused.rows} (omega (arith, ap (λ x. (levels.told x).rows) c.in-Err.is, c.requires)) in
    let refusal = to_z-of_z {w = w32} {z = c.from.result} (search rules) ∙ c.from.ensures ∙ ap pos c.number.ensures in
    (λ j. refusal j ∷ rows j ∷ pos 0 ∷ []) ∙ sym (ap (λ x. level_numbers (levels.told x)) c.in-Err.is)
