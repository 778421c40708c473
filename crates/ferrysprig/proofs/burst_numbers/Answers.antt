-- `ferrysprig::burst_numbers` meets its contract: each entry of the array is a number of the answer, and none is too large. Assumes nothing.
use Rattle.std.proofs.Common.{[], ◌∷◌, pos, sym, ap, ◌∙◌, arith, rules}
use mir.Facts.{to_z_pos, to_z-of_z}
use mir.Syntax.{w32}
use Rattle.burst.specs.Answers as bursts
use Rattle.ferrysprig.specs.Bursts.{burst_in_order, burst_numbers}
use Rattle.ferrysprig.proofs.burst_numbers.Goals as goal

pub returns-in-Ok : goal.returns-in-Ok
unfolding burst_numbers burst_in_order
returns-in-Ok c =
    let few = ap (λ x. (bursts.told x).rows) c.in-Ok.is in
    let rows = to_z_pos w32 {n = c.in-Ok.written.rows} (omega (arith, few, c.requires)) in
    let bytes = to_z-of_z {w = w32} {z = c.from.result} (search rules) ∙ c.from.ensures in
    (λ j. pos 0 ∷ rows j ∷ bytes j ∷ []) ∙ sym (ap (λ x. burst_numbers (bursts.told x)) c.in-Ok.is)

pub returns-in-Err : goal.returns-in-Err
unfolding burst_numbers burst_in_order
returns-in-Err c =
    let few = ap (λ x. (bursts.told x).rows) c.in-Err.is in
    let rows = to_z_pos w32 {n = c.in-Err.refused.rows} (omega (arith, few, c.requires)) in
    let refusal = to_z-of_z {w = w32} {z = c.from-in-Err.result} (search rules) ∙ c.from-in-Err.ensures ∙ ap pos c.number.ensures in
    (λ j. refusal j ∷ rows j ∷ pos 0 ∷ []) ∙ sym (ap (λ x. burst_numbers (bursts.told x)) c.in-Err.is)
