-- `ferrysprig::profile_numbers` meets its contract: each entry of the array is a number of the answer, and none is too large. Assumes nothing.
use Rattle.std.proofs.Common.{ℕ, [], ◌∷◌, pos, sym, ap, ◌∙◌, arith, rules}
use Rattle.std.specs.Prelude.{Ok}
use mir.Facts.{to_z_pos, to_z-of_z}
use mir.Syntax.{w32}
use Rattle.profile.specs.Answers.{Answer, numbers_of, told}
use Rattle.profile.specs.declared.Verdict.{Verdict}
use Rattle.ferrysprig.specs.Profiles.{profile_in_order, profile_numbers}
use Rattle.ferrysprig.proofs.profile_numbers.Goals as goal

-- the answer of so many rows and this verdict
abbrev of_verdict : (rows : ℕ) → Verdict → Answer
of_verdict rows v = record { rows = rows; verdict = Ok v }

pub returns-in-Within : goal.returns-in-Within
unfolding profile_numbers profile_in_order
returns-in-Within c =
    let rows = to_z_pos w32 {n = c.in-Ok.judged.rows} (omega (arith, ap (λ x. (told x).rows) c.in-Ok.is, c.requires.0)) in
    (λ j. pos 0 ∷ rows j ∷ pos 0 ∷ pos 0 ∷ [])
    ∙ sym (ap (λ x. profile_numbers (told x)) c.in-Ok.is ∙ ap (λ v. profile_numbers (of_verdict c.in-Ok.judged.rows v)) c.in-Within.is)

pub returns-in-Broken : goal.returns-in-Broken
unfolding profile_numbers profile_in_order
returns-in-Broken c =
    let rows = to_z_pos w32 {n = c.in-Ok.judged.rows} (omega (arith, ap (λ x. (told x).rows) c.in-Ok.is, c.requires.0)) in
    let few = ap (λ x. (numbers_of (told x).verdict).row) c.in-Ok.is ∙ ap (λ v. (numbers_of (of_verdict c.in-Ok.judged.rows v).verdict).row) c.in-Broken.is in
    let row = to_z_pos w32 {n = c.in-Broken.row} (omega (arith, few, c.requires.1)) in
    let rule = to_z-of_z {w = w32} {z = c.from.result} (search rules) ∙ c.from.ensures in
    (λ j. pos 0 ∷ rows j ∷ rule j ∷ row j ∷ [])
    ∙ sym (ap (λ x. profile_numbers (told x)) c.in-Ok.is ∙ ap (λ v. profile_numbers (of_verdict c.in-Ok.judged.rows v)) c.in-Broken.is)

pub returns-in-Err : goal.returns-in-Err
unfolding profile_numbers profile_in_order
returns-in-Err c =
    let rows = to_z_pos w32 {n = c.in-Err.refused.rows} (omega (arith, ap (λ x. (told x).rows) c.in-Err.is, c.requires.0)) in
    let refusal = to_z-of_z {w = w32} {z = c.from-in-Err.result} (search rules) ∙ c.from-in-Err.ensures in
    (λ j. refusal j ∷ rows j ∷ pos 0 ∷ pos 0 ∷ []) ∙ sym (ap (λ x. profile_numbers (told x)) c.in-Err.is)
