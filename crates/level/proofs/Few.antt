-- No answer about a level tells more rows than a frame can have, nor more than four changes. Assumes nothing.
use mathlib.Core.List.{List}
use Prim.Native.Nat.{ℕ, ◌≤◌}
use native.Mathlib.Omega.{arith}
use lib.IntN.{ℤ}
use Rattle.ac3.specs.Promise.{Call, call, input, answer_to}
use Rattle.ac3.specs.RowBound.{most_rows}
use Rattle.ac3.proofs.RowBound.{row_bound}
use Rattle.mend.proofs.Listing.{few_changes}
use Rattle.level.specs.Level.{words_of, check, dialnorm_of, dialnorm_width, position_in, levelled, untouched, left_by, correct, Answer, told, correct_to}
use Rattle.level.specs.declared.outcome.Refusal.{Refusal}
use Rattle.ac3.specs.declared.Answer as parse
use Rattle.std.specs.Prelude.{Result, Ok, Err}

either : (r : Result (Unit {0}) Refusal) (c : Call) (parsed : parse.Answer × List ℤ) (programme level : ℕ) (changes : List ℤ) (P : Answer → Type 0)
    → P (told (levelled c parsed programme level changes).0) → ((refusal : Refusal) → P (told (untouched c parsed refusal changes).0))
    → P (told (left_by c parsed programme level changes r).0)
either (Ok fine) c parsed programme level changes P p q = p
either (Err refusal) c parsed programme level changes P p q = q refusal

module _ (capture : List ℕ) (place programme level : ℕ) (rows changes : List ℤ) where
  abbrev here : Call
  here = call capture place rows

  pub few_rows : (correct_to capture place programme level rows changes).0.rows ≤ most_rows
  unfolding correct_to correct
  few_rows =
      either (check (answer_to here).0 programme level) here (answer_to here) programme level changes (λ x. x.rows ≤ most_rows)
      (row_bound.counted here) (λ r. row_bound.counted here)

  pub four : (correct_to capture place programme level rows changes).0.changes ≤ 4
  unfolding correct_to correct
  four =
      let a = (answer_to here).0 in
      let name = dialnorm_of programme in
      let most = few_changes name (words_of a) (input here) (position_in a.rows name (answer_to here).1) dialnorm_width level in
      either (check (answer_to here).0 programme level) here (answer_to here) programme level changes (λ x. x.changes ≤ 4)
      (omega (arith, most)) (λ r. omega arith)
