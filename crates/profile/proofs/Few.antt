-- No answer about the profile tells more rows than a frame can have, nor a row past them. Assumes nothing.
use mathlib.Core.Bool.{Bool, true, false, cond}
use mathlib.Core.List.{List, [], ◌∷◌}
use mathlib.Core.Path.{◌≡◌, refl, ap}
use Prim.Native.Nat.{ℕ, suc, ◌≤◌}
use native.Mathlib.Omega.{arith}
use borrow.Author.Tests.{ltb-true}
use lib.Dec.{eqb, ltb}
use lib.IntN.{ℤ}
use lib.ListN.{length}
use Rattle.ac3.specs.Promise.{Call, call, input, room_for, listed, answer_to}
use Rattle.ac3.specs.RowBound.{most_rows}
use Rattle.ac3.proofs.RowBound.{row_bound}
use Rattle.profile.specs.Rules.{Rule, rules, judged_by, judged, found_at}
use Rattle.profile.specs.Answers.{verdict_of, answered, told, profile, profile_to, numbers_of}
use Rattle.std.specs.Prelude.{Result, Ok, Err}
use Rattle.profile.specs.Profiled.{header_of}
use Rattle.profile.specs.declared.Verdict.{Verdict}
use Rattle.profile.specs.declared.Verdict.TheVariants.{Broken}

module _ (found : Rule → ℕ) (count : ℕ) where
  row_inside : (rs : List Rule) (n : ℕ) → (numbers_of (Ok (judged_by found count n rs))).row ≤ count
  unfolding judged_by
  row_inside [] n = omega arith
  row_inside (r ∷ rs) n = go (ltb (found r) count) refl (row_inside rs (suc n))
    where
      go : (b : Bool) → ltb (found r) count ≡ b → (numbers_of (Ok (judged_by found count (suc n) rs))).row ≤ count → (numbers_of (Ok (cond b (Broken n (found r)) (judged_by found count (suc n) rs)))).row ≤ count
      go true e later = omega (arith, ltb-true (found r) count e)
      go false e later = later

either_few : (b : Bool) (v : Verdict) (refusal n : ℕ) → (numbers_of (Ok v)).row ≤ n → (numbers_of (cond b (Ok v) (Err refusal))).row ≤ n
either_few true v refusal n h = h
either_few false v refusal n h = omega arith

told_rows : (rows : ℕ) (v : Result Verdict ℕ) → (told (answered rows v)).rows ≡ rows
told_rows rows (Ok v) = refl
told_rows rows (Err refusal) = refl

told_verdict : (rows : ℕ) (v : Result Verdict ℕ) → (told (answered rows v)).verdict ≡ v
told_verdict rows (Ok v) = refl
told_verdict rows (Err refusal) = refl

module _ (capture : List ℕ) (place : ℕ) (rows : List ℤ) where
  abbrev here : Call
  here = call capture place rows

  pub few_rows : (profile_to capture place rows).0.rows ≤ most_rows
  unfolding profile_to profile
  few_rows = omega (arith, told_rows (answer_to here).0.rows (verdict_of here), row_bound.counted here)

  pub row_few : (numbers_of (profile_to capture place rows).0.verdict).row ≤ most_rows
  unfolding profile_to profile
  row_few =
      let most =
      either_few (eqb (answer_to here).0.refusal 0) (judged (header_of here) (listed here)) (answer_to here).0.refusal most_rows
      (omega (arith, row_inside (found_at (header_of here) (listed here)) (length (listed here)) rules 1, row_bound.rows (input here) (room_for here))) in
      omega (arith, ap (λ v. (numbers_of v).row) (told_verdict (answer_to here).0.rows (verdict_of here)), most)
