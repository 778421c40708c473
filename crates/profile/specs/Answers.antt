-- What is answered of the frame at a place, and the field room after it: as the parse leaves it.
use Rattle.std.specs.Prelude.{cond, List, ℕ, eqb, ℤ, Result, Ok, Err}
use Rattle.ac3.specs.Promise.{Call, call, listed, answer_to}
use Rattle.profile.specs.Rules.{judged}
use Rattle.profile.specs.declared.Judgement.{Judgement}
use Rattle.profile.specs.declared.Refused.{Refused}
use Rattle.profile.specs.declared.Verdict.{Verdict}
use Rattle.profile.specs.declared.Verdict.TheVariants.{Within, Broken}

-- a frame that parsing refuses gets that refusal
abbrev pub verdict_of : Call → Result Verdict ℕ
verdict_of c = let a = (answer_to c).0 in cond (eqb a.refusal 0) (Ok (judged a.summary.header (listed c))) (Err a.refusal)

-- with the rows that the parse left
abbrev pub answered : (rows : ℕ) → Result Verdict ℕ → Result Judgement Refused
answered rows (Ok v) = Ok (record { rows = rows; verdict = v })
answered rows (Err refusal) = Err (record { refusal = refusal; rows = rows })

unfoldable pub profile : (capture : List ℕ) (place : ℕ) (rows : List ℤ) → Result Judgement Refused × List ℤ
profile capture place rows = let c = call capture place rows in (answered (answer_to c).0.rows (verdict_of c), (answer_to c).1)

-- ---- what is told of an answer

pub record Answer : Type 0 where
  pub rows : ℕ
  pub verdict : Result Verdict ℕ

abbrev pub told : Result Judgement Refused → Answer
told (Ok j) = record { rows = j.rows; verdict = Ok j.verdict }
told (Err r) = record { rows = r.rows; verdict = Err r.refusal }

unfoldable pub profile_to : (capture : List ℕ) (place : ℕ) (rows : List ℤ) → Answer × List ℤ
profile_to capture place rows = let x = profile capture place rows in (told x.0, x.1)

-- ---- the numbers of each case: 0 for what it does not have

pub record Numbers : Type 0 where
  pub refusal : ℕ
  pub rule : ℕ
  pub row : ℕ

abbrev pub numbers_of : Result Verdict ℕ → Numbers
numbers_of (Err refusal) = record { refusal = refusal; rule = 0; row = 0 }
numbers_of (Ok Within) = record { refusal = 0; rule = 0; row = 0 }
numbers_of (Ok (Broken rule row)) = record { refusal = 0; rule = rule; row = row }
