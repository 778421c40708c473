-- `ferrysprig::ferrysprig_profile` meets its contract: what `profile` answers, as numbers, and none is too large. Assumes nothing.
use Rattle.std.proofs.Common.{List, ℤ, Result, ap, arith}
use Rattle.profile.specs.Answers.{numbers_of, profile_to, told}
use Rattle.profile.specs.declared.Judgement.{Judgement}
use Rattle.profile.specs.declared.Refused.{Refused}
use Rattle.profile.proofs.Few.{few_rows, row_few}
use Rattle.ferrysprig.specs.Profiles.{profile_told}
use Rattle.ferrysprig.proofs.ferrysprig_profile.Goals as goal

pub profile_numbers-requires : goal.profile_numbers-requires
unfolding profile_to
profile_numbers-requires c =
    let a = c.args in (
      omega (arith, ap (λ (x : Result Judgement Refused × List ℤ). (told x.0).rows) c.profile.ensures, few_rows a.capture.now a.place a.rows.now),
      omega (arith, ap (λ (x : Result Judgement Refused × List ℤ). (numbers_of (told x.0).verdict).row) c.profile.ensures, row_few a.capture.now a.place a.rows.now),
    )

pub returns : goal.returns
unfolding profile_to
returns c = rw c.profile_numbers.ensures (ap (λ (x : Result Judgement Refused × List ℤ). profile_told (told x.0, x.1)) c.profile.ensures)
