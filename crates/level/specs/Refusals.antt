-- The numbers of refused corrections.
use Rattle.std.specs.Prelude.{ℕ, Result, Ok, Err}
use Rattle.level.specs.declared.outcome.Refusal.{Refusal}
use Rattle.level.specs.declared.outcome.Refusal.TheVariants.{Frame, NoProgramme, NoLevel, EndsLate}

-- the number that is told of a refusal: of the frame's own, that of the frame's
abbrev pub number : Refusal → ℕ
number (Frame n) = n
number NoProgramme = 50
number NoLevel = 51
number EndsLate = 52

-- and of a check, where 0 says that nothing is refused
abbrev pub number_of : Result (Unit {0}) Refusal → ℕ
number_of (Ok fine) = 0
number_of (Err refusal) = number refusal
