-- The refusals of an index.
use Rattle.std.specs.Prelude.{ℕ, Result, Ok, Err}
use Rattle.index.specs.declared.outcome.Refusal.{Refusal}
use Rattle.index.specs.declared.outcome.Refusal.TheVariants.{NoFields, NoRoom, NotThere}

-- the number that is told of one
abbrev pub number : Refusal → ℕ
number NoFields = 37
number NoRoom = 55
number NotThere = 56

-- 0 or the number of the refusal, and how many entries there are
pub record Answer : Type 0 where
  pub refusal : ℕ
  pub entries : ℕ

-- what is told of a call that was given so many entries: a refusal leaves as many
abbrev pub as_numbers : (entries : ℕ) → Result ℕ Refusal → Answer
as_numbers entries (Ok made) = record { refusal = 0; entries = made }
as_numbers entries (Err refusal) = record { refusal = number refusal; entries = entries }
