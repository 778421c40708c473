-- What the results of `pack` and `unpack` are in numbers: a refusal's number, 0 for none, and how many bytes were written.
use Rattle.std.specs.Prelude.{ℕ, Result, Ok, Err}
use Rattle.packed.specs.declared.Refusal.{Refusal}
use Rattle.packed.specs.declared.Refusal.TheVariants.{Malformed, NeedlessGroup, TooLarge, Incomplete, Trailing, NoRoom, WrongValue}

abbrev pub number : Refusal → ℕ
number Malformed = 40
number NeedlessGroup = 41
number TooLarge = 42
number Incomplete = 43
number Trailing = 44
number NoRoom = 45
number WrongValue = 46

pub record Answer : Type 0 where
  pub refusal : ℕ
  pub written : ℕ

-- no two results have one answer
abbrev pub answer : Result ℕ Refusal → Answer
answer (Ok written) = record { refusal = 0; written = written }
answer (Err refusal) = record { refusal = number refusal; written = 0 }
