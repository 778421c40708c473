-- What is told of a salvage, as numbers: of a refusal, of an entry's kind, and of how a salvage ended.
use Rattle.std.specs.Prelude.{ℕ, Result, Ok, Err}
use Rattle.salvage.specs.declared.outcome.Done.{Done}
use Rattle.salvage.specs.declared.outcome.Kind.{Kind}
use Rattle.salvage.specs.declared.outcome.Kind.TheVariants.{Frame, Gap}
use Rattle.salvage.specs.declared.outcome.Refusal.{Refusal}
use Rattle.salvage.specs.declared.outcome.Refusal.TheVariants.{NoOutput, NoEntry, NoFields}
use Rattle.salvage.specs.declared.outcome.Refused.{Refused}

abbrev pub number : Refusal → ℕ
number NoOutput = 35
number NoEntry = 36
number NoFields = 37

abbrev pub kind_number : Kind → ℕ
kind_number Frame = 0
kind_number Gap = 1

-- 0 or the number of the refusal, how many entries are listed, and how many bytes are written
pub record Answer : Type 0 where
  pub refusal : ℕ
  pub entries : ℕ
  pub bytes : ℕ

-- after a step, and what was done up to then
abbrev pub so_far : Result (Unit {0}) Refusal → Done → Answer
so_far (Ok fine) done = record { refusal = 0; entries = done.entries; bytes = done.bytes }
so_far (Err refusal) done = record { refusal = number refusal; entries = done.entries; bytes = done.bytes }

-- before one
abbrev pub going : Done → Answer
going done = so_far (Ok tt) done

-- and of a whole salvage
abbrev pub as_numbers : Result Done Refused → Answer
as_numbers (Ok done) = going done
as_numbers (Err r) = so_far (Err r.refusal) r.done
