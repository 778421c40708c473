-- An answer about an index as two numbers: the refusal, the entries.
use Rattle.std.specs.Prelude.{List, [], ◌∷◌, ℕ, ℤ}
use Rattle.index.specs.Refusals.{Answer}

abbrev pub index_numbers : Answer → List ℕ
index_numbers a = a.refusal ∷ a.entries ∷ []

-- the numbers of an answer, and the index and the field room after it
abbrev pub index_told : (Answer × List ℕ) × List ℤ → (List ℕ × List ℕ) × List ℤ
index_told x = ((index_numbers x.0.0, x.0.1), x.1)
