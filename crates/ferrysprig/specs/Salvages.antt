-- An answer about a salvage as three numbers: the refusal, the list entries, the bytes written.
use Rattle.std.specs.Prelude.{List, [], ◌∷◌, ℕ, ℤ}
use Rattle.salvage.specs.Refusals.{Answer}

abbrev pub salvage_numbers : Answer → List ℕ
salvage_numbers a = a.refusal ∷ a.entries ∷ a.bytes ∷ []

-- the numbers of an answer, and the list, the output and the field room after it
abbrev pub salvage_told : (Answer × (List ℕ × List ℕ)) × List ℤ → (List ℕ × (List ℕ × List ℕ)) × List ℤ
salvage_told x = ((salvage_numbers x.0.0, x.0.1), x.1)
