-- An answer about a conversion as two numbers: the refusal, the bytes written.
use Rattle.std.specs.Prelude.{List, [], ◌∷◌, ℕ}
use Rattle.packed.specs.Answers.{Answer}

abbrev pub packing_numbers : Answer → List ℕ
packing_numbers a = a.refusal ∷ a.written ∷ []

-- the numbers of an answer, and the output after it
abbrev pub packing_told : Answer × List ℕ → List ℕ × List ℕ
packing_told x = (packing_numbers x.0, x.1)
