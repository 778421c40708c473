-- An answer about a burst as three numbers: the refusal, the rows that the parse left, the bytes written.
use Rattle.std.specs.Prelude.{List, [], ◌∷◌, map, ℕ, ℤ, pos}
use Rattle.burst.specs.Answers.{Answer}

unfoldable pub burst_in_order : Answer → List ℕ
burst_in_order a = a.refusal ∷ a.rows ∷ a.bytes ∷ []

unfoldable pub burst_numbers : Answer → List ℤ
burst_numbers a = map pos (burst_in_order a)

-- the numbers of an answer, and the field room and the output after it
abbrev pub burst_told : Answer × (List ℤ × List ℕ) → List ℤ × (List ℤ × List ℕ)
burst_told x = (burst_numbers x.0, x.1)
