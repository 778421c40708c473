-- An answer about a level correction as three numbers: the refusal, the rows that the parse left, the changes listed.
use Rattle.std.specs.Prelude.{List, [], ◌∷◌, ℕ, ℤ, pos}
use Rattle.level.specs.Level.{Answer, Left}

unfoldable pub level_numbers : Answer → List ℤ
level_numbers a = pos a.refusal ∷ pos a.rows ∷ pos a.changes ∷ []

-- the numbers of an answer, and the list of changes, the field room and the capture after it
abbrev pub level_told : Left → List ℤ × (List ℤ × (List ℤ × List ℕ))
level_told x = (level_numbers x.0, x.1)
