-- An answer about the profile as four numbers: the refusal, the rows that the parse left, the rule that is broken, counted from 1, and the
-- row that breaks it. Rule and row are 0 where no rule is broken.
use Rattle.std.specs.Prelude.{List, [], ◌∷◌, map, ℕ, ℤ, pos}
use Rattle.profile.specs.Answers.{Answer, numbers_of}

unfoldable pub profile_in_order : Answer → List ℕ
profile_in_order a = let n = numbers_of a.verdict in n.refusal ∷ a.rows ∷ n.rule ∷ n.row ∷ []

unfoldable pub profile_numbers : Answer → List ℤ
profile_numbers a = map pos (profile_in_order a)

-- the numbers of an answer, and the field room after it
abbrev pub profile_told : Answer × List ℤ → List ℤ × List ℤ
profile_told x = (profile_numbers x.0, x.1)
