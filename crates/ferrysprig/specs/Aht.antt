-- An answer about an AHT section as three numbers: 0, the end bit and the GAQ tags; or the number of the refusal and zeros.
use Rattle.std.specs.Prelude.{List, [], ◌∷◌, ℕ}
use Rattle.aht.specs.Walk.{Outcome, reached, refused, number}

abbrev pub aht_numbers : Outcome ℕ → List ℕ
aht_numbers (reached tags end) = 0 ∷ end ∷ tags ∷ []
aht_numbers (refused refusal) = number refusal ∷ 0 ∷ 0 ∷ []
