-- The larger of two signed numbers: std's word and the standard's are one. Assumes nothing.
use Rattle.std.proofs.Common.{◌≡◌, ◌∙◌, ℤ, arith}
use Rattle.std.proofs.lemmas.Grind.{common_steps}
use Rattle.std.specs.Int.{int_max}
use Rattle.signed.specs.Level.{max_z}

same : (a b : ℤ) → int_max a b ≡ max_z a b
same a b = grind (arith, common_steps)

-- what a call of `max` gave
pub larger : (a b : ℤ) {z : ℤ} → z ≡ int_max a b → z ≡ max_z a b
larger a b e = e ∙ same a b
