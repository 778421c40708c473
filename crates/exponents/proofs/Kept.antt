-- What is kept by one step after the other. Assumes nothing.
use mathlib.Core.List.{List}
use mathlib.Core.Path.{◌∙◌}
use Prim.Native.Nat.{ℕ}
use lib.IntN.{ℤ}
use Rattle.slots.specs.Reused.{Keeps}

pub after : {Reused : ℕ → Type 0} {e₀ e₁ e₂ : List (List ℤ)} → Keeps Reused e₀ e₁ → Keeps Reused e₁ e₂ → Keeps Reused e₀ e₂
after f g = record { each = λ slot h. g.each slot h ∙ f.each slot h }
