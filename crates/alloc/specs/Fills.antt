-- What a loop that fills a part of an array promises. No part of the definition: contracts cite it. Assumes nothing.
use Rattle.std.specs.Prelude.{◌&&◌, cond, ◌≡◌, List, ℕ, leb, ltb, length, get_or}

-- g from one place up to another, and what was there before outside
abbrev pub filled : {A : Type 0} → ℕ → ℕ → (ℕ → A) → (ℕ → A) → ℕ → A
filled from to g before k = cond (leb from k && ltb k to) (g k) (before k)

-- g from one place up to another, and d outside
abbrev pub within : {A : Type 0} → A → ℕ → ℕ → (ℕ → A) → ℕ → A
within d from to g = filled from to g (λ _. d)

-- g stands from one place up to another, and what stood there before everywhere else
pub record Fills {A : Type 0} (d : A) (from to : ℕ) (g : ℕ → A) (before after : List A) : Type 0 where
  pub long : length after ≡ length before
  pub entries : (k : ℕ) → get_or after k d ≡ filled from to g (λ j. get_or before j d) k
