-- A conversion byte by byte: the state after a run of bytes, and what is told on the way.
use Rattle.std.specs.Prelude.{List, [], ◌∷◌, ◌++◌, ℕ}

-- the state after the bytes
abbrev pub after : {S : Type 0} → (S → ℕ → S) → S → List ℕ → S
after step s [] = s
after step s (b ∷ bs) = after step (step s b) bs

-- what is told at each of the bytes, in order
abbrev pub told : {S A : Type 0} → (S → ℕ → S) → (S → ℕ → List A) → S → List ℕ → List A
told step tell s [] = []
told step tell s (b ∷ bs) = tell s b ++ told step tell (step s b) bs
