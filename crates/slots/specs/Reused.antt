-- Which slots' exponents a block leaves as they were: what was made of these stays true. Contracts cite it. No part of the definition.
use Rattle.std.specs.Prelude.{cond, List, [], ◌≡◌, ℕ, eqb, ℤ, get_or}
use Rattle.slots.specs.Slots.{CPL, LFE}
use Rattle.slots.specs.declared.Strategies.{Strategies}

-- the strategy of a slot: 0 where it is not in use, since nothing was read for it then
abbrev pub strategy_of : Strategies → (slot : ℕ) → ℕ
strategy_of s slot = cond (eqb slot CPL) s.cplexpstr (cond (eqb slot LFE) s.lfeexpstr (get_or s.chexpstr slot 0))

-- from exponents to later ones: the slots of a kind have theirs as they were
pub record Keeps (Reused : ℕ → Type 0) (exps exps' : List (List ℤ)) : Type 0 where
  pub each : (slot : ℕ) → Reused slot → get_or exps' slot [] ≡ get_or exps slot []

-- the slots that a block reuses; and, where one slot is read, all others with it
abbrev pub ReusedBy : Strategies → ℕ → Type 0
ReusedBy s slot = strategy_of s slot ≡ 0

abbrev pub ReusedBut : (slot strategy : ℕ) → ℕ → Type 0
ReusedBut slot strategy other = other ≡ slot → strategy ≡ 0
