-- The state of 6.2.2.4 after some bands, as the code's loops meet it. No part of the definition: contracts cite it. Assumes nothing.
use Rattle.std.specs.Prelude.{ℕ, zero, suc, ◌+◌, ◌-◌, ℤ}
use Rattle.alloc.specs.Allocation.{leak_step}
use Rattle.alloc.specs.declared.Gains.{Gains}
use Rattle.alloc.specs.declared.Leak.{Leak}

-- the state after n bands
unfoldable pub leak_after : Gains → (bndpsd : ℕ → ℤ) → (bndend first : ℕ) → Leak → (n : ℕ) → Leak
leak_after g bndpsd bndend first l zero = l
leak_after g bndpsd bndend first l (suc n) = leak_step g bndpsd bndend (first + n) (leak_after g bndpsd bndend first l n)

-- the excitation of a band
abbrev pub excite_at : Gains → (bndpsd : ℕ → ℤ) → (bndend first : ℕ) → Leak → (band : ℕ) → ℤ
excite_at g bndpsd bndend first l band = (leak_after g bndpsd bndend first l (suc (band - first))).excite
