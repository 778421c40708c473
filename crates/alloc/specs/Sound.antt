-- What bounds the allocation's parameters, so that the code's sums fit and its indexes are in range. No part of the
-- definition: contracts cite it. Assumes nothing.
use Rattle.std.specs.Prelude.{List, ℕ, ◌≤◌, ◌<◌, ℤ, pos, ◌≤ℤ◌}
use Rattle.signed.specs.Bound.{Below}
use Rattle.alloc.specs.Allocation.{at}
use Rattle.alloc.specs.declared.Leak.{Leak}
use Rattle.alloc.specs.declared.Parameters.{Parameters}

-- every exponent is one
abbrev pub Exponents : List ℤ → Type 0
Exponents exponents = (bin : ℕ) → (pos 0 ≤ℤ at exponents bin) × (at exponents bin ≤ℤ pos 24)

-- every level is below so many bits
abbrev pub Every : (bits : ℕ) → List ℤ → Type 0
Every bits levels = (k : ℕ) → Below bits (at levels k)

pub record SoundParameters (p : Parameters) : Type 0 where
  pub end : p.end ≤ 253
  pub fscod : p.fscod < 3
  pub count : p.count ≤ 8
  pub fastleak : Below 17 p.fastleak
  pub slowleak : Below 17 p.slowleak
  pub snroffset : Below 20 p.snroffset
  pub floor : Below 11 p.floor

-- the excitation's state is near enough to 0 for a step
pub record Bounded (l : Leak) : Type 0 where
  pub fast : Below 17 l.fast
  pub slow : Below 17 l.slow
  pub low : Below 9 l.low
