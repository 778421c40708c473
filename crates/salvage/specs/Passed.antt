-- The places that a walk over a capture need not parse (no part of the definition): no sync word stands there, and the six bytes that a parse looks at
-- first are there at the next place too.
use Rattle.std.specs.Prelude.{Bool, true, false, List, ◌≡◌, ℕ, ◌+◌, ◌≤◌, ◌<◌, eqb, length, drop}
use Rattle.bits.specs.Bits.{value}

abbrev pub is_sync : (capture : List ℕ) (place : ℕ) → Bool
is_sync capture place = eqb (value (drop place capture) 0 16) 0x0B77

pub record Passed (capture : List ℕ) (from to : ℕ) : Type 0 where
  pub onward : from ≤ to
  pub unsynced : (place : ℕ) → from ≤ place → place < to → (place + 6 < length capture) × (is_sync capture place ≡ false)

-- and the first one that is worth a parse
pub record NextPlace (capture : List ℕ) (from to : ℕ) : Type 0 where
  pub passed : Passed capture from to
  pub worth : to + 6 < length capture → is_sync capture to ≡ true
