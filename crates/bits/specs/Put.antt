-- Writing bits, most significant first. Bits past the last byte are not written.
use Rattle.std.specs.Prelude.{List, ◌⊎◌, ◌≡◌, ℕ, zero, suc, ◌+◌, ◌-◌, ◌*◌, ◌/◌, ◌%◌, ◌^◌, ◌≤◌, ◌<◌, length, get_or, set}
use Rattle.bits.specs.Bits.{bit_at, value}

-- a number with b for its bit of weight 2 ^ k
unfoldable pub with_bit : ℕ → ℕ → ℕ → ℕ
with_bit x k b = (x / 2 ^ k / 2 * 2 + b) * 2 ^ k + x % 2 ^ k

-- bit p becomes b
unfoldable pub put_bit : List ℕ → ℕ → ℕ → List ℕ
put_bit s p b = set s (p / 8) (with_bit (get_or s (p / 8) 0) (7 - p % 8) b)

-- the n bits from bit `at` on become the last n of v
unfoldable pub put : List ℕ → ℕ → ℕ → ℕ → List ℕ
put s at zero v = s
put s at (suc n) v = put (put_bit s (at + n) (v % 2)) at n (v / 2)

-- Those bits spell the value, every other bit is as it was, and what stands there already is not changed. `proofs/Writing.antt` proves it.
pub record Puts : Type 0 where
  pub spelt : (s : List ℕ) (at n v : ℕ) → at + n ≤ length s * 8 → value (put s at n v) at n ≡ v % 2 ^ n
  pub others : (s : List ℕ) (at n v p : ℕ) → (p < at) ⊎ (at + n ≤ p) → bit_at (put s at n v) p ≡ bit_at s p
  pub count : (s : List ℕ) (at n v : ℕ) → length (put s at n v) ≡ length s
  pub idle : (s : List ℕ) (at n v : ℕ) → value s at n ≡ v % 2 ^ n → put s at n v ≡ s
