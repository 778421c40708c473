-- Two bytes spell their word, most significant first. Assumes nothing.
use mathlib.Core.List.{List}
use mathlib.Core.Path.{◌≡◌, refl, sym, ap, ◌∙◌}
use Prim.Native.Nat.{ℕ, ◌+◌, ◌*◌, ◌%◌, ◌^◌, ◌<◌}
use native.Mathlib.Omega.{arith}
use lib.Bits.{bit_or, or_shifted}
use lib.ListN.{get_or}
use Rattle.bits.specs.Bits.{value}
use Rattle.bits.proofs.Window.{window_2}

pub spelt : (s : List ℕ) (k : ℕ) → get_or s k 0 < 256 → get_or s (k + 1) 0 < 256 → value s (k * 8) 16 ≡ get_or s k 0 * 256 + get_or s (k + 1) 0
spelt s k high low =
    let whole : get_or s k 0 * 256 % 4294967296 ≡ get_or s k 0 * 2 ^ 8 = omega arith in
    sym (window_2 s k (refl, high) (refl, low)) ∙ ap (λ a. bit_or a (get_or s (k + 1) 0)) whole ∙ or_shifted (get_or s k 0) 8 (get_or s (k + 1) 0) low ∙ omega arith
