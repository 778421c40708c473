-- Only three codes of the sample rate have frames. Assumes nothing.
use Prim.Native.Nat.{ℕ, zero, suc, ◌<◌}
use native.Mathlib.Omega.{arith}
use mathlib.Core.Path.{◌≡◌, refl}
use Rattle.tables.specs.Tables.{frame_bytes}

pub rated : (fscod frmsizecod : ℕ) → (frame_bytes fscod frmsizecod ≡ 0 → ⊥) → fscod < 3
unfolding frame_bytes
rated zero code h = omega arith
rated (suc zero) code h = omega arith
rated (suc (suc zero)) code h = omega arith
rated (suc (suc (suc n))) code h = absurd (h refl)
