-- The bins of a set of exponents: an exponent stands for 1, 2 or 4 of them, and the groups end within the 256 of a row. Assumes nothing.
use Prim.Native.Nat.{ℕ, zero, suc, ◌+◌, ◌*◌, ◌-◌, ◌/◌, ◌<◌, ◌≤◌}
use native.Mathlib.Nat.{mul-le-mul_right, suc-mul}
use native.Mathlib.Omega.{arith}
use mathlib.Core.Path.{◌≡◌, refl}
use mathlib.Core.Bool.{Bool, true, false, cond, ◌||◌, true≢false}
use mathlib.Core.Logic.{◌⊎◌, inl, inr}
use lib.Dec.{eqb, ltb, lit≤}
use borrow.Author.Tests.{ltb-false}
use Rattle.slots.specs.Slots.{CPL, LFE}
use Rattle.exponents.specs.Exponents.{bins_each, group_count, first_grouped}

abbrev OneTwoFour : ℕ → Type 0
OneTwoFour b = (b ≡ 1) ⊎ ((b ≡ 2) ⊎ (b ≡ 4))

one_two_four : (strategy : ℕ) → strategy < 4 → OneTwoFour (bins_each strategy)
one_two_four zero h = inl refl
one_two_four (suc zero) h = inl refl
one_two_four (suc (suc zero)) h = inr (inl refl)
one_two_four (suc (suc (suc zero))) h = inr (inr refl)
one_two_four (suc (suc (suc (suc n)))) h = absurd (omega arith)

-- the same as bounds, for sums: strategy 2 has 2 at least, strategy 3 has 4
pub bins_bounds : (strategy : ℕ) → strategy < 4 → (1 ≤ bins_each strategy) × ((2 * strategy ≤ bins_each strategy + 2) × (bins_each strategy ≤ 4))
bins_bounds zero h = (lit≤ tt, (lit≤ tt, lit≤ tt))
bins_bounds (suc zero) h = (lit≤ tt, (lit≤ tt, lit≤ tt))
bins_bounds (suc (suc zero)) h = (lit≤ tt, (lit≤ tt, lit≤ tt))
bins_bounds (suc (suc (suc zero))) h = (lit≤ tt, (lit≤ tt, lit≤ tt))
bins_bounds (suc (suc (suc (suc n)))) h = absurd (omega arith)

-- the groups of a set end within its row
pub within : (slot strategy start end : ℕ) → strategy < 4 → start < 254 → end < 254
    → first_grouped slot start + group_count slot strategy start end * (3 * bins_each strategy) ≤ 256
within slot strategy start end h i k = go (eqb slot CPL) (eqb slot LFE) (bins_each strategy) (one_two_four strategy h)
  where
    go : (x y : Bool) (b : ℕ) → OneTwoFour b
        → cond x start 1 + cond x ((end - start) / (3 * b)) (cond y 2 ((end - 1 + 3 * b - 3) / (3 * b))) * (3 * b) ≤ 256
    go true y b (inl e) = rw e (omega arith)
    go true y b (inr (inl e)) = rw e (omega arith)
    go true y b (inr (inr e)) = rw e (omega arith)
    go false true b (inl e) = rw e (omega arith)
    go false true b (inr (inl e)) = rw e (omega arith)
    go false true b (inr (inr e)) = rw e (omega arith)
    go false false b (inl e) = rw e (omega arith)
    go false false b (inr (inl e)) = rw e (omega arith)
    go false false b (inr (inr e)) = rw e (omega arith)

-- each group fits where all do
pub group_fits : (first n count width : ℕ) → n < count → first + count * width ≤ 256 → first + n * width + width ≤ 256
group_fits first n count width h k = omega (arith, mul-le-mul_right width h, suc-mul n width)

-- and has a number below 255, which stands for no part
pub group_numbered : (first n strategy : ℕ) → strategy < 4 → first + n * (3 * bins_each strategy) + 3 * bins_each strategy ≤ 256 → n < 255
group_numbered first n strategy h k = go (bins_each strategy) (one_two_four strategy h) k
  where
    go : (b : ℕ) → OneTwoFour b → first + n * (3 * b) + 3 * b ≤ 256 → n < 255
    go b (inl e) k = let all = rw e at k in omega (arith, all)
    go b (inr (inl e)) k = let all = rw e at k in omega (arith, all)
    go b (inr (inr e)) k = let all = rw e at k in omega (arith, all)

-- an exponent that is 2 too high, and was not refused
pub inside : (raised : ℕ) → (ltb raised 2 || ltb 26 raised) ≡ false → (2 ≤ raised) × (raised ≤ 26)
inside n = go (ltb n 2) (ltb 26 n) refl refl
  where
    go : (a b : Bool) → ltb n 2 ≡ a → ltb 26 n ≡ b → (a || b) ≡ false → (2 ≤ n) × (n ≤ 26)
    go false false p q e = (ltb-false n 2 p, ltb-false 26 n q)
    go false true p q e = absurd (true≢false e)
    go true b p q e = absurd (true≢false e)
