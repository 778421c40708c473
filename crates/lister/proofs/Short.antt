-- A number of 32 signed bits has at most ten digits, so with what stands after it at most eleven bytes. Assumes nothing.
use mathlib.Core.List.{List, [], ◌∷◌, ◌++◌, append-nil, append_assoc}
use mathlib.Core.Path.{◌≡◌, sym, ap, ◌∙◌}
use Prim.Native.Nat.{ℕ, zero, suc, ◌+◌, ◌-◌, ◌*◌, ◌/◌, ◌%◌, ◌^◌, ◌≤◌, ◌<◌}
use native.Mathlib.Decide.{dec_le}
use native.Mathlib.Nat.{div-lt_iff_lt-mul}
use native.Mathlib.Omega.{arith}
use borrow.Author.Tests.{ne_eqb}
use lib.Dec.{lit<}
use lib.ListN.{length, length-append}
use Rattle.listing.specs.Number.{decimal, signed, separator}
use Rattle.listing.specs.Listing.{Each, line}
use Rattle.listing.proofs.Decimals.{decimal_small, decimal_large, signed_none, signed_some}

-- numbers that fit
abbrev pub AllFit : List ℕ → Type 0
AllFit vs = Each (λ v. v ≤ 2147483648) vs

digits : (k n : ℕ) → n < 10 ^ suc k → n < 2 ^ 64 → length (decimal n) ≤ suc k
digits zero n h b = omega (arith, ap length (decimal_small {n = n} (omega arith)))
digits (suc k) n h b = go (dec_le 10 n) (digits k (n / 10) ((div-lt_iff_lt-mul {k = 10} (lit< tt)).1 (omega (arith, h))) (omega arith))
  where
    go : Dec (10 ≤ n) → length (decimal (n / 10)) ≤ suc k → length (decimal n) ≤ suc (suc k)
    go (Dec.no small) shorter = omega (arith, ap length (decimal_small {n = n} (omega arith)))
    go (Dec.yes large) shorter = omega (arith, ap length (decimal_large {n = n} large b), length-append (decimal (n / 10)) ((48 + n % 10) ∷ []))

signed_short : (v : ℕ) → v ≤ 2147483648 → length (signed v) ≤ 10
signed_short v h = go (dec_le 1 v)
  where
    go : Dec (1 ≤ v) → length (signed v) ≤ 10
    go (Dec.no none) = omega (arith, ap length (signed_none {v = v} (omega arith)))
    go (Dec.yes some) = omega (arith, ap length (signed_some {v = v} (λ e. omega arith)), digits 9 (v - 1) (omega arith) (omega arith))

-- a number and what stands after it, where so many follow on its line
abbrev pub ended : (v left : ℕ) → List ℕ
ended v left = signed v ++ (separator left ∷ [])

pub ended_short : (v left : ℕ) → v ≤ 2147483648 → length (ended v left) ≤ 11
ended_short v left h = omega (arith, length-append (signed v) (separator left ∷ []), signed_short v h)

space : (n : ℕ) → 32 ≡ separator (suc n)
space n = simp (ne_eqb (suc n) 0 (λ e. omega arith))

-- a line is its first number with what stands after it, and the line of the others
pub line_cons : (v : ℕ) (vs : List ℕ) → line (v ∷ vs) ≡ ended v (length vs) ++ line vs
line_cons v [] = sym (append-nil _)
line_cons v (w ∷ ws) = sym (append_assoc (signed v) (32 ∷ []) (line (w ∷ ws))) ∙ ap (λ b. (signed v ++ (b ∷ [])) ++ line (w ∷ ws)) (space (length ws))

pub line_short : (vs : List ℕ) → AllFit vs → length (line vs) ≤ length vs * 11
line_short [] fit = omega arith
line_short (v ∷ vs) fit =
    omega (arith, ap length (line_cons v vs), length-append (ended v (length vs)) (line vs), ended_short v (length vs) fit.0, line_short vs fit.1)
