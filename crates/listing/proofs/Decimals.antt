-- The digits of a number, one step at a time: the bound on their count is never met. Assumes nothing.
use mathlib.Core.Path.{◌≡◌, ap, sym, ◌∙◌}
use mathlib.Core.Bool.{Bool, true, false, cond}
use mathlib.Core.List.{List, [], ◌∷◌, ◌++◌}
use Prim.Native.Nat.{ℕ, zero, suc, ◌+◌, ◌-◌, ◌/◌, ◌%◌, ◌^◌, ◌≤◌, ◌<◌, zero-le}
use native.Mathlib.Nat.{div-lt_iff_lt-mul, div-le_self, le-div_iff_mul-le}
use native.Mathlib.Omega.{arith}
use borrow.Author.Tests.{lt-ltb, le-ltb, eq-eqb, ne_eqb}
use lib.Dec.{lit<, lit≤, ltb}
use lib.ListN.{length, length-append}
use Rattle.listing.specs.Number.{decimal_in, decimal, signed}

decimal_enough : (f n : ℕ) → n < 10 ^ suc f → decimal_in (suc (suc f)) n ≡ decimal_in (suc f) n
unfolding decimal_in
decimal_enough zero n h = simp (lt-ltb n 10 (omega (arith, h)))
decimal_enough (suc f) n h =
    ap (λ (r : List ℕ). cond (ltb n 10) ((48 + n) ∷ []) (r ++ ((48 + n % 10) ∷ [])))
    (decimal_enough f (n / 10) ((div-lt_iff_lt-mul {k = 10} (lit< tt)).1 (omega (arith, h))))

pub decimal_small : {n : ℕ} → n < 10 → decimal n ≡ (48 + n) ∷ []
unfolding decimal decimal_in
decimal_small {n} h = simp (lt-ltb n 10 h)

pub decimal_large : {n : ℕ} → 10 ≤ n → n < 2 ^ 64 → decimal n ≡ decimal (n / 10) ++ ((48 + n % 10) ∷ [])
unfolding decimal decimal_in
decimal_large {n} h b =
    simp (le-ltb n 10 h)
    (ap (λ (r : List ℕ). r ++ ((48 + n % 10) ∷ []))
    (sym (decimal_enough 18 (n / 10) ((div-lt_iff_lt-mul {k = 10} (lit< tt)).1 (omega (arith, b))))))

pub signed_none : {v : ℕ} → v ≡ 0 → signed v ≡ 45 ∷ 49 ∷ []
unfolding signed
signed_none {v} h = simp (eq-eqb v 0 h)

pub signed_some : {v : ℕ} → (v ≡ 0 → ⊥) → signed v ≡ decimal (v - 1)
unfolding signed
signed_some {v} h = simp (ne_eqb v 0 h)

decimal_within : (f n : ℕ) → length (decimal_in f n) ≤ f
unfolding decimal_in
decimal_within zero n = zero-le
decimal_within (suc f) n = go (ltb n 10) (decimal_in f (n / 10)) (decimal_within f (n / 10))
  where
    go : (t : Bool) (l : List ℕ) → length l ≤ f → length (cond t ((48 + n) ∷ []) (l ++ ((48 + n % 10) ∷ []))) ≤ suc f
    go true l h = omega arith
    go false l h = omega (arith, length-append l ((48 + n % 10) ∷ []))

pub decimal_few : (n : ℕ) → length (decimal n) ≤ 20
unfolding decimal
decimal_few n = decimal_within 20 n

pub signed_digit : {v : ℕ} → ¬ (v ≡ 0) → v < 11 → signed v ≡ (47 + v) ∷ []
signed_digit {v} z h =
    let e : 48 + (v - 1) ≡ 47 + v = omega arith in
    signed_some z ∙ decimal_small (omega arith) ∙ ap (λ (d : ℕ). d ∷ []) e

pub decimal_two : {n : ℕ} → 10 ≤ n → n < 100 → decimal n ≡ (48 + n / 10) ∷ (48 + n % 10) ∷ []
decimal_two {n} h k =
    decimal_large h (omega arith)
    ∙ ap (λ (l : List ℕ). l ++ ((48 + n % 10) ∷ [])) (decimal_small ((div-lt_iff_lt-mul {k = 10} (lit< tt)).1 (omega arith)))

-- the last two digits of three or more
pub decimal_pair : {n : ℕ} → 10 ≤ n → 10 ≤ n / 10 → n < 2 ^ 64 → decimal n ≡ (decimal (n / 10 / 10) ++ ((48 + n / 10 % 10) ∷ [])) ++ ((48 + n % 10) ∷ [])
decimal_pair {n} h k b =
    decimal_large h b ∙ ap (λ (l : List ℕ). l ++ ((48 + n % 10) ∷ [])) (decimal_large k (omega (arith, div-le_self n 10, b)))

pub pair_length : {n : ℕ} → 10 ≤ n → 10 ≤ n / 10 → n < 2 ^ 64 → length (decimal n) ≡ length (decimal (n / 10 / 10)) + 2
pair_length {n} h k b =
    omega (
      arith,
      ap length (decimal_pair h k b),
      length-append (decimal (n / 10 / 10) ++ ((48 + n / 10 % 10) ∷ [])) ((48 + n % 10) ∷ []),
      length-append (decimal (n / 10 / 10)) ((48 + n / 10 % 10) ∷ []),
    )

ten_some : (k : ℕ) → 1 ≤ 10 ^ k
ten_some zero = lit≤ tt
ten_some (suc k) = omega (arith, ten_some k)

-- how many digits there are from one power of ten to the next
pub decimal_count : (k n : ℕ) → 10 ^ k ≤ n → n < 10 ^ suc k → n < 2 ^ 64 → length (decimal n) ≡ suc k
decimal_count zero n l h b = ap length (decimal_small (omega (arith, h)))
decimal_count (suc k) n l h b =
    let g : 10 ≤ n = omega (arith, l, ten_some k) in
    let e =
    decimal_count k (n / 10) ((le-div_iff_mul-le {k = 10} (lit< tt)).1 (omega (arith, l))) ((div-lt_iff_lt-mul {k = 10} (lit< tt)).1 (omega (arith, h)))
    (omega (arith, div-le_self n 10, b)) in
    omega (arith, ap length (decimal_large g b), length-append (decimal (n / 10)) ((48 + n % 10) ∷ []), e)
