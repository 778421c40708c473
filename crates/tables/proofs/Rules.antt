-- Rules of tables, computed once over the whole table and carried to every entry: one whose entries are at most or at least a bound, and
-- one that falls by at most one from entry to entry. Assumes nothing.
use mathlib.Core.Bool.{Bool, true, ◌&&◌}
use mathlib.Core.List.{List, [], ◌∷◌}
use Prim.Native.Nat.{ℕ, zero, suc, ◌≤◌, ◌<◌, ◌^◌, zero-le}
use native.Mathlib.Nat.{le_trans, not-suc-le-zero, le_of_suc-le-suc}
use lib.Dec.{T, leb, ltb, leb→le, ltb→lt}
use lib.IntN.{ℤ, pos}
use lib.ListN.{length, get_or}
use lib.Pow.{pow_pos}
use lib.Signed.{mag}
use store.Enc.{and_l, and_r}
use Rattle.signed.specs.Bound.{Below}

-- each entry is at most n
abbrev pub small : ℕ → List ℕ → Bool
small n [] = true
small n (y ∷ ys) = leb y n && small n ys

pub small_at : (n : ℕ) (ys : List ℕ) → T (small n ys) → (k : ℕ) → get_or ys k 0 ≤ n
small_at n [] t k = zero-le
small_at n (y ∷ ys) t zero = leb→le y n (and_l (leb y n) (small n ys) t)
small_at n (y ∷ ys) t (suc k) = small_at n ys (and_r (leb y n) (small n ys) t) k

-- each entry is at least n
abbrev pub large : ℕ → List ℕ → Bool
large n [] = true
large n (y ∷ ys) = leb n y && large n ys

pub large_at : (n : ℕ) (ys : List ℕ) → T (large n ys) → (k : ℕ) → k < length ys → n ≤ get_or ys k 0
large_at n [] t k h = absurd (not-suc-le-zero h)
large_at n (y ∷ ys) t zero h = leb→le n y (and_l (leb n y) (large n ys) t)
large_at n (y ∷ ys) t (suc k) h = large_at n ys (and_r (leb n y) (large n ys) t) k (le_of_suc-le-suc h)

-- each entry is below k bits
abbrev pub near : ℕ → List ℤ → Bool
near k [] = true
near k (z ∷ zs) = ltb (mag z) (2 ^ k) && near k zs

pub near_at : (k : ℕ) (zs : List ℤ) → T (near k zs) → (n : ℕ) → Below k (get_or zs n (pos 0))
near_at k [] t n = record { below = pow_pos k }
near_at k (z ∷ zs) t zero = record { below = ltb→lt (mag z) (2 ^ k) (and_l (ltb (mag z) (2 ^ k)) (near k zs) t) }
near_at k (z ∷ zs) t (suc n) = near_at k zs (and_r (ltb (mag z) (2 ^ k)) (near k zs) t) n

-- each entry equals the one before it or is one less; x stands before the first
abbrev pub falls : ℕ → List ℕ → Bool
falls x [] = true
falls x (y ∷ ys) = leb y x && (leb x (suc y) && falls y ys)

entry : (x y : ℕ) (ys : List ℕ) → y ≤ x → ((k : ℕ) → get_or ys k 0 ≤ y) → (k : ℕ) → get_or (y ∷ ys) k 0 ≤ x
entry x y ys h all zero = h
entry x y ys h all (suc k) = le_trans (all k) h

pub falls_le : (x : ℕ) (ys : List ℕ) → T (falls x ys) → (k : ℕ) → get_or ys k 0 ≤ x
falls_le x [] t k = zero-le
falls_le x (y ∷ ys) t k =
    let first = leb→le y x (and_l (leb y x) (leb x (suc y) && falls y ys) t) in
    let rest = and_r (leb x (suc y)) (falls y ys) (and_r (leb y x) (leb x (suc y) && falls y ys) t) in
    entry x y ys first (falls_le y ys rest) k
