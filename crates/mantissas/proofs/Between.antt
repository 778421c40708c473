-- The entries of an array between two places, one by one: what a loop over them has left, and what a store adds. Assumes nothing.
use mathlib.Core.Bool.{Bool, true, false}
use mathlib.Core.List.{List, [], ◌∷◌, ◌++◌}
use mathlib.Core.Path.{◌≡◌, refl, ap, ap₂, ◌∙◌}
use Prim.Native.Nat.{ℕ, zero, suc, ◌+◌, ◌-◌, ◌≤◌, ◌<◌}
use native.Mathlib.Nat.{add-zero, zero-add, sub-zero, not-suc-le-zero, le_of_suc-le-suc}
use native.Mathlib.Numerals.{add-one}
use native.Mathlib.Omega.{arith}
use lib.Dec.{eqb}
use lib.ListN.{length, get_or, set, replicate}
use lib.Seq.{get_or-set_same, get_or-set_other}
use borrow.Author.Tests.{eqb-true, eqb-false}
use Rattle.alloc.specs.Allocation.{from}
use Rattle.alloc.proofs.Noted.{from_same}
use Rattle.mantissas.specs.Sound.{between}

module _ {A : Type 0} (f : ℕ → A) {i last : ℕ} where
  pub from_none : last ≤ i → from i (last - i) f ≡ []
  unfolding from
  from_none h = let m : last - i ≡ 0 = omega arith in rw m

  pub from_one : i < last → from i (last - i) f ≡ f i ∷ from (i + 1) (last - (i + 1)) f
  unfolding from
  from_one h = let m : last - i ≡ suc (last - (i + 1)) = omega arith in rw (m, add-one i)

module _ {A : Type 0} (d : A) (l : List A) {i last : ℕ} where
  pub between_none : last ≤ i → between d l i last ≡ []
  between_none = from_none (λ k. get_or l k d)

  pub between_one : i < last → between d l i last ≡ get_or l i d ∷ between d l (i + 1) last
  between_one = from_one (λ k. get_or l k d)

module _ {A : Type 0} where
  -- an entry that is there is the same whatever stands for one past the end
  pub same_entry_lem : (l : List A) (i : ℕ) (d e : A) → i < length l → get_or l i d ≡ get_or l i e
  same_entry_lem [] i d e h = absurd (not-suc-le-zero h)
  same_entry_lem (a ∷ l) zero d e h = refl
  same_entry_lem (a ∷ l) (suc i) d e h = same_entry_lem l i d e (le_of_suc-le-suc h)

  from_last : (f : ℕ → A) (n first : ℕ) → from first (suc n) f ≡ from first n f ++ (f (first + n) ∷ [])
  unfolding from
  from_last f zero first = rw (add-zero first)
  from_last f (suc n) first = let e : first + suc n ≡ suc first + n = omega arith in ap (λ t. f first ∷ t) (rw e (from_last f n (suc first)))

  pub from_constant : (a : A) (n first : ℕ) → from first n (λ _. a) ≡ replicate n a
  unfolding from
  from_constant a zero first = refl
  from_constant a (suc n) first = ap (λ t. a ∷ t) (from_constant a n (suc first))

  -- a store at the place after the last adds an entry
  pub between_store : (d : A) (l : List A) (n : ℕ) (v : A) → n < length l → between d (set l n v) 0 (n + 1) ≡ between d l 0 n ++ (v ∷ [])
  between_store d l n v h =
      rw (add-one n, sub-zero (suc n), sub-zero n)
      (from_last (λ k. get_or (set l n v) k d) n 0
      ∙ ap₂ (λ t x. t ++ (x ∷ [])) (from_same _ _ n 0 (λ k p q. get_or-set_other l n k v d (λ e. omega arith))) (ap (λ k. get_or (set l n v) k d) (zero-add n) ∙ get_or-set_same l n v d h))

-- what holds before a place, and there, holds before the next
pub one_further : {P : ℕ → Type 0} {i : ℕ} → ((k : ℕ) → k < i → P k) → P i → (k : ℕ) → k < i + 1 → P k
one_further {P} {i} before here k h = go (eqb k i) refl
  where
    go : (b : Bool) → eqb k i ≡ b → P k
    go true e = rw (eqb-true k i e) here
    go false e = let other : k ≡ i → ⊥ = eqb-false k i e in before k (omega arith)
