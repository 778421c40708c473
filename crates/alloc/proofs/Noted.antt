-- What is noted of a function is the function, between the two places; and what the bands leave one after the other is what they leave by number.
-- Assumes nothing.
use mathlib.Core.List.{List, [], ◌∷◌}
use mathlib.Core.Path.{◌≡◌, refl, ap, ap₂, sym, ◌∙◌}
use Prim.Native.Nat.{ℕ, zero, suc, ◌+◌, ◌-◌, ◌≤◌, ◌<◌}
use native.Mathlib.Decide.{dec_le, dec_lt}
use native.Mathlib.Nat.{add-zero}
use native.Mathlib.Omega.{arith}
use lib.IntN.{ℤ, pos}
use lib.ListN.{length, get_or}
use borrow.Author.Tests.{le-leb, lt-leb}
use Rattle.alloc.specs.Allocation.{at, from, placed, noted, leak_step, excitations}
use Rattle.alloc.specs.Fills.{within}
use Rattle.alloc.specs.Leaks.{leak_after}
use Rattle.alloc.specs.declared.Gains.{Gains}
use Rattle.alloc.specs.declared.Leak.{Leak}
use Rattle.alloc.proofs.Filled.{everywhere, filled_in, filled_above, filled_below}

module _ {A : Type 0} (f : ℕ → A) (d : A) where
  pub from_at : (n first i : ℕ) → i < n → get_or (from first n f) i d ≡ f (first + i)
  unfolding from
  from_at zero first i h = absurd (omega arith)
  from_at (suc n) first zero h = rw add-zero
  from_at (suc n) first (suc i) h = from_at n (suc first) i (omega arith) ∙ ap f (omega arith)

  from_past : (n first i : ℕ) → n ≤ i → get_or (from first n f) i d ≡ d
  unfolding from
  from_past zero first i h = refl
  from_past (suc n) first zero h = absurd (omega arith)
  from_past (suc n) first (suc i) h = from_past n (suc first) i (omega arith)

pub from_none : {A : Type 0} (first : ℕ) (f : ℕ → A) → from first 0 f ≡ []
unfolding from
from_none first f = refl

-- what holds of every place, and of what stands past the list, holds of the list
pub from_all : {A : Type 0} (P : A → Type 0) (f : ℕ → A) (d : A) → P d → ((k : ℕ) → P (f k)) → (n first i : ℕ) → P (get_or (from first n f) i d)
unfolding from
from_all P f d past all zero first i = past
from_all P f d past all (suc n) first zero = all first
from_all P f d past all (suc n) first (suc i) = from_all P f d past all n (suc first) i

pub from_length : {A : Type 0} (f : ℕ → A) (n first : ℕ) → length (from first n f) ≡ n
unfolding from
from_length f zero first = refl
from_length f (suc n) first = ap suc (from_length f n (suc first))

pub from_same : {A : Type 0} (f g : ℕ → A) (n first : ℕ) → ((k : ℕ) → first ≤ k → k < first + n → f k ≡ g k) → from first n f ≡ from first n g
unfolding from
from_same f g zero first h = refl
from_same f g (suc n) first h = ap₂ ◌∷◌ (h first (omega arith) (omega arith)) (from_same f g n (suc first) (λ k p q. h k (omega arith) (omega arith)))

-- ---- what stands at a place

pub placed_in : (first : ℕ) (values : List ℤ) (k : ℕ) → first ≤ k → placed first values k ≡ at values (k - first)
unfolding placed
placed_in first values k h = rw (le-leb first k h)

placed_below : (first : ℕ) (values : List ℤ) (k : ℕ) → k < first → placed first values k ≡ pos 0
unfolding placed
placed_below first values k h = rw (lt-leb first k h)

module _ (first last : ℕ) (f : ℕ → ℤ) where
  pub noted_in : (k : ℕ) → first ≤ k → k < last → noted first last f k ≡ f k
  noted_in k p q =
      placed_in first (from first (last - first) f) k p
      ∙ from_at f (pos 0) (last - first) first (k - first) (omega arith)
      ∙ ap f (omega arith)

  pub noted_at : (k : ℕ) → noted first last f k ≡ within (pos 0) first last f k
  noted_at k = by (dec_le first k) (dec_lt k last)
    where
      by : Dec (first ≤ k) → Dec (k < last) → noted first last f k ≡ within (pos 0) first last f k
      by (yes p) (yes q) = noted_in k p q ∙ sym (filled_in f (λ _. pos 0) first last k p q)
      by (yes p) (no q) =
          placed_in first (from first (last - first) f) k p
          ∙ from_past f (pos 0) (last - first) first (k - first) (omega arith)
          ∙ sym (filled_above f (λ _. pos 0) first last k (omega arith))
      by (no p) q = placed_below first (from first (last - first) f) k (omega arith) ∙ sym (filled_below f (λ _. pos 0) first last k (omega arith))

  pub noted_is : noted first last f ≡ within (pos 0) first last f
  noted_is = everywhere noted_at

-- ---- the excitation

module _ (g : Gains) (bndpsd : ℕ → ℤ) (bndend : ℕ) where
  -- one band, and then n more
  leak_first : (band : ℕ) (l : Leak) (n : ℕ) → leak_after g bndpsd bndend (suc band) (leak_step g bndpsd bndend band l) n ≡ leak_after g bndpsd bndend band l (suc n)
  unfolding leak_after
  leak_first band l zero = rw add-zero
  leak_first band l (suc n) = ap₂ (leak_step g bndpsd bndend) (omega arith) (leak_first band l n)

  pub excitation_at : (n band : ℕ) (l : Leak) (k : ℕ) → k < n → at (excitations g bndpsd bndend band n l) k ≡ (leak_after g bndpsd bndend band l (suc k)).excite
  unfolding excitations leak_after
  excitation_at zero band l k h = absurd (omega arith)
  excitation_at (suc n) band l zero h = rw add-zero
  excitation_at (suc n) band l (suc k) h =
      excitation_at n (suc band) (leak_step g bndpsd bndend band l) k (omega arith) ∙ ap (λ (x : Leak). x.excite) (leak_first band l (suc k))
