-- A loop that fills a part of an array with what a list has, has written the list there. Assumes nothing.
use mathlib.Core.List.{List, [], ◌∷◌}
use mathlib.Core.Path.{◌≡◌, refl, ap, sym, ◌∙◌}
use Prim.Native.Nat.{ℕ, zero, suc, ◌+◌, ◌-◌, ◌≤◌, ◌<◌}
use native.Mathlib.Decide.{ℕ_discrete, dec_le, dec_lt}
use native.Mathlib.Omega.{arith}
use lib.ListN.{length, get_or, set, length-set}
use lib.Seq.{sets, length-sets, ext_get_or, get_or-set_same, get_or-set_other}
use Rattle.alloc.specs.Allocation.{from}
use Rattle.alloc.specs.Fills.{filled, Fills}
use Rattle.alloc.proofs.Filled.{filled_in, filled_below, filled_above, filled_empty, filled_same}
use Rattle.alloc.proofs.Noted.{from_at, from_length}

nothing : {A : Type 0} (l : List A) (i : ℕ) (g : ℕ → A) → l ≡ sets l i (from i 0 g)
unfolding from
nothing l i g = refl

module _ {A : Type 0} (d : A) where
  -- what a list that was written has at a place, and what stands elsewhere
  pub sets_at : (vs l : List A) (i k : ℕ) → i + length vs ≤ length l → get_or (sets l i vs) k d ≡ filled i (i + length vs) (λ j. get_or vs (j - i) d) (λ j. get_or l j d) k
  sets_at [] l i k h = sym (filled_empty (λ j. d) (λ j. get_or l j d) i (i + 0) (omega arith) k)
  sets_at (a ∷ vs) l i k h = sets_at vs (set l i a) (suc i) k (rw (length-set l i a) (omega arith)) ∙ by (dec_lt k i) (ℕ_discrete k i) (dec_lt k (i + suc (length vs)))
    where
      rest : ℕ → A
      rest j = get_or (set l i a) j d

      later : ℕ → A
      later j = get_or vs (j - suc i) d

      whole : ℕ → A
      whole j = get_or (a ∷ vs) (j - i) d

      old : ℕ → A
      old j = get_or l j d

      by : Dec (k < i) → Dec (k ≡ i) → Dec (k < i + suc (length vs)) → filled (suc i) (suc i + length vs) later rest k ≡ filled i (i + suc (length vs)) whole old k
      by (yes p) e q =
          filled_below later rest (suc i) (suc i + length vs) k (omega arith)
          ∙ get_or-set_other l i k a d (λ same. omega arith)
          ∙ sym (filled_below whole old i (i + suc (length vs)) k p)
      by (no p) (yes e) q =
          let none : k - i ≡ 0 = omega arith in
          filled_below later rest (suc i) (suc i + length vs) k (omega arith)
          ∙ ap rest e ∙ get_or-set_same l i a d (omega arith)
          ∙ sym (filled_in whole old i (i + suc (length vs)) k (omega arith) (omega arith) ∙ ap (λ (n : ℕ). get_or (a ∷ vs) n d) none)
      by (no p) (no e) (yes q) =
          let more : k - i ≡ suc (k - suc i) = omega arith in
          filled_in later rest (suc i) (suc i + length vs) k (omega arith) (omega arith)
          ∙ sym (filled_in whole old i (i + suc (length vs)) k (omega arith) q ∙ ap (λ (n : ℕ). get_or (a ∷ vs) n d) more)
      by (no p) (no e) (no q) =
          filled_above later rest (suc i) (suc i + length vs) k (omega arith)
          ∙ get_or-set_other l i k a d e
          ∙ sym (filled_above whole old i (i + suc (length vs)) k (omega arith))

  -- a list that was written is read back
  pub sets_back : (vs l : List A) (i : ℕ) → i + length vs ≤ length l → from i (length vs) (λ k. get_or (sets l i vs) k d) ≡ vs
  sets_back vs l i h =
      ext_get_or d _ vs (from_length _ (length vs) i)
      (λ k p.
      let long = from_length (λ j. get_or (sets l i vs) j d) (length vs) i in
      let back : i + k - i ≡ k = omega arith in
      from_at _ d (length vs) i k (omega arith)
      ∙ sets_at vs l i (i + k) h
      ∙ filled_in (λ j. get_or vs (j - i) d) (λ j. get_or l j d) i (i + length vs) (i + k) (omega arith) (omega arith)
      ∙ ap (λ (j : ℕ). get_or vs j d) back)

  -- what held of every entry, and holds of each that is written, still does
  set_all : (P : A → Type 0) (l : List A) (i : ℕ) (a : A) → ((k : ℕ) → P (get_or l k d)) → P a → (k : ℕ) → P (get_or (set l i a) k d)
  set_all P [] i a all one k = all k
  set_all P (x ∷ xs) zero a all one zero = one
  set_all P (x ∷ xs) zero a all one (suc k) = all (suc k)
  set_all P (x ∷ xs) (suc i) a all one zero = all 0
  set_all P (x ∷ xs) (suc i) a all one (suc k) = set_all P xs i a (λ j. all (suc j)) one k

  pub fills_sets : (g : ℕ → A) (first last : ℕ) {x y : List A} → last ≤ length x → Fills d first last g x y → y ≡ sets x first (from first (last - first) g)
  fills_sets g first last {x} {y} h f = by (dec_le first last)
    where
      by : Dec (first ≤ last) → y ≡ sets x first (from first (last - first) g)
      by (yes p) =
          let long = from_length g (last - first) first in
          let end : first + length (from first (last - first) g) ≡ last = omega arith in
          ext_get_or d y (sets x first (from first (last - first) g)) (f.long ∙ sym (length-sets x first (from first (last - first) g)))
          (λ k q.
          f.entries k
          ∙ filled_same g (λ j. get_or (from first (last - first) g) (j - first) d) (λ j. get_or x j d) first last
          (λ j r t. sym (from_at g d (last - first) first (j - first) (omega arith) ∙ ap g (omega arith))) k
          ∙ ap (λ (to : ℕ). filled first to (λ j. get_or (from first (last - first) g) (j - first) d) (λ j. get_or x j d) k) (sym end)
          ∙ sym (sets_at (from first (last - first) g) x first k (omega arith)))
      by (no p) =
          let none : last - first ≡ 0 = omega arith in
          ext_get_or d y x f.long (λ k q. f.entries k ∙ filled_empty g (λ j. get_or x j d) first last (omega arith) k)
          ∙ rw none (nothing x first g)

pub sets_all : {A : Type 0} (P : A → Type 0) (d : A) (vs l : List A) (i : ℕ) → ((k : ℕ) → P (get_or l k d)) → ((k : ℕ) → P (get_or vs k d)) → (k : ℕ) → P (get_or (sets l i vs) k d)
sets_all P d [] l i all each = all
sets_all P d (a ∷ vs) l i all each = sets_all P d vs (set l i a) (suc i) (set_all d P l i a all (each 0)) (λ k. each (suc k))
