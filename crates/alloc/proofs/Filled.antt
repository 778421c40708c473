-- A loop that fills a list from one place on: after each store the list's entries are those of the definition, one place further.
-- Assumes nothing.
use mathlib.Core.Path.{◌≡◌, refl, sym, ap, ◌∙◌}
use mathlib.Core.Bool.{and-false}
use mathlib.Core.List.{List}
use mathlib.Core.Logic.{◌≢◌}
use Prim.Native.Nat.{ℕ, zero, suc, ◌+◌, ◌≤◌, ◌<◌, max}
use native.Mathlib.Decide.{ℕ_discrete, dec_le, dec_lt}
use native.Mathlib.Nat.{le_refl}
use native.Mathlib.Omega.{arith}
use lib.Dec.{leb, ltb}
use lib.ListN.{length, get_or, set, replicate, length-set}
use lib.Seq.{get_or-set_same, get_or-set_other}
use borrow.Author.Tests.{le-leb, lt-leb, lt-ltb, le-ltb}
use Rattle.alloc.specs.Fills.{filled, within, Fills}

-- two functions that agree everywhere are one
pub everywhere : {A B : Type 0} {f g : A → B} → ((x : A) → f x ≡ g x) → f ≡ g
everywhere p = λ i x. p x i

-- a list of one value alone has it at every place
pub cleared : {A : Type 0} (n k : ℕ) {d : A} → get_or (replicate n d) k d ≡ d
cleared zero k = refl
cleared (suc n) zero = refl
cleared (suc n) (suc k) = cleared n k

module _ {A : Type 0} (g before : ℕ → A) (from : ℕ) where
  pub filled_in : (to k : ℕ) → from ≤ k → k < to → filled from to g before k ≡ g k
  filled_in to k p q = rw (le-leb from k p, lt-ltb k to q)

  pub filled_below : (to k : ℕ) → k < from → filled from to g before k ≡ before k
  filled_below to k p = rw (lt-leb from k p)

  pub filled_above : (to k : ℕ) → to ≤ k → filled from to g before k ≡ before k
  filled_above to k p = rw (le-ltb k to p, and-false (leb from k))

  pub filled_empty : (to : ℕ) → to ≤ from → (k : ℕ) → filled from to g before k ≡ before k
  filled_empty to h k = by (dec_lt k from)
    where
      by : Dec (k < from) → filled from to g before k ≡ before k
      by (yes p) = filled_below to k p
      by (no p) = filled_above to k (omega arith)

  pub filled_none : (k : ℕ) → filled from from g before k ≡ before k
  filled_none k = filled_empty from (le_refl from) k

  -- a place other than `to` is inside as it was
  same_test : (to k : ℕ) → k ≢ to → ltb k (to + 1) ≡ ltb k to
  same_test to k h = by (dec_lt k to)
    where
      by : Dec (k < to) → ltb k (to + 1) ≡ ltb k to
      by (yes p) = lt-ltb k (to + 1) (omega arith) ∙ sym (lt-ltb k to p)
      by (no p) = le-ltb k (to + 1) (omega arith) ∙ sym (le-ltb k to (omega arith))

  pub filled_set : (l : List A) (d : A) (to : ℕ) (v : A) → from ≤ to → to < length l → v ≡ g to → ((k : ℕ) → get_or l k d ≡ filled from to g before k) → (k : ℕ) → get_or (set l to v) k d ≡ filled from (to + 1) g before k
  filled_set l d to v p q e all k = by (ℕ_discrete k to)
    where
      by : Dec (k ≡ to) → get_or (set l to v) k d ≡ filled from (to + 1) g before k
      by (yes same) = rw same (get_or-set_same l to v d q ∙ e ∙ sym (filled_in (to + 1) to p (omega arith)))
      by (no other) = get_or-set_other l to k v d other ∙ all k ∙ rw (same_test to k other)

-- two ranges that agree inside and outside
pub filled_same : {A : Type 0} (g h before : ℕ → A) (from to : ℕ) → ((k : ℕ) → from ≤ k → k < to → g k ≡ h k) → (k : ℕ) → filled from to g before k ≡ filled from to h before k
filled_same g h before from to same k = by (dec_le from k) (dec_lt k to)
  where
    by : Dec (from ≤ k) → Dec (k < to) → filled from to g before k ≡ filled from to h before k
    by (yes p) (yes q) = filled_in g before from to k p q ∙ same k p q ∙ sym (filled_in h before from to k p q)
    by (yes p) (no q) = filled_above g before from to k (omega arith) ∙ sym (filled_above h before from to k (omega arith))
    by (no p) q = rw (lt-leb from k (omega arith))

-- one range after the other is the whole
pub filled_join : {A : Type 0} (g before : ℕ → A) (a b c : ℕ) → a ≤ b → b ≤ c → (k : ℕ) → filled b c g (filled a b g before) k ≡ filled a c g before k
filled_join g before a b c p q k = by (dec_lt k b)
  where
    early : k < b → Dec (a ≤ k) → filled a b g before k ≡ filled a c g before k
    early h (yes r) = filled_in g before a b k r h ∙ sym (filled_in g before a c k r (omega arith))
    early h (no r) = filled_below g before a b k (omega arith) ∙ sym (filled_below g before a c k (omega arith))

    late : b ≤ k → Dec (k < c) → filled b c g (filled a b g before) k ≡ filled a c g before k
    late h (yes r) = filled_in g (filled a b g before) b c k h r ∙ sym (filled_in g before a c k (omega arith) r)
    late h (no r) = filled_above g (filled a b g before) b c k (omega arith) ∙ filled_above g before a b k h ∙ sym (filled_above g before a c k (omega arith))

    by : Dec (k < b) → filled b c g (filled a b g before) k ≡ filled a c g before k
    by (yes h) = filled_below g (filled a b g before) b c k h ∙ early h (dec_le a k)
    by (no h) = late (omega arith) (dec_lt k c)

-- ---- the same of arrays

module _ {A : Type 0} (d : A) (g : ℕ → A) (from : ℕ) where
  pub fills_none : (l : List A) → Fills d from from g l l
  fills_none l = record { long = refl; entries = λ k. sym (filled_none g (λ j. get_or l j d) from k) }

  pub fills_set : (before l : List A) (to : ℕ) (v : A) → from ≤ to → to < length l → v ≡ g to → Fills d from to g before l → Fills d from (to + 1) g before (set l to v)
  fills_set before l to v p q e f =
      record { long = length-set l to v ∙ f.long; entries = filled_set g (λ j. get_or before j d) from l d to v p q e f.entries }

pub fills_join : {A : Type 0} (d : A) (g : ℕ → A) (a b c : ℕ) {x y z : List A} → a ≤ b → b ≤ c → Fills d a b g x y → Fills d b c g y z → Fills d a c g x z
fills_join d g a b c {x} {y} {z} p q f h = record {
  long = h.long ∙ f.long;
  entries = λ k.
      h.entries k
      ∙ ap (λ (old : ℕ → _). filled b c g old k) (everywhere f.entries)
      ∙ filled_join g (λ j. get_or x j d) a b c p q k;
}

pub fills_same : {A : Type 0} (d : A) (g h : ℕ → A) (from to : ℕ) {x y : List A} → ((k : ℕ) → from ≤ k → k < to → g k ≡ h k) → Fills d from to g x y → Fills d from to h x y
fills_same d g h from to {x} {y} same f =
    record { long = f.long; entries = λ k. f.entries k ∙ filled_same g h (λ j. get_or x j d) from to same k }

-- the same between ends that are equal
pub fills_moved : {A : Type 0} (d : A) (g h : ℕ → A) {a b from to : ℕ} {x y : List A} → a ≡ from → b ≡ to → ((k : ℕ) → from ≤ k → k < to → g k ≡ h k) → Fills d a b g x y → Fills d from to h x y
fills_moved d g h {a} {b} {from} {to} p q same f = fills_same d g h from to same (rw (p, q) at f)

-- what was filled
pub fills_in : {A : Type 0} {d : A} {g : ℕ → A} {from to : ℕ} {x y : List A} → Fills d from to g x y → (k : ℕ) → from ≤ k → k < to → get_or y k d ≡ g k
fills_in {d = d} {g = g} {from = from} {to = to} {x = x} f k p q = f.entries k ∙ filled_in g (λ j. get_or x j d) from to k p q

-- past what was filled, the array is as it was
pub fills_rest : {A : Type 0} (d : A) (g : ℕ → A) (from to : ℕ) {x y : List A} → Fills d from to g x y → (k : ℕ) → to ≤ k → get_or y k d ≡ get_or x k d
fills_rest d g from to {x} f k h = f.entries k ∙ filled_above g (λ j. get_or x j d) from to k h

-- a range that ends before it begins
pub fills_empty : {A : Type 0} (d : A) (g : ℕ → A) (from to : ℕ) {x y : List A} → to ≤ from → Fills d from from g x y → Fills d from to g x y
fills_empty d g from to {x} h f =
    record { long = f.long; entries = λ k. f.entries k ∙ filled_none g (λ j. get_or x j d) from k ∙ sym (filled_empty g (λ j. get_or x j d) from to h k) }

-- a loop ends at its last place, or where it began
pub fills_ended : {A : Type 0} (d : A) (g : ℕ → A) (from to place : ℕ) {x y : List A} → place ≤ max from to → max from to ≤ place → Fills d from place g x y → Fills d from to g x y
fills_ended d g from to place {x} {y} low high f = by (dec_le from to)
  where
    by : Dec (from ≤ to) → Fills d from to g x y
    by (yes h) = let end : place ≡ to = omega arith in rw end at f
    by (no h) = let none : place ≡ from = omega arith in fills_empty d g from to (omega arith) (rw none at f)

-- an array that was all d
pub fills_fresh : {A : Type 0} (d : A) (g : ℕ → A) (n from to : ℕ) {x l : List A} → x ≡ replicate n d → Fills d from to g x l → (k : ℕ) → get_or l k d ≡ within d from to g k
fills_fresh {A} d g n from to {x} e f k =
    f.entries k ∙ ap (λ (old : ℕ → A). filled from to g old k) (everywhere {f = λ j. get_or x j d} {g = λ j. d} (λ j. ap (λ (m : List A). get_or m j d) e ∙ cleared n j))
