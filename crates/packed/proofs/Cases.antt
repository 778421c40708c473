-- A choice by its test; lists by their last element. Assumes nothing.
use mathlib.Core.Path.{◌≡◌, refl, ap, sym, ◌∙◌}
use mathlib.Core.Bool.{Bool, true, false, cond, not, ◌&&◌}
use mathlib.Core.List.{List, [], ◌∷◌, ◌++◌, append_assoc, append-nil}
use Prim.Native.Nat.{ℕ}
use borrow.Author.Tests.{eq-eqb}
use lib.Dec.{T, eqb}
use Rattle.listing.specs.Number.{signed}
use Rattle.listing.specs.Listing.{Each, line, joined}

pub by_test : {A : Type 0} (P : A → Type 0) (t : Bool) {a b : A} → (t ≡ true → P a) → (t ≡ false → P b) → P (cond t a b)
by_test P true f g = f refl
by_test P false f g = g refl

-- two numbers that the checker tells apart
pub differ : {n m : ℕ} → T (not (eqb n m)) → ¬ (n ≡ m)
differ {n} {m} h e = rw (eq-eqb n m e) at h

-- a reader's state that is a refusal's tells neither that all was read nor that the input ends
pub record Refused (n : ℕ) : Type 0 where
  pub refused : ¬ (n ≡ 0)
  pub stopped : ¬ (n ≡ 43)

pub refuses : {n : ℕ} → T (not (eqb n 0) && not (eqb n 43)) → Refused n
refuses h = record { refused = λ e. rw e at h; stopped = λ e. rw e at h }

pub each_snoc : {A : Type 0} (P : A → Type 0) (xs : List A) {x : A} → Each P xs → P x → Each P (xs ++ (x ∷ []))
each_snoc P [] h k = (k, tt)
each_snoc P (y ∷ xs) h k = (h.0, each_snoc P xs h.1 k)

pub each_append : {A : Type 0} (P : A → Type 0) (xs ys : List A) → Each P xs → Each P ys → Each P (xs ++ ys)
each_append P [] ys h k = k
each_append P (x ∷ xs) ys h k = (h.0, each_append P xs ys h.1 k)

pub each_front : {A : Type 0} (P : A → Type 0) (xs ys : List A) → Each P (xs ++ ys) → Each P xs
each_front P [] ys h = tt
each_front P (x ∷ xs) ys h = (h.0, each_front P xs ys h.1)

pub each_back : {A : Type 0} (P : A → Type 0) (xs ys : List A) → Each P (xs ++ ys) → Each P ys
each_back P [] ys h = h
each_back P (x ∷ xs) ys h = each_back P xs ys h.1

pub joined_snoc : (f : List ℕ → List ℕ) (xs : List (List ℕ)) (x : List ℕ) → joined f (xs ++ (x ∷ [])) ≡ joined f xs ++ f x
joined_snoc f [] x = append-nil (f x)
joined_snoc f (y ∷ xs) x = rw (joined_snoc f xs x) (sym (append_assoc (f y) (joined f xs) (f x)))

-- numbers with a space after each
abbrev pub spaced : List ℕ → List ℕ
spaced [] = []
spaced (v ∷ vs) = signed v ++ (32 ∷ spaced vs)

pub spaced_snoc : (vs : List ℕ) (v : ℕ) → spaced (vs ++ (v ∷ [])) ≡ spaced vs ++ (signed v ++ (32 ∷ []))
spaced_snoc [] v = refl
spaced_snoc (u ∷ vs) v = rw (spaced_snoc vs v) (sym (append_assoc (signed u) (32 ∷ spaced vs) (signed v ++ (32 ∷ []))))

pub line_snoc : (vs : List ℕ) (v : ℕ) → line (vs ++ (v ∷ [])) ≡ spaced vs ++ (signed v ++ (10 ∷ []))
line_snoc [] v = refl
line_snoc (u ∷ []) v = sym (append_assoc (signed u) (32 ∷ []) (signed v ++ (10 ∷ [])))
line_snoc (u ∷ w ∷ ws) v =
    ap (λ (l : List ℕ). signed u ++ (32 ∷ l)) (line_snoc (w ∷ ws) v)
    ∙ sym (append_assoc (signed u) (32 ∷ spaced (w ∷ ws)) (signed v ++ (10 ∷ [])))
