-- The refusal of a conversion beside its reading's verdict: a verdict goes through, and where there is none the room decides between 0 and
-- 45. Assumes nothing.
use mathlib.Core.Path.{◌≡◌, refl, ap, sym, subst, ◌∙◌}
use mathlib.Core.Bool.{Bool, true, false, cond}
use mathlib.Core.List.{List}
use mathlib.Core.Logic.{◌↔◌}
use Prim.Native.Nat.{ℕ, zero, suc, ◌≤◌, ◌<◌}
use native.Mathlib.Omega.{arith}
use borrow.Author.Tests.{leb-true, leb-false, le-leb, lt-leb}
use lib.Dec.{leb}
use lib.ListN.{length}
use Rattle.listing.specs.Listing.{Listing, Valid}
use Rattle.packed.specs.Converted.{answered, converted}

module _ (w out : List ℕ) where
  abbrev refusal_of : ℕ → ℕ
  refusal_of v = (converted v w out).0.refusal

  fits : length w ≤ length out → refusal_of 0 ≡ 0
  fits h = ap (λ (t : Bool). (answered (cond t 0 45) w out).0.refusal) (le-leb (length w) (length out) h)

  overflows : length out < length w → refusal_of 0 ≡ 45
  overflows h = ap (λ (t : Bool). (answered (cond t 0 45) w out).0.refusal) (lt-leb (length w) (length out) h)

  room : (Q : Type 0) → (length w ≤ length out → Q) → (length out < length w → Q) → Q
  room Q f g = go (leb (length w) (length out)) refl
    where
      go : (t : Bool) → leb (length w) (length out) ≡ t → Q
      go true e = f (leb-true (length w) (length out) e)
      go false e = g (leb-false (length w) (length out) e)

  pub goes_through : (v n : ℕ) → ¬ (n ≡ 0) → ¬ (n ≡ 45) → (refusal_of v ≡ n) ↔ (v ≡ n)
  goes_through zero n p q = (
    λ e. absurd (room ⊥ (λ h. p (sym e ∙ fits h)) (λ h. q (sym e ∙ overflows h))),
    λ e. absurd (p (sym e)),
  )
  goes_through (suc v) n p q = (λ e. e, λ e. e)

  pub none : (v : ℕ) → (refusal_of v ≡ 0) ↔ ((v ≡ 0) × (length w ≤ length out))
  none zero = (λ e. room ((0 ≡ 0) × (length w ≤ length out)) (λ h. (refl, h)) (λ h. absurd (omega (arith, sym e ∙ overflows h))), λ x. fits x.1)
  none (suc v) = (λ e. absurd (omega (arith, e)), λ x. absurd (omega (arith, x.0)))

  pub too_small : (v : ℕ) → ¬ (v ≡ 45) → (refusal_of v ≡ 45) ↔ ((v ≡ 0) × (length out < length w))
  too_small zero p = (λ e. room ((0 ≡ 0) × (length out < length w)) (λ h. absurd (omega (arith, sym e ∙ fits h))) (λ h. (refl, h)), λ x. overflows x.1)
  too_small (suc v) p = (λ e. absurd (p e), λ x. absurd (omega (arith, x.0)))

-- what is accepted is one form of a listing, and the result is the other
module _ (verdict : List ℕ → ℕ) (result : List ℕ → List ℕ) (one other : Listing → List ℕ) (bytes : List ℕ)
    (read : (l : Listing) → Valid l → (verdict (one l) ≡ 0) × (result (one l) ≡ other l))
    (only : verdict bytes ≡ 0 → (l : Listing) × Valid l × (one l ≡ bytes)) where
  pub accepted :
      (Q : ℕ → Type 0)
      → ((verdict bytes ≡ 0) × Q (length (result bytes))) ↔ ((l : Listing) × Valid l × (one l ≡ bytes) × Q (length (other l)))
  accepted Q = (
    λ x.
        let l = only x.0 in
        (l.0, l.1, l.2, subst Q (ap length (ap result (sym l.2) ∙ (read l.0 l.1).1)) x.1),
    λ x.
        let t = read x.0 x.1 in
        (ap verdict (sym x.2) ∙ t.0, subst Q (ap length (sym t.1 ∙ ap result x.2)) x.3),
  )
