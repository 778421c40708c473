-- A conversion's answers. Assumes nothing.
use mathlib.Core.Path.{◌≡◌, sym, ◌∙◌}
use mathlib.Core.List.{List, ◌++◌}
use Prim.Native.Nat.{ℕ, ◌+◌, ◌≤◌, min}
use native.Mathlib.Nat.{zero-add}
use native.Mathlib.Omega.{arith}
use borrow.Author.Tests.{le-leb}
use lib.ListN.{length, length-append}
use lib.Seq.{sets, sets-eq}
use Rattle.std.proofs.Common.{Result, Ok, Err, ap}
use Rattle.packed.specs.declared.Refusal.{Refusal}
use Rattle.packed.specs.declared.Refusal.TheVariants.{Malformed, NeedlessGroup, TooLarge, Incomplete, Trailing, NoRoom, WrongValue}
use Rattle.packed.specs.Answers.{Answer, answer, number}
use Rattle.packed.specs.Converted.{converted}
use Rattle.listing.proofs.Left.{sets_append}

abbrev told : ℕ → ℕ → Answer
told r n = record { refusal = r; written = n }

-- every refusal has a number
numbered : (refusal : Refusal) → 40 ≤ number refusal
numbered Malformed = omega arith
numbered NeedlessGroup = omega arith
numbered TooLarge = omega arith
numbered Incomplete = omega arith
numbered Trailing = omega arith
numbered NoRoom = omega arith
numbered WrongValue = omega arith

-- so what is answered with none was converted
pub answer_ok : (r : Result ℕ Refusal) {n : ℕ} → answer r ≡ told 0 n → r ≡ Ok n
answer_ok (Ok written) e = ap Ok (ap (λ (a : Answer). a.written) e)
answer_ok (Err refusal) e = absurd (omega (arith, numbered refusal, ap (λ (a : Answer). a.refusal) e))

module _ (v : ℕ) (w out : List ℕ) where
  -- the result is written
  pub converts : {n : ℕ} {left : List ℕ} → 0 ≡ v → length w ≤ length out → n ≡ length w → left ≡ sets out 0 w → (told 0 n, left) ≡ converted v w out
  converts p h q r = rw (← p, le-leb _ _ h, q, r, sets-eq w out 0 (omega (arith, h)), zero-add)

-- the size of a result of two parts, counted to one past the room
module _ (a b : List ℕ) {room n more size : ℕ} (p : n ≡ length a) (q : more ≡ min (length b) (room + 1)) (r : size ≡ min (n + more) (room + 1)) where
  pub exact : size ≤ room → size ≡ length (a ++ b)
  exact h = omega (arith, length-append a b)

-- two parts written
pub parts :
    (out a b : List ℕ) {out₁ out₂ : List ℕ} {at : ℕ} → at ≡ 0 + length a → out₁ ≡ sets out 0 a → out₂ ≡ sets out₁ at b → out₂ ≡ sets out 0 (a ++ b)
parts out a b p q r = r ∙ rw (p, q) (sym (sets_append out 0 a b))
