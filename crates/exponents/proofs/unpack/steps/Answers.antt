-- `exponents::unpack::steps` meets its contract: one test, computed over the whole table. Assumes nothing.
use mathlib.Core.Bool.{Bool, true, false, ◌&&◌, cond}
use mathlib.Core.List.{List, [], ◌∷◌}
use mathlib.Core.Path.{◌≡◌, refl, ap, ◌∙◌}
use Prim.Native.Nat.{ℕ, zero, suc, ◌+◌, ◌*◌, ◌/◌, ◌%◌, ◌<◌}
use native.Mathlib.Nat.{not-suc-le-zero, le_of_suc-le-suc, add-zero, zero-add, add-suc, suc-add}
use lib.Dec.{T, eqb, ltb}
use lib.ListN.{length, get_or}
use native.Mathlib.Omega.{arith}
use borrow.Author.Tests.{eqb-true, lt-ltb, le-ltb}
use store.Enc.{and_l, and_r}
use Rattle.exponents.specs.Bytes.{Steps}
use Rattle.exponents.proofs.unpack.steps.Goals as goal

abbrev entry : ℕ → ℕ
entry group =
    cond (ltb 124 group) 2105376 (let x = group / 25 in let y = x + group % 25 / 5 in let z = y + group % 5 in 62 + x + 256 * (60 + y) + 65536 * (58 + z))

abbrev right : ℕ → List ℕ → Bool
right group [] = true
right group (d ∷ ds) = eqb d (entry group) && right (suc group) ds

true_of : (b : Bool) → T b → b ≡ true
true_of true t = λ i. true
true_of false t = elim t [ ]

right_at : (first : ℕ) (l : List ℕ) → T (right first l) → (k : ℕ) → k < length l → get_or l k 0 ≡ entry (first + k)
right_at first [] t k h = absurd (not-suc-le-zero h)
right_at first (d ∷ ds) t zero h = rw (add-zero first) (eqb-true d (entry first) (true_of (eqb d (entry first)) (and_l (eqb d (entry first)) (right (suc first) ds) t)))
right_at first (d ∷ ds) t (suc k) h = rw (add-suc first k, ← suc-add first k) (right_at (suc first) ds (and_r (eqb d (entry first)) (right (suc first) ds) t) k (le_of_suc-le-suc h))

module _ (l : List ℕ) (t : T (right 0 l)) (long : length l ≡ 128) where
  at : (group : ℕ) → group < 128 → get_or l group 0 ≡ entry group
  at group h = right_at 0 l t group (rw long h) ∙ ap entry (zero-add group)

  all_right : Steps l
  all_right = record {
    each = λ group h. at group (omega arith) ∙ rw (le-ltb 124 group (omega arith));
    none = λ group low high. at group high ∙ rw (lt-ltb 124 group low);
  }

pub returns : goal.returns
returns c = all_right _ tt refl
