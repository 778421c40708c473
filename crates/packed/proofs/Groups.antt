-- The groups of a number, one step at a time: the bound on their count is never met. Assumes nothing.
use mathlib.Core.Path.{◌≡◌, ap, sym}
use mathlib.Core.Bool.{Bool, true, false, cond}
use mathlib.Core.List.{List, [], ◌∷◌}
use Prim.Native.Nat.{ℕ, zero, suc, ◌+◌, ◌/◌, ◌%◌, ◌^◌, ◌≤◌, ◌<◌, zero-le}
use native.Mathlib.Nat.{div-lt_iff_lt-mul}
use native.Mathlib.Omega.{arith}
use borrow.Author.Tests.{lt-ltb, le-ltb}
use lib.Dec.{lit<, ltb}
use lib.ListN.{length}
use Rattle.listing.specs.Number.{groups_in, groups}

groups_enough : (f v : ℕ) → v < 128 ^ suc f → groups_in (suc (suc f)) v ≡ groups_in (suc f) v
unfolding groups_in
groups_enough zero v h = simp (lt-ltb v 128 (omega (arith, h)))
groups_enough (suc f) v h =
    ap (λ (r : List ℕ). cond (ltb v 128) (v ∷ []) ((128 + v % 128) ∷ r))
    (groups_enough f (v / 128) ((div-lt_iff_lt-mul {k = 128} (lit< tt)).1 (omega (arith, h))))

pub groups_small : {v : ℕ} → v < 128 → groups v ≡ v ∷ []
unfolding groups groups_in
groups_small {v} h = simp (lt-ltb v 128 h)

pub groups_large : {v : ℕ} → 128 ≤ v → v < 2 ^ 64 → groups v ≡ (128 + v % 128) ∷ groups (v / 128)
unfolding groups groups_in
groups_large {v} h b =
    simp (le-ltb v 128 h)
    (ap (λ (r : List ℕ). (128 + v % 128) ∷ r)
    (sym (groups_enough 8 (v / 128) ((div-lt_iff_lt-mul {k = 128} (lit< tt)).1 (omega (arith, b))))))

groups_within : (f v : ℕ) → length (groups_in f v) ≤ f
unfolding groups_in
groups_within zero v = zero-le
groups_within (suc f) v = go (ltb v 128) (groups_in f (v / 128)) (groups_within f (v / 128))
  where
    go : (t : Bool) (l : List ℕ) → length l ≤ f → length (cond t (v ∷ []) ((128 + v % 128) ∷ l)) ≤ suc f
    go true l h = omega arith
    go false l h = omega arith

pub groups_few : (v : ℕ) → length (groups v) ≤ 10
unfolding groups
groups_few v = groups_within 10 v
