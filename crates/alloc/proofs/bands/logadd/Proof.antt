-- `alloc::bands::logadd` meets its contract: the sign of the difference says which is the larger, and its size whether the table has
-- anything to add. Assumes nothing.
use mathlib.Core.Path.{◌≡◌, ◌∙◌, ap, sym}
use mathlib.Core.Bool.{not}
use Prim.Native.Nat.{◌/◌, ◌≤◌, ◌<◌}
use borrow.Author.Rules.{rules}
use lib.Dec.{T}
use lib.IntN.{ℤ, pos, nat_abs, neg_ℤ, ◌+ℤ◌, ◌-ℤ◌, neg_ℤ-neg_ℤ, +ℤ_comm, +ℤ_idl}
use lib.ListN.{get_or}
use lib.Signed.{non_neg}
use mir.Syntax.{w32}
use mir.Val.{to_z, of_z}
use mir.ValLaws.{to_z-of_z}
use Rattle.signed.specs.Bound.{Below}
use Rattle.signed.proofs.Bounds.{bounds, levels, below_add, below_is}
use Rattle.tables.specs.Tables.{log_add}
use Rattle.alloc.proofs.Sum.{near, far, larger_first, larger_second, near_test, far_test, below_test, near_below_test, far_below_test, opposite}
use Rattle.alloc.proofs.bands.logadd.Statement.{statement}
use Rattle.alloc.proofs.bands.logadd.Tie as tie

module _ (s : tie.Start) where
  abbrev a : ℤ
  a = s.args.sum

  abbrev b : ℤ
  b = neg_ℤ s.args.drop

  abbrev apart : ℤ
  apart = a -ℤ b

  a_is : to_z w32 (of_z w32 s.args.sum) ≡ a
  a_is = to_z-of_z w32 s.args.sum s.ranges.sum

  drop_is : to_z w32 (of_z w32 s.args.drop) ≡ s.args.drop
  drop_is = to_z-of_z w32 s.args.drop s.ranges.drop

  apart_is : a +ℤ s.args.drop ≡ apart
  apart_is = ap (λ (z : ℤ). a +ℤ z) (sym (neg_ℤ-neg_ℤ s.args.drop))

  distance_is : to_z w32 (of_z w32 (to_z w32 (of_z w32 s.args.sum) +ℤ to_z w32 (of_z w32 s.args.drop))) ≡ apart
  distance_is = search levels depth 12 ∙ apart_is

  apart_small : Below 21 apart
  apart_small = below_is (sym apart_is) (below_add s.requires.1 s.requires.2 tt)

  opposite_is : T (not (non_neg apart)) → to_z w32 (of_z w32 (pos 0 -ℤ to_z w32 (of_z w32 (to_z w32 (of_z w32 s.args.sum) +ℤ to_z w32 (of_z w32 s.args.drop))))) ≡ pos (nat_abs apart)
  opposite_is t = rw distance_is (let h = apart_small in search levels depth 12 ∙ opposite apart t)

-- what the table has at half of a distance
abbrev entry : ℤ → ℤ
entry z = pos (get_or log_add (nat_abs z / 2) 0)

-- what the tests tell
near_first : (c : tie.Then-is_near) → T (non_neg (apart c.before.before)) × (nat_abs (apart c.before.before) < 512)
near_first c = near_test (apart c.before.before) (rw (distance_is c.before.before) at (sym c.before.is_near.ensures ∙ c.if-is_near.true))

far_first : (c : tie.Then-distance-ge0) → T (non_neg (apart c.before.before.before)) × (512 ≤ nat_abs (apart c.before.before.before))
far_first c =
    let s = c.before.before.before in
    far_test (apart s) (rw (distance_is s) at (sym c.before.before.is_near.ensures ∙ c.before.if-is_near.false)) (rw (distance_is s) at c.if-distance-ge0.true)

less : (c : tie.Else-distance-ge0) → T (not (non_neg (apart c.before.before.before)))
less c = below_test (apart c.before.before.before) (rw (distance_is c.before.before.before) at c.if-distance-ge0.false)

near_second : (c : tie.Then-distance-gtminus512) → nat_abs (apart c.before.before.before.before) < 512
near_second c =
    let s = c.before.before.before.before in
    near_below_test (apart s) (less c.before) (rw (distance_is s) at c.if-distance-gtminus512.true)

far_second : (c : tie.Else-distance-gtminus512) → 512 ≤ nat_abs (apart c.before.before.before.before)
far_second c =
    let s = c.before.before.before.before in
    far_below_test (apart s) (less c.before) (rw (distance_is s) at c.if-distance-gtminus512.false)

pub logadd_spec : {M : Type 1} → statement M
logadd_spec =
    tie.close
    (tie.spec
    (λ c. search bounds depth 12)
    (λ c κs. search rules)
    (λ c κs. let s = c.before.before in (s.requires.0, rw (distance_is s) (near_first c).0, rw (distance_is s) (near_first c).1))
    (λ c. let more = c.added.ensures.1 in search bounds depth 12)
    (λ c.
    let s = c.before.before.before in
    let t = near_first c.before in
    let more = c.added.ensures.1 in
    let plain : to_z w32 (of_z w32 (to_z w32 (of_z w32 s.args.sum) +ℤ to_z w32 (of_z w32 c.added.result))) ≡ s.args.sum +ℤ c.added.result = search levels depth 12 in
    plain ∙ ap (λ (z : ℤ). s.args.sum +ℤ z) (c.added.ensures.0 ∙ ap entry (distance_is s)) ∙ near (a s) (b s) (a s) (larger_first (a s) (b s) t.0) t.1)
    (λ c.
    let s = c.before.before.before in
    let t = far_first c in
    a_is s ∙ far (a s) (b s) (a s) (larger_first (a s) (b s) t.0) t.1)
    (λ c. search bounds depth 12)
    (λ c κs. let s = c.before.before.before.before in (s.requires.0, rw (opposite_is s (less c.before)) tt, rw (opposite_is s (less c.before)) (near_second c)))
    (λ c. let more = c.added-then-distance-gtminus512.ensures.1 in search bounds depth 12)
    (λ c.
    let s = c.before.before.before.before.before in
    let t = less c.before.before in
    let more = c.added-then-distance-gtminus512.ensures.1 in
    let plain : to_z w32 (of_z w32 (to_z w32 (of_z w32 c.added-then-distance-gtminus512.result) -ℤ to_z w32 (of_z w32 s.args.drop))) ≡ c.added-then-distance-gtminus512.result -ℤ s.args.drop = search levels depth 12 in
    plain ∙ ap (λ (z : ℤ). z -ℤ s.args.drop) (c.added-then-distance-gtminus512.ensures.0 ∙ ap entry (opposite_is s t))
    ∙ +ℤ_comm (entry (apart s)) (b s)
    ∙ near (a s) (b s) (b s) (larger_second (a s) (b s) t) (near_second c.before))
    (λ c. search bounds depth 12)
    (λ c.
    let s = c.before.before.before.before in
    let plain : to_z w32 (of_z w32 (pos 0 -ℤ to_z w32 (of_z w32 s.args.drop))) ≡ pos 0 -ℤ s.args.drop = search levels depth 12 in
    plain ∙ +ℤ_idl (b s) ∙ far (a s) (b s) (b s) (larger_second (a s) (b s) (less c.before)) (far_second c)))
