-- `alloc::mask::deltas` meets its contract. Assumes nothing.
use Rattle.std.proofs.Common.{◌≡◌, ◌∙◌, refl, ap, sym, Bool, true, false, cond, ◌&&◌, List, ℕ, suc, ◌+◌, ◌*◌, ◌^◌, ◌<◌, min, leb, ltb, get_or, ℤ, pos, ◌+ℤ◌, w32, to_z, of_z, add-one, arith}
use mathlib.Core.Path.{ap₂}
use native.Mathlib.Decide.{dec_lt}
use native.Mathlib.Nat.{lt_of_lt_of_le}
use borrow.Author.Tests.{lt-ltb, le-ltb}
use lib.Dec.{lit<}
use lib.IntN.{+ℤ_idr}
use lib.Signed.{mag}
use Rattle.signed.proofs.Bounds.{back_32, below_read, mag_add}
use Rattle.alloc.specs.Allocation.{at, passed, delta_of, delta_in, delta_sum}
use Rattle.alloc.specs.Fills.{Fills}
use Rattle.alloc.proofs.Filled.{cleared}
use Rattle.alloc.proofs.mask.deltas.Goals as goal

-- a range that is cut off at the last band has the same bands
cut : (last band : ℕ) → band < 50 → ltb band (min last 50) ≡ ltb band last
cut last band h = by (dec_lt band last)
  where
    by : Dec (band < last) → ltb band (min last 50) ≡ ltb band last
    by (yes p) = lt-ltb band (min last 50) (omega arith) ∙ sym (lt-ltb band last p)
    by (no p) = le-ltb band (min last 50) (omega arith) ∙ sym (le-ltb band last (omega arith))

-- to add within a range is to add what is 0 outside
added : (t : Bool) (x d : ℤ) → cond t (x +ℤ d) x ≡ x +ℤ cond t d (pos 0)
added true x d = refl
added false x d = sym (+ℤ_idr x)

grown : (t : Bool) (x d : ℤ) {m n : ℕ} → mag x < m → mag d < n → mag (cond t (x +ℤ d) x) < m + n
grown true x d p q = mag_add x d p q
grown false x d p q = omega arith

-- a segment more
module _ (segments : List ℕ) (n first last to : ℕ) (delta : ℤ) {out next : List ℤ} (f : Fills (pos 0) first to (λ j. at out j +ℤ delta) out next) (cut_is : to ≡ min last 50) where
  one_more : first ≡ passed segments n + get_or segments (n * 3) 0 → last ≡ passed segments (suc n) → delta ≡ delta_of (get_or segments (n * 3 + 2) 0)
      → (band : ℕ) → band < 50 → at out band ≡ delta_sum segments band n → at next band ≡ delta_sum segments band (suc n)
  unfolding delta_sum delta_in
  one_more first_is last_is delta_is band h before =
      f.entries band
      ∙ added (leb first band && ltb band to) (at out band) delta
      ∙ ap₂ ◌+ℤ◌ before
      (ap₂ (λ (t : Bool) (d : ℤ). cond t d (pos 0))
      (ap₂ ◌&&◌ (ap (λ (k : ℕ). leb k band) first_is) (ap (ltb band) cut_is ∙ cut last band h ∙ ap (ltb band) last_is))
      delta_is)

  more_mag : (band : ℕ) {m : ℕ} → mag (at out band) < m → mag delta < 2 ^ 16 → mag (at next band) < m + 2 ^ 16
  more_mag band p q = rw (f.entries band) (grown (leb first band && ltb band to) (at out band) delta p q)

pub loop-n-init : goal.loop-n-init
unfolding passed delta_sum
loop-n-init c = (omega arith, omega arith, refl, refl, (λ band h. cleared 50 band), (λ band. rw (cleared 50 band) (lit< tt)))

pub add_delta-requires : goal.add_delta-requires
add_delta-requires c =
    (c.loop-n.invariant.3, omega (arith, c.min.ensures), below_read c.delta_of.ensures.1, λ k. record { below = omega (arith, c.loop-n.invariant.5 k) })

pub loop-n-preserved : goal.loop-n-preserved
unfolding passed
loop-n-preserved c =
    let here = c.loop-n in
    let segments = c.args.segments.now in
    let first = here.from + c.from.result in
    let last = first + c.from-in-loop-n.result in
    let delta = to_z w32 (of_z w32 c.delta_of.result) in
    let first_is : first ≡ passed segments here.n + get_or segments (here.n * 3) 0 = omega (arith, here.invariant.2, c.from.ensures) in
    let last_is : last ≡ passed segments (suc here.n) = omega (arith, first_is, c.from-in-loop-n.ensures) in
    let delta_is : delta ≡ delta_of (get_or segments (here.n * 3 + 2) 0) = back_32 _ c.delta_of.type_inv ∙ c.delta_of.ensures.0 in
    let more = add-one here.n in
    let small = below_read c.delta_of.ensures.1 in (
      omega arith,
      omega (arith, c.from.ensures, c.from-in-loop-n.ensures, c.fits-segments (here.n * 3), c.fits-segments (here.n * 3 + 1)),
      rw more last_is,
      c.add_delta.array_long,
      (λ band h. rw more (one_more segments here.n first last c.min.result delta c.add_delta.ensures c.min.ensures first_is last_is delta_is band h (here.invariant.4 band h))),
      (λ band. rw more (lt_of_lt_of_le (more_mag segments here.n first last c.min.result delta c.add_delta.ensures c.min.ensures band (here.invariant.5 band) small.below) (omega arith))),
    )

pub returns : goal.returns
returns c =
    let here = c.loop-n in
    let end : here.n ≡ c.args.count = omega arith in
    ((λ band h. rw (← end) (here.invariant.4 band h)), (λ band. record { below = omega (arith, here.invariant.5 band) }))
