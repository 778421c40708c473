-- Every packed form is read, and unpacks to the listing's text: number by number, place by place. Assumes nothing.
use mathlib.Core.Path.{◌≡◌, refl, ap, ◌∙◌}
use mathlib.Core.Bool.{Bool, true, false, cond}
use mathlib.Core.List.{List, [], ◌∷◌, ◌++◌, append_assoc, append-nil}
use Prim.Native.Nat.{ℕ, zero, suc, ◌+◌, ◌-◌, ◌*◌, ◌/◌, ◌%◌, ◌^◌, ◌≤◌, ◌<◌, min}
use native.Mathlib.Nat.{div-lt_iff_lt-mul, div-le_self, div-add-mod', mod-lt, mod-eq_of_lt, le-div_iff_mul-le, mul-le-mul_right, mod-le, pow-suc}
use native.Mathlib.Numerals.{add-one}
use native.Mathlib.Omega.{arith}
use borrow.Author.Tests.{eq-eqb, ne_eqb, lt-ltb, le-ltb, le-leb, ltb-true, ltb-false, eqb-true}
use lib.Arith.{digits_mod}
use lib.Dec.{lit<, lit≤, ltb, eqb}
use lib.ListN.{length}
use Rattle.packed.specs.declared.Refusal.TheVariants.{NeedlessGroup}
use Rattle.packed.specs.declared.Group.TheVariants.{Going, Whole, Bad}
use Rattle.packed.specs.declared.Place.{Place}
use Rattle.packed.specs.declared.Place.TheVariants.{Count, Cell, Kind, Tail}
use Rattle.packed.specs.declared.Packed.{Packed}
use Rattle.packed.specs.declared.Packed.TheVariants.{At, Done}
use Rattle.listing.specs.Number.{groups, signed, separator}
use Rattle.listing.specs.Listing.{Each, Line, line, joined, word, grouped, kind, last_count}
use Rattle.packed.specs.Packed.{group, rows_on, reached, grouping, step, say, spoken, tell, verdict}
use Rattle.packed.specs.Exact.{PackedRead}
use Rattle.packed.proofs.Groups.{groups_small, groups_large}
use Rattle.packed.proofs.Runs.{Goes, ◌then◌, byte, stay}

-- ---- one group

-- the last group ends the number
pub group_last :
    (n k v : ℕ) → v < 128 → k ≤ 5 → (v ≡ 0 → k ≡ 0) → n + v * 128 ^ k ≤ 2147483648 → group n k v ≡ Whole (n + v * 128 ^ k)
group_last n k v h f z b =
    let m : min k 5 ≡ k = omega arith in
    let r = mod-eq_of_lt h in
    rw (r, m, le-leb (n + v * 128 ^ k) 2147483648 b, lt-ltb v 128 h) (go (eqb v 0) refl)
  where
    go : (t : Bool) → eqb v 0 ≡ t → cond t (cond (eqb k 0) (Whole (n + v * 128 ^ k)) (Bad NeedlessGroup)) (Whole (n + v * 128 ^ k)) ≡ Whole (n + v * 128 ^ k)
    go true e = simp (eq-eqb k 0 (z (eqb-true v 0 e)))
    go false e = refl

-- another goes on
group_more :
    (n k v : ℕ) → k < 5 → n + v % 128 * 128 ^ k ≤ 2147483648 → group n k (128 + v % 128) ≡ Going (n + v % 128 * 128 ^ k) (k + 1)
group_more n k v f b =
    let l = mod-lt v {m = 128} (lit< tt) in
    let m : min k 5 ≡ k = omega arith in
    let j : min (k + 1) 5 ≡ k + 1 = omega arith in
    let r : (128 + v % 128) % 128 ≡ v % 128 = digits_mod 1 l in
    rw (r, m, le-leb (n + v % 128 * 128 ^ k) 2147483648 b, le-ltb (128 + v % 128) 128 (omega arith), j)

-- ---- a number
module _ (p : Place) where
  number :
      (f k n v : ℕ)
      → k + f ≡ 5
      → v < 128 ^ f
      → v < 2 ^ 64
      → (v ≡ 0 → k ≡ 0)
      → n + v * 128 ^ k ≤ 2147483648
      → Goes step tell (At p n k) (groups v) (reached p (n + v * 128 ^ k)) (say p (n + v * 128 ^ k))
  number zero k n v e h x z b = absurd (omega (arith, h, z (omega (arith, h)), e))
  number (suc f) k n v e h x z b =
      go (ltb v 128) refl
      (λ l c.
      number f (k + 1) (n + v % 128 * 128 ^ k) (v / 128) (omega arith) ((div-lt_iff_lt-mul {k = 128} (lit< tt)).1 (omega (arith, h)))
      (omega (arith, div-le_self v 128))
      l c)
    where
      go :
          (t : Bool)
          → ltb v 128 ≡ t
          → ((v / 128 ≡ 0 → k + 1 ≡ 0)
          → n + v % 128 * 128 ^ k + v / 128 * 128 ^ (k + 1) ≤ 2147483648
          → Goes step tell (At p (n + v % 128 * 128 ^ k) (k + 1)) (groups (v / 128))
          (reached p (n + v % 128 * 128 ^ k + v / 128 * 128 ^ (k + 1)))
          (say p (n + v % 128 * 128 ^ k + v / 128 * 128 ^ (k + 1))))
          → Goes step tell (At p n k) (groups v) (reached p (n + v * 128 ^ k)) (say p (n + v * 128 ^ k))
      go true t ih =
          let g = group_last n k v (ltb-true v 128 t) (omega arith) z b in
          rw (groups_small (ltb-true v 128 t)) (byte step tell v (ap (grouping p) g) (ap (spoken p) g))
      go false t ih =
          let l = ltb-false v 128 t in
          let w : 128 ^ (k + 1) ≡ 128 ^ k * 128 = rw add-one (pow-suc 128 k) in
          let q : n + v % 128 * 128 ^ k + v / 128 * 128 ^ (k + 1) ≡ n + v * 128 ^ k =
          rw w (omega (arith, ap (λ (y : ℕ). y * 128 ^ k) (div-add-mod' v 128))) in
          let one : 1 ≤ v / 128 = (le-div_iff_mul-le {k = 128} {x = 1} {y = v} (lit< tt)).1 (omega arith) in
          let g = group_more n k v (omega arith) (omega (arith, b, mul-le-mul_right (128 ^ k) (mod-le v 128))) in
          rw (groups_large l x)
          (◌then◌ step tell (byte step tell (128 + v % 128) (ap (grouping p) g) (ap (spoken p) g))
          (rw q at (ih (λ y. absurd (omega arith)) (rw q b))))

  -- a whole number from its first group on
  pub whole : (v : ℕ) → v ≤ 2147483648 → Goes step tell (At p 0 0) (groups v) (reached p v) (say p v)
  whole v h =
      let e : 0 + v * 128 ^ 0 ≡ v = omega arith in
      rw e at (number 5 0 0 v refl (omega (arith, h)) (omega (arith, h)) (λ y. refl) (omega (arith, h)))

-- ---- lines

abbrev Fitting : List ℕ → Type 0
Fitting vs = Each (λ v. v ≤ 2147483648) vs

module _ (place : ℕ → Place) (end : Packed)
    (says : (left v : ℕ) → say (place left) v ≡ signed v ++ (separator left ∷ []))
    (ends : (v : ℕ) → reached (place 0) v ≡ end)
    (goes : (left v : ℕ) → reached (place (suc left)) v ≡ At (place left) 0 0) where
  a_line : (left : ℕ) (vs : List ℕ) → length vs ≡ suc left → Fitting vs → Goes step tell (At (place left) 0 0) (grouped vs) end (line vs)
  a_line left [] e h = absurd (omega (arith, e))
  a_line zero (v ∷ []) e h = rw (append-nil (groups v)) (rw (ends, says) at (whole (place 0) v h.0))
  a_line (suc left) (v ∷ []) e h = absurd (omega (arith, e))
  a_line zero (v ∷ w ∷ ws) e h = absurd (omega (arith, e))
  a_line (suc left) (v ∷ w ∷ ws) e h =
      let s : say (place (suc left)) v ≡ signed v ++ (32 ∷ []) = says (suc left) v ∙ simp (ne_eqb (suc left) 0 (omega arith)) in
      rw (append_assoc (signed v) (32 ∷ []) (line (w ∷ ws))) at
      (◌then◌ step tell (rw (goes, s) at (whole (place (suc left)) v h.0)) (a_line left (w ∷ ws) (omega (arith, e)) h.1))

pub cell_goes : (rows left v : ℕ) → reached (Cell rows (suc left)) v ≡ At (Cell rows left) 0 0
cell_goes rows left v =
    let e : suc left - 1 ≡ left = omega arith in
    simp (ne_eqb (suc left) 0 (omega arith), e)

pub tail_goes : (left v : ℕ) → reached (Tail (suc left)) v ≡ At (Tail left) 0 0
tail_goes left v =
    let e : suc left - 1 ≡ left = omega arith in
    simp (ne_eqb (suc left) 0 (omega arith), e)

pub rows_more : (n : ℕ) → rows_on (suc n) ≡ At (Cell n 8) 0 0
rows_more n =
    let e : suc n - 1 ≡ n = omega arith in
    simp (ne_eqb (suc n) 0 (omega arith), e)

pub all_rows : (rows : List (List ℕ)) → Each (Line 9) rows → Goes step tell (rows_on (length rows)) (joined grouped rows) (At Kind 0 0) (joined line rows)
all_rows [] v = stay step tell (At Kind 0 0)
all_rows (r ∷ rows) v =
    rw (rows_more (length rows))
    (◌then◌ step tell
    (a_line (Cell (length rows)) (rows_on (length rows)) (λ left x. refl) (λ x. refl) (cell_goes (length rows)) 8 r v.0.0 v.0.1)
    (all_rows rows v.1))

pub a_count : (n : ℕ) → n < 2147483648 → Goes step tell (At Count 0 0) (groups (n + 1)) (rows_on n) []
a_count n h =
    let e : n + 1 - 1 ≡ n = omega arith in
    let r : reached Count (n + 1) ≡ rows_on n = simp (ne_eqb (n + 1) 0 (omega arith), e) in
    rw r at (whole Count (n + 1) (omega arith))

a_kind : (k : Bool) → Goes step tell (At Kind 0 0) (groups (kind k)) (At (Tail (last_count k - 1)) 0 0) (word k)
a_kind false = whole Kind 1 (lit≤ tt)
a_kind true = whole Kind 2 (lit≤ tt)

a_last : (k : Bool) (vs : List ℕ) → Line (last_count k) vs → Goes step tell (At (Tail (last_count k - 1)) 0 0) (grouped vs) Done (line vs)
a_last false vs h = a_line Tail Done (λ left x. refl) (λ x. refl) tail_goes 2 vs h.0 h.1
a_last true vs h = a_line Tail Done (λ left x. refl) (λ x. refl) tail_goes 4 vs h.0 h.1

-- ---- the whole

pub packed_read : PackedRead
packed_read l v =
    let g =
    ◌then◌ step tell (a_count (length l.rows) v.count)
    (◌then◌ step tell (all_rows l.rows v.rows) (◌then◌ step tell (a_kind l.refused) (a_last l.refused l.last v.last))) in
    (ap verdict g.ends, g.tells)
