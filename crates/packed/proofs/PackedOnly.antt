-- What is read as a packed form was a listing's: after each byte, what was read is the beginning of one that the state describes. Of a
-- number the groups so far, with any more behind them, are those of the sum. Assumes nothing.
use mathlib.Core.Path.{◌≡◌, refl, ap, sym, ◌∙◌}
use mathlib.Core.Bool.{Bool, true, false}
use mathlib.Core.List.{List, [], ◌∷◌, ◌++◌, append_assoc, append-nil}
use Prim.Native.Nat.{ℕ, zero, suc, ◌+◌, ◌-◌, ◌*◌, ◌%◌, ◌^◌, ◌≤◌, ◌<◌, min}
use native.Mathlib.Nat.{pow-suc, mul-le-mul_left, mod-lt, mod-eq_of_lt, mod-eq-sub-mod}
use native.Mathlib.Numerals.{add-one}
use native.Mathlib.Omega.{arith}
use borrow.Author.Tests.{eqb-true, eqb-false, ltb-true, ltb-false, leb-true, leb-false}
use lib.Arith.{digits_div, digits_mod}
use lib.Dec.{lit<, lit≤, ltb, leb, eqb}
use lib.ListN.{length, length-append}
use Rattle.packed.specs.declared.Group.{Group}
use Rattle.packed.specs.declared.Group.TheVariants.{Going, Whole, Bad}
use Rattle.packed.specs.declared.Place.{Place}
use Rattle.packed.specs.declared.Place.TheVariants.{Count, Cell, Kind, Tail}
use Rattle.packed.specs.Answers.{number}
use Rattle.packed.specs.declared.Packed.{Packed}
use Rattle.packed.specs.declared.Packed.TheVariants.{At, Done, Halt}
use Rattle.packed.specs.Machine.{after}
use Rattle.listing.specs.Number.{groups}
use Rattle.listing.specs.Listing.{Listing, Valid, Each, Line, joined, grouped, kind, packed, last_count}
use Rattle.packed.specs.Packed.{weight, group, rows_on, reached, grouping, step, verdict}
use Rattle.packed.specs.Exact.{PackedOnly}
use Rattle.packed.proofs.Groups.{groups_small, groups_large}
use Rattle.packed.proofs.Cases.{Refused, refuses, by_test, each_snoc, joined_snoc}

-- ---- a number

-- n so far, of k groups: of the groups that were read there are `count`, and k stays at 5
pub record Part (n k : ℕ) (gs : List ℕ) : Type 0 where
  pub count : ℕ
  pub capped : k ≡ min count 5
  pub start : count ≡ 0 → (n ≡ 0) × (gs ≡ [])
  pub shown : (u : ℕ) → 1 ≤ u → n + u * 128 ^ count < 2 ^ 64 → gs ++ groups u ≡ groups (n + u * 128 ^ count)

part_none : Part 0 0 []
part_none =
    record {
      count = 0;
      capped = refl;
      start = λ _. (refl, refl);
      shown = λ u l h. let e : u ≡ 0 + u * 128 ^ 0 = omega arith in ap groups e;
    }

power : (k : ℕ) → 1 ≤ 128 ^ k
power zero = lit≤ tt
power (suc k) = rw (pow-suc 128 k) (omega (arith, power k))

-- a group that fits weighs what its place says
pub same_weight : (g k count : ℕ) → k ≡ min count 5 → g * weight k ≤ 2147483648 → g * weight k ≡ g * 128 ^ count
same_weight g k count e h = go (leb count 5) refl
  where
    go : (t : Bool) → leb count 5 ≡ t → g * weight k ≡ g * 128 ^ count
    go true t =
        let l = leb-true count 5 t in
        let m : min k 5 ≡ count = omega (arith, e) in
        ap (λ (j : ℕ). g * 128 ^ j) m
    go false t =
        let l = leb-false count 5 t in
        let m : min k 5 ≡ 5 = omega (arith, e) in
        let s : g * 128 ^ 5 ≤ 2147483648 = rw m at h in
        let z : g ≡ 0 = omega (arith, s) in
        rw (z) (omega arith)

-- a group in front
groups_front : (g u : ℕ) → g < 128 → 1 ≤ u → u * 128 + g < 2 ^ 64 → (128 + g) ∷ groups u ≡ groups (u * 128 + g)
groups_front g u h l b = sym (groups_large {v = u * 128 + g} (omega arith) b ∙ rw (digits_div u h, digits_mod u h))

abbrev pub Good : List ℕ → ℕ → Group → Type 0
Good gs b (Going m j) = Part m j (gs ++ (b ∷ []))
Good gs b (Whole v) = (v ≤ 2147483648) × (gs ++ (b ∷ []) ≡ groups v)
Good gs b (Bad e) = Refused (number e)

module _ (n k b : ℕ) (gs : List ℕ) (byte : b < 256) (p : Part n k gs) (fits : n + b % 128 * weight k ≤ 2147483648) where
  same : n + b % 128 * weight k ≡ n + b % 128 * 128 ^ p.count
  same = ap (λ (x : ℕ). n + x) (same_weight (b % 128) k p.count p.capped (omega (arith, fits)))

  only_zero : b ≡ 0 → k ≡ 0 → Good gs b (Whole (n + b % 128 * weight k))
  only_zero e f =
      let z : p.count ≡ 0 = omega (arith, p.capped, f) in
      let s = p.start z in
      let m : b % 128 ≡ 0 = mod-eq_of_lt {n = b} {m = 128} (omega (arith, e)) ∙ e in
      let w : n + b % 128 * weight k ≡ 0 = rw (m, s.0) (omega arith) in
      (fits, rw (s.1, w, e) (sym (groups_small {v = 0} (lit< tt))))

  last_group : b < 128 → (b ≡ 0 → ⊥) → Good gs b (Whole (n + b % 128 * weight k))
  last_group l z =
      let m : b % 128 ≡ b = mod-eq_of_lt l in
      let w : n + b % 128 * weight k ≡ n + b * 128 ^ p.count = same ∙ rw m in
      let one : 1 ≤ b = omega arith in (
        fits,
        ap (λ (g : List ℕ). gs ++ g) (sym (groups_small l)) ∙ p.shown b one (omega (arith, w, fits)) ∙ ap groups (sym w),
      )

  more_groups : 128 ≤ b → Good gs b (Going (n + b % 128 * weight k) (min (k + 1) 5))
  more_groups l =
      let g = b % 128 in
      let below = mod-lt b {m = 128} (lit< tt) in
      let whole : 128 + b % 128 ≡ b =
      let d = mod-eq-sub-mod {n = b} {m = 128} l in
      let r = mod-eq_of_lt {n = b - 128} {m = 128} (omega arith) in
      omega (arith, d, r) in
      record {
        count = p.count + 1;
        capped = omega (arith, p.capped);
        start = λ y. absurd (omega (arith, y));
        shown =
            λ u one h.
            let w : 128 ^ (p.count + 1) ≡ 128 ^ p.count * 128 = rw add-one (pow-suc 128 p.count) in
            let q : n + b % 128 * weight k + u * 128 ^ (p.count + 1) ≡ n + (u * 128 + b % 128) * 128 ^ p.count =
            rw (same, w) (omega arith) in
            let h' : n + (u * 128 + b % 128) * 128 ^ p.count < 2 ^ 64 = rw q at h in
            let least = mul-le-mul_left (u * 128 + b % 128) (power p.count) in
            append_assoc gs (b ∷ []) (groups u)
            ∙ ap (λ (x : ℕ). gs ++ (x ∷ groups u)) (sym whole)
            ∙ ap (λ (y : List ℕ). gs ++ y) (groups_front (b % 128) u below one (omega (arith, h', least)))
            ∙ p.shown (u * 128 + b % 128) (omega arith) h'
            ∙ ap groups (sym q);
      }

pub group_good : (n k b : ℕ) (gs : List ℕ) → b < 256 → Part n k gs → Good gs b (group n k b)
group_good n k b gs byte p =
    by_test (Good gs b) (leb (n + b % 128 * weight k) 2147483648)
    (λ f.
    let fits = leb-true (n + b % 128 * weight k) 2147483648 f in
    by_test (Good gs b) (ltb b 128)
    (λ l.
    by_test (Good gs b) (eqb b 0)
    (λ z.
    by_test (Good gs b) (eqb k 0) (λ o. only_zero n k b gs byte p fits (eqb-true b 0 z) (eqb-true k 0 o)) (λ _. refuses tt))
    (λ z. last_group n k b gs byte p fits (ltb-true b 128 l) (eqb-false b 0 z)))
    (λ l. more_groups n k b gs byte p fits (ltb-false b 128 l)))
    (λ _. refuses tt)

-- ---- the places

abbrev Small : ℕ → Type 0
Small v = v ≤ 2147483648

grouped_snoc : (vs : List ℕ) (v : ℕ) → grouped (vs ++ (v ∷ [])) ≡ grouped vs ++ groups v
grouped_snoc [] v = append-nil (groups v)
grouped_snoc (u ∷ vs) v = rw (grouped_snoc vs v) (sym (append_assoc (groups u) (grouped vs) (groups v)))

-- whole rows behind the count of all of them, of which `left` follow
pub record Rows (left : ℕ) (bytes : List ℕ) : Type 0 where
  pub rows : List (List ℕ)
  pub good : Each (Line 9) rows
  pub few : length rows + left < 2147483648
  pub shown : bytes ≡ groups (length rows + left + 1) ++ joined grouped rows

-- whole numbers of a line behind `before`, of `total` in all
pub record Numbers (before : List ℕ) (total left : ℕ) (bytes : List ℕ) : Type 0 where
  pub vs : List ℕ
  pub small : Each Small vs
  pub sum : length vs + left + 1 ≡ total
  pub shown : bytes ≡ before ++ grouped vs

numbers_none : {before bytes : List ℕ} (total left : ℕ) → left + 1 ≡ total → bytes ≡ before → Numbers before total left bytes
numbers_none {before} total left e h = record { vs = []; small = tt; sum = omega (arith, e); shown = h ∙ sym (append-nil before) }

module _ {before : List ℕ} {total left : ℕ} {bytes : List ℕ} (v : ℕ) (small : v ≤ 2147483648) (i : Numbers before total left bytes) where
  shown_more : bytes ++ groups v ≡ before ++ grouped (i.vs ++ (v ∷ []))
  shown_more = rw (i.shown, grouped_snoc i.vs v) (append_assoc before (grouped i.vs) (groups v))

  numbers_more : (left ≡ 0 → ⊥) → Numbers before total (left - 1) (bytes ++ groups v)
  numbers_more z =
      record {
        vs = i.vs ++ (v ∷ []);
        small = each_snoc Small i.vs i.small small;
        sum = omega (arith, i.sum, length-append i.vs (v ∷ []));
        shown = shown_more;
      }

  numbers_all : left ≡ 0 → Line total (i.vs ++ (v ∷ []))
  numbers_all z = (omega (arith, i.sum, z, length-append i.vs (v ∷ [])), each_snoc Small i.vs i.small small)

-- what stands before the number at a place
abbrev pub Before : Place → List ℕ → Type 0
Before Count bytes = bytes ≡ []
Before (Cell rows left) bytes = (done : List ℕ) × Rows (rows + 1) done × Numbers done 9 left bytes
Before Kind bytes = Rows 0 bytes
Before (Tail left) bytes = (done : List ℕ) × (k : Bool) × Rows 0 done × Numbers (done ++ groups (kind k)) (last_count k) left bytes

abbrev pub Seen : Packed → List ℕ → Type 0
Seen (At p n k) bytes = (done gs : List ℕ) × Before p done × Part n k gs × (bytes ≡ done ++ gs)
Seen Done bytes = (l : Listing) × Valid l × (packed l ≡ bytes)
Seen (Halt n) bytes = Refused (number n)

at_place : (p : Place) (bytes : List ℕ) → Before p bytes → Seen (At p 0 0) bytes
at_place p bytes w = (bytes, [], w, part_none, sym (append-nil bytes))

rows_seen : (n : ℕ) (bytes : List ℕ) → Rows n bytes → Seen (rows_on n) bytes
rows_seen n bytes r =
    by_test (λ (s : Packed). Seen s bytes) (eqb n 0)
    (λ e. at_place Kind bytes (rw (eqb-true n 0 e) at r))
    (λ e.
    let z = eqb-false n 0 e in
    let m : n - 1 + 1 ≡ n = omega arith in
    at_place (Cell (n - 1) 8) bytes (bytes, rw m r, numbers_none 9 8 refl refl))

reached_seen : (p : Place) (bytes : List ℕ) (v : ℕ) → v ≤ 2147483648 → Before p bytes → Seen (reached p v) (bytes ++ groups v)
reached_seen Count bytes v h w =
    by_test (λ (s : Packed). Seen s (bytes ++ groups v)) (eqb v 0) (λ _. refuses tt)
    (λ e.
    let z = eqb-false v 0 e in
    let m : 0 + (v - 1) + 1 ≡ v = omega arith in
    rows_seen (v - 1) (bytes ++ groups v)
    (record { rows = []; good = tt; few = omega arith; shown = rw (w, m) (sym (append-nil (groups v))) }))
reached_seen (Cell rows left) bytes v h w =
    let i = w.2 in
    by_test (λ (s : Packed). Seen s (bytes ++ groups v)) (eqb left 0)
    (λ e.
    let r = w.1 in
    let line = i.vs ++ (v ∷ []) in
    let n = length-append r.rows (line ∷ []) in
    let c : length (r.rows ++ (line ∷ [])) + rows + 1 ≡ length r.rows + (rows + 1) + 1 = omega (arith, n) in
    rows_seen rows (bytes ++ groups v)
    (record {
      rows = r.rows ++ (line ∷ []);
      good = each_snoc (Line 9) r.rows r.good (numbers_all v h i (eqb-true left 0 e));
      few = omega (arith, n, r.few);
      shown =
          shown_more v h i
          ∙ rw (c, joined_snoc grouped r.rows line, r.shown) (append_assoc (groups (length r.rows + (rows + 1) + 1)) (joined grouped r.rows) (grouped line));
    }))
    (λ e. at_place (Cell rows (left - 1)) (bytes ++ groups v) (w.0, w.1, numbers_more v h i (eqb-false left 0 e)))
reached_seen Kind bytes v h w =
    by_test (λ (s : Packed). Seen s (bytes ++ groups v)) (eqb v 1)
    (λ e. at_place (Tail 2) (bytes ++ groups v) (bytes, false, w, numbers_none 3 2 refl (rw (eqb-true v 1 e) refl)))
    (λ _.
    by_test (λ (s : Packed). Seen s (bytes ++ groups v)) (eqb v 2)
    (λ e. at_place (Tail 4) (bytes ++ groups v) (bytes, true, w, numbers_none 5 4 refl (rw (eqb-true v 2 e) refl)))
    (λ _. refuses tt))
reached_seen (Tail left) bytes v h w =
    let i = w.3 in
    let r = w.2 in
    by_test (λ (s : Packed). Seen s (bytes ++ groups v)) (eqb left 0)
    (λ e.
    let line = i.vs ++ (v ∷ []) in
    let z : length r.rows + 0 ≡ length r.rows = omega arith in (
      record { rows = r.rows; refused = w.1; last = line },
      record { rows = r.good; count = omega (arith, r.few); last = numbers_all v h i (eqb-true left 0 e) },
      sym (shown_more v h i ∙ rw (r.shown, z) (simp append_assoc)),
    ))
    (λ e. at_place (Tail (left - 1)) (bytes ++ groups v) (w.0, w.1, r, numbers_more v h i (eqb-false left 0 e)))

-- ---- every byte

grouping_seen :
    (p : Place) (done gs : List ℕ) (b : ℕ) (x : Group) → Before p done → Good gs b x → Seen (grouping p x) (done ++ (gs ++ (b ∷ [])))
grouping_seen p done gs b (Going m j) w g = (done, gs ++ (b ∷ []), w, g, refl)
grouping_seen p done gs b (Whole v) w g = rw g.1 (reached_seen p done v g.0 w)
grouping_seen p done gs b (Bad e) w g = g

step_seen : (s : Packed) (bytes : List ℕ) (b : ℕ) → b < 256 → Seen s bytes → Seen (step s b) (bytes ++ (b ∷ []))
step_seen (At p n k) bytes b h w =
    rw (w.4, append_assoc w.0 w.1 (b ∷ []))
    (grouping_seen p w.0 w.1 b (group n k b) w.2 (group_good n k b w.1 h w.3))
step_seen Done bytes b h w = refuses tt
step_seen (Halt n) bytes b h w = w

pub all_seen : (s : Packed) (before bytes : List ℕ) → Each (λ b. b < 256) bytes → Seen s before → Seen (after step s bytes) (before ++ bytes)
all_seen s before [] h w = rw append-nil w
all_seen s before (b ∷ bytes) h w =
    rw (append_assoc before (b ∷ []) bytes) at (all_seen (step s b) (before ++ (b ∷ [])) bytes h.1 (step_seen s before b h.0 w))

read_whole : (s : Packed) (bytes : List ℕ) → Seen s bytes → verdict s ≡ 0 → (l : Listing) × Valid l × (packed l ≡ bytes)
read_whole (At p n k) bytes w e = absurd (omega (arith, e))
read_whole Done bytes w e = w
read_whole (Halt n) bytes w e = absurd (w.refused e)

pub seen : (bytes : List ℕ) → Each (λ b. b < 256) bytes → Seen (after step (At Count 0 0) bytes) bytes
seen bytes h = all_seen (At Count 0 0) [] bytes h (at_place Count [] refl)

pub packed_only : PackedOnly
packed_only bytes h e = read_whole (after step (At Count 0 0) bytes) bytes (seen bytes h) e
