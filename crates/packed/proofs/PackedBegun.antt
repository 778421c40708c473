-- Packed bytes that have begun: whole numbers, which the reader leaves at the start of a number, then groups that more are to follow; and
-- from the start of any number the reading can be brought to an end, by a 1 for each number that is missing. Assumes nothing.
use mathlib.Core.Path.{◌≡◌, refl, ap, sym, ◌∙◌}
use mathlib.Core.Bool.{Bool, true, false}
use mathlib.Core.List.{List, [], ◌∷◌, ◌++◌}
use mathlib.Core.Logic.{inl, inr}
use Prim.Native.Nat.{ℕ, zero, suc, ◌+◌, ◌-◌, ◌*◌, ◌%◌, ◌^◌, ◌≤◌, ◌<◌, min}
use native.Mathlib.Nat.{pow-suc, pow-le-pow_right, mul-le-mul_left, mod-lt}
use native.Mathlib.Numerals.{add-one}
use native.Mathlib.Omega.{arith}
use borrow.Author.Tests.{eqb-true, eqb-false, ltb-true, ltb-false, leb-true, leb-false, le-leb, le-ltb}
use lib.Dec.{lit<, ltb, leb, eqb}
use lib.ListN.{length}
use Rattle.packed.specs.declared.Group.{Group}
use Rattle.packed.specs.declared.Group.TheVariants.{Going, Whole, Bad}
use Rattle.packed.specs.declared.Place.{Place}
use Rattle.packed.specs.declared.Place.TheVariants.{Count, Cell, Kind, Tail}
use Rattle.packed.specs.declared.Refusal.TheVariants as refusal
use Rattle.packed.specs.Answers.{number}
use Rattle.packed.specs.declared.Packed.{Packed}
use Rattle.packed.specs.declared.Packed.TheVariants.{At, Done, Halt}
use Rattle.packed.specs.Machine.{after}
use Rattle.listing.specs.Listing.{Each}
use Rattle.packed.specs.Packed.{weight, group, rows_on, reached, grouping, step, verdict}
use Rattle.packed.specs.Refusals.{NumberEnds, value}
use Rattle.packed.proofs.Cases.{Refused, refuses, by_test}
use Rattle.packed.proofs.Runs.{after_append, packed_halted}
use Rattle.packed.proofs.PackedOnly.{same_weight}
use Rattle.packed.proofs.PackedRead.{cell_goes, rows_more, tail_goes}

-- ---- a group, by its four outcomes

pub by_group :
    (P : Group → Type 0) (n k b : ℕ)
    → (2147483648 < n + b % 128 * weight k → P (Bad refusal.TooLarge))
    → (n + b % 128 * weight k ≤ 2147483648 → 128 ≤ b → P (Going (n + b % 128 * weight k) (min (k + 1) 5)))
    → (b ≡ 0 → ¬ (k ≡ 0) → P (Bad refusal.NeedlessGroup))
    → (n + b % 128 * weight k ≤ 2147483648 → b < 128 → P (Whole (n + b % 128 * weight k)))
    → P (group n k b)
by_group P n k b large more needless whole =
    let m = n + b % 128 * weight k in
    by_test P (leb m 2147483648)
    (λ f.
    let l = leb-true m 2147483648 f in
    by_test P (ltb b 128)
    (λ h.
    by_test P (eqb b 0)
    (λ z. by_test P (eqb k 0) (λ _. whole l (ltb-true b 128 h)) (λ y. needless (eqb-true b 0 z) (eqb-false k 0 y)))
    (λ _. whole l (ltb-true b 128 h)))
    (λ h. more l (ltb-false b 128 h)))
    (λ f. large (leb-false m 2147483648 f))

-- ---- a refusal's state tells a refusal

abbrev pub Sound : Packed → Type 0
Sound (At p n k) = Unit
Sound Done = Unit
Sound (Halt n) = Refused (number n)

reached_sound : (p : Place) (v : ℕ) → Sound (reached p v)
reached_sound Count v =
    by_test Sound (eqb v 0) (λ _. refuses tt) (λ _. by_test Sound (eqb (v - 1) 0) (λ _. tt) (λ _. tt))
reached_sound (Cell rows left) v =
    by_test Sound (eqb left 0) (λ _. by_test Sound (eqb rows 0) (λ _. tt) (λ _. tt)) (λ _. tt)
reached_sound Kind v = by_test Sound (eqb v 1) (λ _. tt) (λ _. by_test Sound (eqb v 2) (λ _. tt) (λ _. refuses tt))
reached_sound (Tail left) v = by_test Sound (eqb left 0) (λ _. tt) (λ _. tt)

step_sound : (s : Packed) (b : ℕ) → Sound s → Sound (step s b)
step_sound (At p n k) b w =
    by_group (λ (g : Group). Sound (grouping p g)) n k b (λ _. refuses tt) (λ _ _. tt) (λ _ _. refuses tt)
    (λ _ _. reached_sound p (n + b % 128 * weight k))
step_sound Done b w = refuses tt
step_sound (Halt n) b w = w

pub sound : (s : Packed) (bytes : List ℕ) → Sound s → Sound (after step s bytes)
sound s [] w = w
sound s (b ∷ bytes) w = sound (step s b) bytes (step_sound s b w)

-- ---- after whole numbers the reader is at the start of one

abbrev AtStart : Packed → Type 0
AtStart (At p n k) = (n ≡ 0) × (k ≡ 0)
AtStart Done = Unit
AtStart (Halt n) = Unit

rows_start : (rows : ℕ) → AtStart (rows_on rows)
rows_start rows = by_test AtStart (eqb rows 0) (λ _. (refl, refl)) (λ _. (refl, refl))

reached_start : (p : Place) (v : ℕ) → AtStart (reached p v)
reached_start Count v = by_test AtStart (eqb v 0) (λ _. tt) (λ _. rows_start (v - 1))
reached_start (Cell rows left) v = by_test AtStart (eqb left 0) (λ _. rows_start rows) (λ _. (refl, refl))
reached_start Kind v = by_test AtStart (eqb v 1) (λ _. (refl, refl)) (λ _. by_test AtStart (eqb v 2) (λ _. (refl, refl)) (λ _. tt))
reached_start (Tail left) v = by_test AtStart (eqb left 0) (λ _. tt) (λ _. (refl, refl))

step_start : (s : Packed) (b : ℕ) → b < 128 → AtStart (step s b)
step_start (At p n k) b h =
    by_group (λ (g : Group). AtStart (grouping p g)) n k b (λ _. tt) (λ _ l. absurd (omega (arith, h, l))) (λ _ _. tt)
    (λ _ _. reached_start p (n + b % 128 * weight k))
step_start Done b h = tt
step_start (Halt n) b h = tt

ends_start : (done : List ℕ) → NumberEnds done → AtStart (after step (At Count 0 0) done)
ends_start done h = elim h [
  | inl e ↦ rw e (refl, refl)
  | inr x ↦ rw (x.3, after_append step (At Count 0 0) x.0 (x.1 ∷ [])) (step_start (after step (At Count 0 0) x.0) x.1 x.2)
]

pub started : (done : List ℕ) → NumberEnds done → verdict (after step (At Count 0 0) done) ≡ 43 → (p : Place) × (after step (At Count 0 0) done ≡ At p 0 0)
started done h e = go (after step (At Count 0 0) done) (ends_start done h) (sound (At Count 0 0) done tt) e
  where
    go : (s : Packed) → AtStart s → Sound s → verdict s ≡ 43 → (p : Place) × (s ≡ At p 0 0)
    go (At p n k) a w e = (p, rw (a.0, a.1))
    go Done a w e = absurd (omega (arith, e))
    go (Halt n) a w e = absurd (w.stopped e)

-- ---- an end from the start of a number

abbrev pub Bytes : List ℕ → Type 0
Bytes m = Each (λ b. b < 256) m

abbrev pub Fin : Packed → Type 0
Fin s = (m : List ℕ) × Bytes m × (verdict (after step s m) ≡ 0)

-- one more number
one : (p : Place) → Fin (reached p 1) → Fin (At p 0 0)
one p f = (1 ∷ f.0, (lit< tt, f.1), f.2)

fin_tail : (left : ℕ) → Fin (At (Tail left) 0 0)
fin_tail zero = one (Tail 0) ([], tt, refl)
fin_tail (suc left) = one (Tail (suc left)) (rw (tail_goes left 1) (fin_tail left))

fin_kind : Fin (At Kind 0 0)
fin_kind = one Kind (fin_tail 2)

fin_cell : (left rows : ℕ) → Fin (rows_on rows) → Fin (At (Cell rows left) 0 0)
fin_cell zero rows f = one (Cell rows 0) f
fin_cell (suc left) rows f = one (Cell rows (suc left)) (rw (cell_goes rows left 1) (fin_cell left rows f))

fin_rows : (rows : ℕ) → Fin (rows_on rows)
fin_rows zero = fin_kind
fin_rows (suc rows) = rw (rows_more rows) (fin_cell 8 rows (fin_rows rows))

pub fin : (p : Place) → Fin (At p 0 0)
fin Count = one Count (fin_rows 0)
fin (Cell rows left) = fin_cell left rows (fin_rows rows)
fin Kind = fin_kind
fin (Tail left) = fin_tail left

-- after any number but the kind
abbrev pub NotKind : Place → Type 0
NotKind Count = Unit
NotKind (Cell rows left) = Unit
NotKind Kind = ⊥
NotKind (Tail left) = Unit

pub fin_reached : (p : Place) (v : ℕ) → 1 ≤ v → NotKind p → Fin (reached p v)
fin_reached Count v l k = by_test Fin (eqb v 0) (λ e. absurd (omega (arith, l, eqb-true v 0 e))) (λ _. fin_rows (v - 1))
fin_reached (Cell rows left) v l k = by_test Fin (eqb left 0) (λ _. fin_rows rows) (λ _. fin (Cell rows (left - 1)))
fin_reached Kind v l k = absurd k
fin_reached (Tail left) v l k = by_test Fin (eqb left 0) (λ _. ([], tt, refl)) (λ _. fin_tail (left - 1))

-- ---- groups that more are to follow

abbrev pub High : List ℕ → Type 0
High gs = Each (λ b. 128 ≤ b) gs

-- the whole numbers of any bytes, and the groups behind them
pub split : (bytes : List ℕ) → (done gs : List ℕ) × NumberEnds done × High gs × (bytes ≡ done ++ gs)
split [] = ([], [], inl refl, tt, refl)
split (b ∷ bytes) =
    let x = split bytes in
    elim x.2 [
      | inl e ↦ go x.1 x.3 (x.4 ∙ rw e refl) (ltb b 128) refl
      | inr y ↦ (b ∷ x.0, x.1, inr (b ∷ y.0, y.1, y.2, ap (λ (l : List ℕ). b ∷ l) y.3), x.3, ap (λ (l : List ℕ). b ∷ l) x.4)
    ]
  where
    go : (gs : List ℕ) → High gs → bytes ≡ gs → (t : Bool) → ltb b 128 ≡ t → (done gs : List ℕ) × NumberEnds done × High gs × (b ∷ bytes ≡ done ++ gs)
    go gs h e true t = (b ∷ [], gs, inr ([], b, ltb-true b 128 t, refl), h, ap (λ (l : List ℕ). b ∷ l) e)
    go gs h e false t = ([], b ∷ gs, inl refl, (ltb-false b 128 t, h), ap (λ (l : List ℕ). b ∷ l) e)

-- a group that fits by its place weighs so
weighs : (g k count : ℕ) → k ≡ min count 5 → g * 128 ^ count ≤ 2147483648 → g * weight k ≡ g * 128 ^ count
weighs g k count e h = go (leb count 5) refl
  where
    go : (t : Bool) → leb count 5 ≡ t → g * weight k ≡ g * 128 ^ count
    go true t =
        let l = leb-true count 5 t in
        let m : min k 5 ≡ count = omega (arith, e) in
        ap (λ (j : ℕ). g * 128 ^ j) m
    go false t =
        let l = leb-false count 5 t in
        let p = mul-le-mul_left g (pow-le-pow_right {n = 128} (lit< tt) {i = 5} {j = count} (omega arith)) in
        let z : g ≡ 0 = omega (arith, h, p) in
        rw z (omega arith)

-- the number so far fits, in the reader's way and by its value
pub fits_so : (n g k count : ℕ) → k ≡ min count 5 → n + g * 128 ^ count ≤ 2147483648 → n + g * weight k ≡ n + g * 128 ^ count
fits_so n g k count e h = ap (λ (x : ℕ). n + x) (weighs g k count e (omega (arith, h)))

pub fits_too : (n g k count : ℕ) → k ≡ min count 5 → n + g * weight k ≤ 2147483648 → n + g * weight k ≡ n + g * 128 ^ count
fits_too n g k count e h = ap (λ (x : ℕ). n + x) (same_weight g k count e (omega (arith, h)))

value_step : (n g w count : ℕ) → n + g * 128 ^ count + w * 128 ^ (count + 1) ≡ n + (g + 128 * w) * 128 ^ count
value_step n g w count =
    let e : 128 ^ (count + 1) ≡ 128 ^ count * 128 = rw add-one (pow-suc 128 count) in
    rw e (omega arith)

going : (n k b : ℕ) → 128 ≤ b → n + b % 128 * weight k ≤ 2147483648 → group n k b ≡ Going (n + b % 128 * weight k) (min (k + 1) 5)
going n k b h l = rw (le-leb (n + b % 128 * weight k) 2147483648 l, le-ltb b 128 h)

pub high_run :
    (p : Place) (n k count : ℕ) (gs : List ℕ)
    → k ≡ min count 5
    → High gs
    → n + value gs * 128 ^ count ≤ 2147483648
    → after step (At p n k) gs ≡ At p (n + value gs * 128 ^ count) (min (count + length gs) 5)
high_run p n k count [] e h l =
    let a : n ≡ n + 0 * 128 ^ count = omega arith in
    let c : k ≡ min (count + 0) 5 = omega (arith, e) in
    rw (← a, ← c)
high_run p n k count (b ∷ gs) e h l =
    let s = value_step n (b % 128) (value gs) count in
    let f = fits_so n (b % 128) k count e (omega (arith, s, l)) in
    let g = ap (grouping p) (going n k b h.0 (omega (arith, f, s, l))) in
    let c : min (count + 1 + length gs) 5 ≡ min (count + suc (length gs)) 5 = omega arith in
    ap (λ (t : Packed). after step t gs) g
    ∙ high_run p (n + b % 128 * weight k) (min (k + 1) 5) (count + 1) gs (omega (arith, e)) h.1 (omega (arith, f, s, l))
    ∙ rw (f, s, c)

-- if the reader did not stop within them, they fit
pub high_fits :
    (p : Place) (n k count : ℕ) (gs : List ℕ)
    → k ≡ min count 5
    → n ≤ 2147483648
    → High gs
    → verdict (after step (At p n k) gs) ≡ 43
    → n + value gs * 128 ^ count ≤ 2147483648
high_fits p n k count [] e m h v = omega (arith, m)
high_fits p n k count (b ∷ gs) e m h v =
    go (leb (n + b % 128 * weight k) 2147483648) refl
    (λ l.
    high_fits p (n + b % 128 * weight k) (min (k + 1) 5) (count + 1) gs (omega (arith, e)) l h.1
    (rw (going n k b h.0 l) at v))
  where
    go :
        (t : Bool)
        → leb (n + b % 128 * weight k) 2147483648 ≡ t
        → (n + b % 128 * weight k ≤ 2147483648 → n + b % 128 * weight k + value gs * 128 ^ (count + 1) ≤ 2147483648)
        → n + (b % 128 + 128 * value gs) * 128 ^ count ≤ 2147483648
    go true t ih =
        let l = leb-true (n + b % 128 * weight k) 2147483648 t in
        omega (arith, ih l, fits_too n (b % 128) k count e l, value_step n (b % 128) (value gs) count)
    go false t ih =
        let k : after step (At p n k) (b ∷ gs) ≡ Halt refusal.TooLarge = rw t (packed_halted refusal.TooLarge gs) in
        absurd (omega (arith, sym (ap verdict k) ∙ v))

pub value_snoc : (gs : List ℕ) (b : ℕ) → value (gs ++ (b ∷ [])) ≡ value gs + b % 128 * 128 ^ length gs
value_snoc [] b = omega arith
value_snoc (g ∷ gs) b = rw (value_snoc gs b, pow-suc 128 (length gs)) (omega arith)

pub value_less : (gs : List ℕ) → value gs < 128 ^ length gs
value_less [] = lit< tt
value_less (g ∷ gs) = rw (pow-suc 128 (length gs)) (omega (arith, value_less gs, mod-lt g {m = 128} (lit< tt)))
