-- When unpacking gives each refusal. Where the reading has not stopped, the bytes are whole numbers that begin a packed listing, and groups
-- of a next one; what the next byte makes of them is told by the group that it is. Assumes nothing.
use mathlib.Core.Path.{◌≡◌, refl, ap, sym, ◌∙◌}
use mathlib.Core.Bool.{Bool, true, false}
use mathlib.Core.List.{List, [], ◌∷◌, ◌++◌, append_assoc, append-nil}
use mathlib.Core.Logic.Iff
use mathlib.Core.Logic.{◌↔◌, ◌⊎◌, inl, inr}
use Prim.Native.Nat.{ℕ, ◌+◌, ◌-◌, ◌*◌, ◌%◌, ◌^◌, ◌≤◌, ◌<◌, min}
use native.Mathlib.Nat.{pow-le-pow_right}
use native.Mathlib.Omega.{arith}
use borrow.Author.Tests.{eqb-true, eqb-false, leb-true, leb-false, le-leb, lt-leb, ne_eqb}
use lib.Dec.{lit<, lit≤, eqb, leb}
use lib.ListN.{length}
use Rattle.packed.specs.declared.Group.{Group}
use Rattle.packed.specs.declared.Group.TheVariants.{Whole}
use Rattle.packed.specs.declared.Place.{Place}
use Rattle.packed.specs.declared.Place.TheVariants.{Count, Cell, Kind, Tail}
use Rattle.packed.specs.declared.Packed.{Packed}
use Rattle.packed.specs.declared.Refusal.TheVariants.{WrongValue}
use Rattle.packed.specs.declared.Packed.TheVariants.{At, Done, Halt}
use Rattle.packed.specs.Machine.{after}
use Rattle.listing.specs.Number.{groups}
use Rattle.listing.specs.Listing.{Listing, Valid, text, packed, joined, grouped}
use Rattle.packed.specs.Packed.{weight, group, rows_on, reached, grouping, step, verdict, packed_verdict, packed_text}
use Rattle.packed.specs.Converted.{unpacking}
use Rattle.packed.specs.Refusals.{AtKind, Begins, CountWrong, First, IsPacked, KindWrong, Reached, UnpackingRefused, value}
use Rattle.packed.proofs.Cases.{by_test, differ, each_append, each_back, each_front}
use Rattle.packed.proofs.Runs.{after_append, packed_halted}
use Rattle.packed.proofs.Groups.{groups_small}
use Rattle.packed.proofs.PackedBegun.{Bytes, NotKind, Sound, by_group, fin, fin_reached, fits_so, fits_too, high_fits, high_run, sound, split, started, value_less, value_snoc}
use Rattle.packed.proofs.PackedOnly.{Before, Seen, group_good, packed_only, seen}
use Rattle.packed.proofs.PackedRead.{a_count, all_rows, packed_read, whole}
use Rattle.packed.proofs.Rooms.{accepted, goes_through, none, too_small}
use Rattle.packed.proofs.Verdicts.{Judge, begins_begun, begins_whole, first_map, more_back, more_first, refused_back, refused_first, snoc}

abbrev start : Packed
start = At Count 0 0

-- ---- the reader is a judge

stays : (s : Packed) (b : ℕ) → ¬ (verdict s ≡ 0) → ¬ (verdict s ≡ 43) → verdict (step s b) ≡ verdict s
stays (At p n k) b x y = absurd (y refl)
stays Done b x y = absurd (x refl)
stays (Halt n) b x y = refl

over : (s : Packed) (b : ℕ) → Sound s → verdict s ≡ 0 → verdict (step s b) ≡ 44
over (At p n k) b w e = absurd (omega (arith, e))
over Done b w e = refl
over (Halt n) b w e = absurd (w.refused e)

-- a number that is wrong at its place
abbrev Wrong : Place → ℕ → Type 0
Wrong Count v = v ≡ 0
Wrong (Cell rows left) v = ⊥
Wrong Kind v = ¬ (v ≡ 1) × ¬ (v ≡ 2)
Wrong (Tail left) v = ⊥

abbrev Taken : Packed → Type 0
Taken t = (verdict t ≡ 43) ⊎ (verdict t ≡ 0)

rows_taken : (rows : ℕ) → Taken (rows_on rows)
rows_taken rows = by_test Taken (eqb rows 0) (λ _. inl refl) (λ _. inl refl)

abbrev Judged : Place → ℕ → Packed → Type 0
Judged p v t = Taken t ⊎ ((verdict t ≡ 46) × Wrong p v)

reached_judged : (p : Place) (v : ℕ) → Judged p v (reached p v)
reached_judged Count v = by_test (Judged Count v) (eqb v 0) (λ e. inr (refl, eqb-true v 0 e)) (λ _. inl (rows_taken (v - 1)))
reached_judged (Cell rows left) v = by_test (Judged (Cell rows left) v) (eqb left 0) (λ _. inl (rows_taken rows)) (λ _. inl (inl refl))
reached_judged Kind v =
    by_test (Judged Kind v) (eqb v 1) (λ _. inl (inl refl))
    (λ e.
    by_test (Judged Kind v) (eqb v 2) (λ _. inl (inl refl)) (λ f. inr (refl, (eqb-false v 1 e, eqb-false v 2 f))))
reached_judged (Tail left) v = by_test (Judged (Tail left) v) (eqb left 0) (λ _. inl (inr refl)) (λ _. inl (inl refl))

-- what a byte makes of a number n so far, of k groups
pub data Outcome (p : Place) (n k b : ℕ) (t : Packed) : Type 0 where
  taken : Taken t → Outcome p n k b t
  large : verdict t ≡ 42 → 2147483648 < n + b % 128 * weight k → Outcome p n k b t
  needless : verdict t ≡ 41 → b ≡ 0 → ¬ (k ≡ 0) → Outcome p n k b t
  wrong : verdict t ≡ 46 → (v : ℕ) → group n k b ≡ Whole v → Wrong p v → Outcome p n k b t

outcome : (p : Place) (n k b : ℕ) → Outcome p n k b (step (At p n k) b)
outcome p n k b =
    by_group (λ (g : Group). group n k b ≡ g → Outcome p n k b (grouping p g)) n k b
    (λ l _. large refl l)
    (λ _ _ _. taken (inl refl))
    (λ z y _. needless refl z y)
    (λ _ _ e. elim (reached_judged p (n + b % 128 * weight k)) [ inl t ↦ taken t | inr x ↦ wrong x.0 (n + b % 128 * weight k) e x.1 ])
    refl

at : (s : Packed) → Sound s → verdict s ≡ 43 → (p : Place) × (n k : ℕ) × (s ≡ At p n k)
at (At p n k) w e = (p, n, k, refl)
at Done w e = absurd (omega (arith, e))
at (Halt n) w e = absurd (w.stopped e)

live : (bytes : List ℕ) → packed_verdict bytes ≡ 43 → (p : Place) × (n k : ℕ) × (after step start bytes ≡ At p n k)
live bytes e = at (after step start bytes) (sound start bytes tt) e

-- no other number is told
no_other :
    (p : Place) (n k b m : ℕ) → ¬ (m ≡ 43) → ¬ (m ≡ 0) → ¬ (m ≡ 42) → ¬ (m ≡ 41) → ¬ (m ≡ 46) → ¬ (verdict (step (At p n k) b) ≡ m)
no_other p n k b m h₁ h₂ h₃ h₄ h₅ e = elim (outcome p n k b) [
  | taken t ↦ elim t [ inl z ↦ h₁ (sym e ∙ z) | inr z ↦ h₂ (sym e ∙ z) ]
  | large z l ↦ h₃ (sym e ∙ z)
  | needless z y x ↦ h₄ (sym e ∙ z)
  | wrong z v g w ↦ h₅ (sym e ∙ z)
]

judge : Judge step verdict start
judge =
    record {
      begun = refl;
      stays = stays;
      over = λ bytes b e. over (after step start bytes) b (sound start bytes tt) e;
      under =
          λ bytes b e z.
          let s = live bytes e in
          no_other s.0 s.1 s.2 b 44 (differ tt) (differ tt) (differ tt) (differ tt) (differ tt) (rw s.3 at z);
    }

-- ---- 43

begun : (bytes : List ℕ) → Begins IsPacked bytes → packed_verdict bytes ≡ 43
begun bytes x =
    begins_whole step verdict start judge bytes x.0 x.1 (ap packed_verdict (sym x.2.2) ∙ (packed_read x.2.0 x.2.1).0)

-- where the reader is
pub record Place-of (done gs bytes : List ℕ) : Type 0 where
  pub place : Place
  pub before : after step start done ≡ At place 0 0
  pub here : after step start bytes ≡ At place (value gs) (min (length gs) 5)

place_of : {done gs bytes : List ℕ} → Reached done gs bytes → Place-of done gs bytes
place_of {done} {gs} {bytes} r =
    let s = started done r.ends (begun done r.begins) in
    let e : 0 + value gs * 128 ^ 0 ≡ value gs = omega arith in
    let k : 0 + length gs ≡ length gs = omega arith in
    record {
      place = s.0;
      before = s.1;
      here =
          ap (λ (l : List ℕ). after step start l) r.bytes_are
          ∙ after_append step start done gs
          ∙ rw s.1 (rw (e, k) at (high_run s.0 0 0 0 gs refl r.going.0 (rw e r.going.1)));
    }

-- bytes with an end begin a packed listing
begins_by : (bytes m : List ℕ) → Bytes bytes → Bytes m → packed_verdict bytes ≡ 43 → packed_verdict (bytes ++ m) ≡ 0 → Begins IsPacked bytes
begins_by bytes [] h k e f = absurd (omega (arith, sym e ∙ (rw append-nil at f)))
begins_by bytes (b ∷ rest) h k e f = (b, rest, packed_only (bytes ++ (b ∷ rest)) (each_append (λ (x : ℕ). x < 256) bytes (b ∷ rest) h k) f)

reached_by : (bytes : List ℕ) → Bytes bytes → packed_verdict bytes ≡ 43 → (done gs : List ℕ) × Reached done gs bytes
reached_by bytes h e =
    let x = split bytes in
    let done = x.0 in
    let gs = x.1 in
    let v : packed_verdict (done ++ gs) ≡ 43 = rw x.4 at e in
    let d = begins_begun step verdict start judge done gs v in
    let s = started done x.2 d in
    let f = fin s.0 in
    let z : verdict (after step (At s.0 0 0) gs) ≡ 43 = rw s.1 at (sym (ap verdict (after_append step start done gs)) ∙ v) in
    let l = high_fits s.0 0 0 0 gs refl (lit≤ tt) x.3 z in (
      done,
      gs,
      record {
        begins =
            begins_by done f.0 (each_front (λ (y : ℕ). y < 256) done gs (rw x.4 at h)) f.1 d
            (ap verdict (after_append step start done f.0) ∙ rw s.1 f.2);
        ends = x.2;
        going = (x.3, omega (arith, l));
        bytes_are = x.4;
      },
    )

-- ---- 42

larger : (gs : List ℕ) (b : ℕ) → 2147483648 < value gs + b % 128 * weight (min (length gs) 5) → 2147483648 < value (gs ++ (b ∷ []))
larger gs b l = rw (value_snoc gs b) (go (leb (value gs + b % 128 * 128 ^ length gs) 2147483648) refl)
  where
    go : (t : Bool) → leb (value gs + b % 128 * 128 ^ length gs) 2147483648 ≡ t → 2147483648 < value gs + b % 128 * 128 ^ length gs
    go true t =
        let f = leb-true (value gs + b % 128 * 128 ^ length gs) 2147483648 t in
        absurd (omega (arith, l, f, fits_so (value gs) (b % 128) (min (length gs) 5) (length gs) refl f))
    go false t = leb-false (value gs + b % 128 * 128 ^ length gs) 2147483648 t

larger_too : (gs : List ℕ) (b : ℕ) → 2147483648 < value (gs ++ (b ∷ [])) → 2147483648 < value gs + b % 128 * weight (min (length gs) 5)
larger_too gs b l = go (leb (value gs + b % 128 * weight (min (length gs) 5)) 2147483648) refl
  where
    go : (t : Bool) → leb (value gs + b % 128 * weight (min (length gs) 5)) 2147483648 ≡ t → 2147483648 < value gs + b % 128 * weight (min (length gs) 5)
    go true t =
        let f = leb-true (value gs + b % 128 * weight (min (length gs) 5)) 2147483648 t in
        absurd (omega (arith, l, value_snoc gs b, f, fits_too (value gs) (b % 128) (min (length gs) 5) (length gs) refl f))
    go false t = leb-false (value gs + b % 128 * weight (min (length gs) 5)) 2147483648 t

group_large : (p : Place) (n k b : ℕ) → 2147483648 < n + b % 128 * weight k → verdict (step (At p n k) b) ≡ 42
group_large p n k b l = rw (lt-leb (n + b % 128 * weight k) 2147483648 l)

-- ---- 41

group_needless : (p : Place) (n k : ℕ) → n ≤ 2147483648 → ¬ (k ≡ 0) → verdict (step (At p n k) 0) ≡ 41
group_needless p n k l z = rw (le-leb (n + 0 % 128 * weight k) 2147483648 (omega (arith, l)), ne_eqb k 0 z)

some : (gs : List ℕ) → ¬ (min (length gs) 5 ≡ 0) ↔ ¬ (gs ≡ [])
some [] = (λ f e. f refl, λ f e. f refl)
some (g ∷ gs) = (λ f e. omega (arith, ap length e), λ f e. omega (arith, e))

-- ---- what an outcome says of the byte

is_large :
    (p : Place) (gs : List ℕ) (b : ℕ) {t : Packed}
    → Outcome p (value gs) (min (length gs) 5) b t
    → verdict t ≡ 42
    → 2147483648 < value (gs ++ (b ∷ []))
is_large p gs b o e = elim o [
  | taken t ↦ absurd (elim t [ inl z ↦ omega (arith, sym z ∙ e) | inr z ↦ omega (arith, sym z ∙ e) ])
  | large z l ↦ larger gs b l
  | needless z y x ↦ absurd (omega (arith, sym z ∙ e))
  | wrong z v g w ↦ absurd (omega (arith, sym z ∙ e))
]

is_needless :
    (p : Place) (gs : List ℕ) (b : ℕ) {t : Packed} → Outcome p (value gs) (min (length gs) 5) b t → verdict t ≡ 41 → ¬ (gs ≡ []) × (b ≡ 0)
is_needless p gs b o e = elim o [
  | taken t ↦ absurd (elim t [ inl z ↦ omega (arith, sym z ∙ e) | inr z ↦ omega (arith, sym z ∙ e) ])
  | large z l ↦ absurd (omega (arith, sym z ∙ e))
  | needless z y x ↦ ((some gs).0 x, y)
  | wrong z v g w ↦ absurd (omega (arith, sym z ∙ e))
]

-- ---- 46

-- the groups of a whole number behind what stands before it
number_whole :
    (bytes done gs good : List ℕ) (b v : ℕ) (rest : List ℕ)
    → bytes ≡ good ++ (b ∷ rest)
    → good ≡ done ++ gs
    → gs ++ (b ∷ []) ≡ groups v
    → bytes ≡ done ++ (groups v ++ rest)
number_whole bytes done gs good b v rest e f g =
    e
    ∙ ap (λ (l : List ℕ). l ++ (b ∷ rest)) f
    ∙ append_assoc done gs (b ∷ rest)
    ∙ ap (λ (l : List ℕ). done ++ l) (sym (append_assoc gs (b ∷ []) rest) ∙ ap (λ (l : List ℕ). l ++ rest) g)

-- a wrong number at its place
wrong_number :
    (p : Place) (v : ℕ) (bytes done rest : List ℕ) → Wrong p v → Before p done → v ≤ 2147483648 → bytes ≡ done ++ (groups v ++ rest) → CountWrong bytes ⊎ KindWrong bytes
wrong_number Count v bytes done rest w h l e = inl (rest, rw (h, w, groups_small {v = 0} (lit< tt)) at e)
wrong_number (Cell rows left) v bytes done rest w h l e = absurd w
wrong_number Kind v bytes done rest w h l e =
    let n : length h.rows + 0 ≡ length h.rows = omega arith in
    inr (record {
      done = done;
      at = (h.rows, h.good, omega (arith, h.few), rw n at h.shown);
      kind = v;
      fits = l;
      not_audio = w.0;
      not_refused = w.1;
      rest = rest;
      bytes_are = e;
    })
wrong_number (Tail left) v bytes done rest w h l e = absurd w

is_wrong : (bytes : List ℕ) → Bytes bytes → packed_verdict bytes ≡ 46 → CountWrong bytes ⊎ KindWrong bytes
is_wrong bytes h e =
    let f = refused_first step verdict start judge bytes 46 e (differ tt) (differ tt) (differ tt) in
    let byte : ℕ → Type 0 = λ y. y < 256 in
    let whole : Bytes (f.good ++ (f.next ∷ f.rest)) = rw f.whole at h in
    let s = live f.good f.holds.0 in
    let w : Seen (At s.0 s.1 s.2) f.good = rw s.3 at (seen f.good (each_front byte f.good (f.next ∷ f.rest) whole)) in
    let k : verdict (step (At s.0 s.1 s.2) f.next) ≡ 46 = rw s.3 at (sym (snoc step verdict start judge f.good f.next) ∙ f.holds.1) in
    elim (outcome s.0 s.1 s.2 f.next) [
      | taken t ↦ absurd (elim t [ inl z ↦ omega (arith, sym z ∙ k) | inr z ↦ omega (arith, sym z ∙ k) ])
      | large z l ↦ absurd (omega (arith, sym z ∙ k))
      | needless z y x ↦ absurd (omega (arith, sym z ∙ k))
      | wrong z v g x ↦
          let q = rw g at (group_good s.1 s.2 f.next w.1 (each_back byte f.good (f.next ∷ f.rest) whole).0 w.3) in
          wrong_number s.0 v bytes w.0 f.rest x w.2 q.0 (number_whole bytes w.0 w.1 f.good f.next v f.rest f.whole w.4 q.1)
    ]

at_kind : (done : List ℕ) → AtKind done → after step start done ≡ At Kind 0 0
at_kind done k =
    let n = length k.0 in
    rw k.3
    (after_append step start (groups (n + 1)) (joined grouped k.0) ∙ rw (a_count n k.2).ends (all_rows k.0 k.1).ends)

kind_wrong : (v : ℕ) → ¬ (v ≡ 1) → ¬ (v ≡ 2) → reached Kind v ≡ Halt WrongValue
kind_wrong v p q = simp (ne_eqb v 1 p, ne_eqb v 2 q)

wrong_read : (bytes : List ℕ) → CountWrong bytes ⊎ KindWrong bytes → packed_verdict bytes ≡ 46
wrong_read bytes x = elim x [
  | inl c ↦ rw c.1 (ap verdict (packed_halted WrongValue c.0))
  | inr k ↦
      let e = (whole Kind k.kind k.fits).ends ∙ kind_wrong k.kind k.not_audio k.not_refused in
      rw (k.bytes_are, after_append step start k.done (groups k.kind ++ k.rest), at_kind k.done k.at, after_append step (At Kind 0 0) (groups k.kind) k.rest, e)
      (ap verdict (packed_halted WrongValue k.rest))
]

-- ---- a begun number that can be ended

-- a last group of 1 fits, and ends it
last_one : (p : Place) (n k : ℕ) → n + 1 % 128 * weight k ≤ 2147483648 → step (At p n k) 1 ≡ reached p (n + 1 % 128 * weight k)
last_one p n k h =
    let e : group n k 1 ≡ Whole (n + 1 % 128 * weight k) = simp (le-leb (n + 1 % 128 * weight k) 2147483648 h) in
    ap (grouping p) e

ends_by_one : (p : Place) (gs : List ℕ) → length gs < 5 → (v : ℕ) × (1 ≤ v) × (step (At p (value gs) (min (length gs) 5)) 1 ≡ reached p v)
ends_by_one p gs l =
    let k = min (length gs) 5 in
    let c : min k 5 ≡ length gs = omega arith in
    let w : weight k ≡ 128 ^ length gs = ap (λ (j : ℕ). 128 ^ j) c in
    let few = pow-le-pow_right {n = 128} (lit< tt) {i = length gs} {j = 4} (omega arith) in
    let less = value_less gs in
    (value gs + 1 % 128 * weight k, omega (arith, less, w), last_one p (value gs) k (omega (arith, few, less, w)))

goes_on : (bytes done gs : List ℕ) → Bytes bytes → Reached done gs bytes → length gs < 5 → (AtKind done → gs ≡ []) → Begins IsPacked bytes
goes_on bytes done gs h r l k =
    let o = place_of r in
    go o.place o.before o.here
  where
    ended : (p : Place) → NotKind p → after step start bytes ≡ At p (value gs) (min (length gs) 5) → Begins IsPacked bytes
    ended p q e =
        let x = ends_by_one p gs l in
        let f = fin_reached p x.0 x.1 q in
        begins_by bytes (1 ∷ f.0) h (lit< tt, f.1) (ap verdict e)
        (ap verdict (after_append step start bytes (1 ∷ f.0))
        ∙ ap (λ (t : Packed). verdict (after step (step t 1) f.0)) e
        ∙ ap (λ (t : Packed). verdict (after step t f.0)) x.2
        ∙ f.2)

    go : (p : Place) → after step start done ≡ At p 0 0 → after step start bytes ≡ At p (value gs) (min (length gs) 5) → Begins IsPacked bytes
    go Count b e = ended Count tt e
    go (Cell rows left) b e = ended (Cell rows left) tt e
    go Kind b e =
        let w : Seen (At Kind 0 0) done = rw b at (seen done (each_front (λ (y : ℕ). y < 256) done gs (rw r.bytes_are at h))) in
        let d : done ≡ w.0 = w.4 ∙ rw (w.3.start (omega (arith, w.3.capped))).1 (append-nil w.0) in
        let n : length w.2.rows + 0 ≡ length w.2.rows = omega arith in
        let z = k (w.2.rows, w.2.good, omega (arith, w.2.few), d ∙ (rw n at w.2.shown)) in
        let same : bytes ≡ done = r.bytes_are ∙ rw z (append-nil done) in
        rw same r.begins
    go (Tail left) b e = ended (Tail left) tt e

-- ---- all of them

never : (bytes : List ℕ) → ¬ (packed_verdict bytes ≡ 45)
never bytes e =
    let f = refused_first step verdict start judge bytes 45 e (differ tt) (differ tt) (differ tt) in
    let s = live f.good f.holds.0 in
    no_other s.0 s.1 s.2 f.next 45 (differ tt) (differ tt) (differ tt) (differ tt) (differ tt)
    (rw s.3 at (sym (snoc step verdict start judge f.good f.next) ∙ f.holds.1))

-- the bytes of a byte that decides
within :
    {P : List ℕ → ℕ → Type 0} (bytes : List ℕ) → Bytes bytes → First P bytes → First (λ good b. Bytes good × P good b) bytes
within bytes h f =
    record {
      good = f.good;
      next = f.next;
      rest = f.rest;
      whole = f.whole;
      holds = (each_front (λ (y : ℕ). y < 256) f.good (f.next ∷ f.rest) (rw f.whole at h), f.holds);
    }

module _ (good : List ℕ) (b : ℕ) where
  -- what is refused with a number, told by where the reader is
  refused :
      (n : ℕ) (P : List ℕ → ℕ → Type 0)
      → ((p : Place) (gs : List ℕ) → Outcome p (value gs) (min (length gs) 5) b (step (At p (value gs) (min (length gs) 5)) b) → verdict (step (At p (value gs) (min (length gs) 5)) b) ≡ n → P gs b)
      → Bytes good × ((packed_verdict good ≡ 43) × (packed_verdict (good ++ (b ∷ [])) ≡ n))
      → (done gs : List ℕ) × Reached done gs good × P gs b
  refused n P f x =
      let r = reached_by good x.0 x.1.0 in
      let o = place_of r.2 in
      let k = min (length r.1) 5 in
      (r.0, r.1, r.2, f o.place r.1 (outcome o.place (value r.1) k b) (rw o.here at (sym (snoc step verdict start judge good b) ∙ x.1.1)))

  -- and back
  refused_so :
      (n : ℕ) (P : List ℕ → ℕ → Type 0)
      → ((p : Place) (gs : List ℕ) → value gs ≤ 2147483648 → P gs b → verdict (step (At p (value gs) (min (length gs) 5)) b) ≡ n)
      → (done gs : List ℕ) × Reached done gs good × P gs b
      → packed_verdict (good ++ (b ∷ [])) ≡ n
  refused_so n P f x =
      let o = place_of x.2 in
      snoc step verdict start judge good b ∙ rw o.here (f o.place x.1 x.2.going.1 x.3)

pub unpacking_refused : UnpackingRefused
unpacking_refused bytes out h =
    let w = packed_text bytes in
    let v = packed_verdict bytes in
    let through : (n : ℕ) → ¬ (n ≡ 0) → ¬ (n ≡ 45) → ((unpacking bytes out).0.refusal ≡ n) ↔ (v ≡ n) = goes_through w out v in
    let whole : (Q : ℕ → Type 0) → ((v ≡ 0) × Q (length w)) ↔ ((l : Listing) × Valid l × (packed l ≡ bytes) × Q (length (text l))) =
    accepted packed_verdict packed_text packed text bytes packed_read (packed_only bytes h) in
    record {
      none = Iff.trans (none w out v) (whole (λ k. k ≤ length out));
      needless =
          Iff.trans (through 41 (differ tt) (differ tt)) (
            λ e.
                first_map (λ good b x. refused good b 41 (λ gs c. ¬ (gs ≡ []) × (c ≡ 0)) (λ p gs o z. is_needless p gs b o z) x)
                (within bytes h (refused_first step verdict start judge bytes 41 e (differ tt) (differ tt) (differ tt))),
            λ f.
                refused_back step verdict start judge bytes 41 (differ tt) (differ tt)
                (first_map
                (λ good b x.
                refused_so good b 41 (λ gs c. ¬ (gs ≡ []) × (c ≡ 0))
                (λ p gs l y. rw y.1 (group_needless p (value gs) (min (length gs) 5) l ((some gs).1 y.0))) x) f),
          );
      large =
          Iff.trans (through 42 (differ tt) (differ tt)) (
            λ e.
                first_map (λ good b x. refused good b 42 (λ gs c. 2147483648 < value (gs ++ (c ∷ []))) (λ p gs o z. is_large p gs b o z) x)
                (within bytes h (refused_first step verdict start judge bytes 42 e (differ tt) (differ tt) (differ tt))),
            λ f.
                refused_back step verdict start judge bytes 42 (differ tt) (differ tt)
                (first_map
                (λ good b x.
                refused_so good b 42 (λ gs c. 2147483648 < value (gs ++ (c ∷ [])))
                (λ p gs l y. group_large p (value gs) (min (length gs) 5) b (larger_too gs b y)) x) f),
          );
      ends = Iff.trans (through 43 (differ tt) (differ tt)) (reached_by bytes h, λ x. ap verdict (place_of x.2).here);
      more =
          Iff.trans (through 44 (differ tt) (differ tt)) (
            λ e. first_map (λ good b x. packed_only good x.0 x.1) (within bytes h (more_first step verdict start judge bytes e)),
            λ f. more_back step verdict start judge bytes (first_map (λ good b x. ap packed_verdict (sym x.2) ∙ (packed_read x.0 x.1).0) f),
          );
      room = Iff.trans (too_small w out v (never bytes)) (whole (λ k. length out < k));
      wrong = Iff.trans (through 46 (differ tt) (differ tt)) (is_wrong bytes h, wrong_read bytes);
      begun = λ x. (through 43 (differ tt) (differ tt)).1 (begun bytes x);
      begins = λ done gs r l k. goes_on bytes done gs h r l k;
    }
