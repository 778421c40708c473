-- When packing gives each refusal. A text that has begun can be brought to an end, so it begins a listing; what begins a listing has begun,
-- because the listing is read to its end; and the byte that is refused is the one that the reader's outcome names. Assumes nothing.
use mathlib.Core.Path.{◌≡◌, refl, ap, sym, ◌∙◌}
use mathlib.Core.List.{List, [], ◌∷◌, ◌++◌, append_assoc, append-nil}
use mathlib.Core.Logic.Iff
use mathlib.Core.Logic.{◌↔◌, ◌⊎◌, inl, inr}
use Prim.Native.Nat.{ℕ, suc, ◌+◌, ◌≤◌, ◌<◌}
use native.Mathlib.Nat.{add-zero}
use native.Mathlib.Omega.{arith}
use lib.ListN.{length, length-append, get_or, drop}
use Rattle.packed.specs.declared.Part.{Part}
use Rattle.packed.specs.declared.Part.TheVariants.{Fresh}
use Rattle.packed.specs.declared.Text.{Text}
use Rattle.packed.specs.declared.Text.TheVariants.{Line, Row, Word, Last, End, Stop}
use Rattle.packed.specs.Machine.{after}
use Rattle.listing.specs.Number.{decimal}
use Rattle.listing.specs.Listing.{Listing, Valid, Each, line, joined, text, packed}
use Rattle.listing.specs.Listing as listing
use Rattle.packed.specs.Text.{next, row_end, row_on, step, verdict, text_verdict, text_packed}
use Rattle.packed.specs.Converted.{packing}
use Rattle.packed.specs.Refusals.{RowsTooMany, Unfinished, TooLarge, Malformed, PackingRefused}
use Rattle.packed.proofs.Cases.{differ}
use Rattle.packed.proofs.Rooms.{accepted, goes_through, none, too_small}
use Rattle.packed.proofs.Runs.{after_append}
use Rattle.packed.proofs.TextRead.{a_row, but_end, line_begins, one_more, row_first, row_goes, text_read}
use Rattle.packed.proofs.TextOnly.{Good, Seen, all_seen, next_good, row_ended, seen, text_only}
use Rattle.packed.proofs.TextBegun.{fin}
use Rattle.packed.proofs.TextLarge.{Outcome, fresh_after, number_large, outcome}
use Rattle.packed.proofs.Verdicts.{Judge, begins_begun, begins_whole, first_map, more_back, more_first, refused_back, refused_first, snoc}

-- ---- the reader is a judge

stays : (s : Text) (b : ℕ) → ¬ (verdict s ≡ 0) → ¬ (verdict s ≡ 43) → verdict (step s b) ≡ verdict s
stays (Line n) b p q = absurd (q refl)
stays (Row n left x) b p q = absurd (q refl)
stays (Word n at) b p q = absurd (q refl)
stays (Last n left x) b p q = absurd (q refl)
stays (End n) b p q = absurd (p refl)
stays (Stop n) b p q = refl

over : (s : Text) (bytes : List ℕ) (b : ℕ) → Seen s bytes → verdict s ≡ 0 → verdict (step s b) ≡ 44
over (Line n) bytes b w e = absurd (omega (arith, e))
over (Row n left p) bytes b w e = absurd (omega (arith, e))
over (Word n at) bytes b w e = absurd (omega (arith, e))
over (Last n left p) bytes b w e = absurd (omega (arith, e))
over (End n) bytes b w e = refl
over (Stop n) bytes b w e = absurd (w.refused e)

-- the outcome of a byte that is refused with another number
only : (bytes : List ℕ) (b : ℕ) (t : Text) {n : ℕ} → Outcome bytes b t → verdict t ≡ n → ¬ (n ≡ 43) → ¬ (n ≡ 0) → (n ≡ 40) ⊎ ((n ≡ 42) × TooLarge bytes b)
only bytes b t o e p q = elim o [
  | inl z ↦ absurd (p (sym e ∙ z))
  | inr x ↦ elim x [
    | inl z ↦ absurd (q (sym e ∙ z))
    | inr y ↦ elim y [ inl z ↦ inl (sym e ∙ z) | inr z ↦ inr (sym e ∙ z.0, z.1) ]
  ]
]

judge : Judge step verdict (Line 1)
judge =
    record {
      begun = refl;
      stays = stays;
      over = λ bytes b e. over (after step (Line 1) bytes) bytes b (seen bytes) e;
      under =
          λ bytes b e z.
          elim (only bytes b (step (after step (Line 1) bytes) b) (outcome (after step (Line 1) bytes) bytes b (seen bytes) e) z (differ tt) (differ tt)) [
            | inl y ↦ omega (arith, y)
            | inr y ↦ omega (arith, y.0)
          ];
    }

-- ---- rows up to the last one's line feed

row_open : (n : ℕ) (vs : List ℕ) → listing.Line 9 vs → (front : List ℕ) × (line vs ≡ front ++ (10 ∷ [])) × (verdict (after step (Line n) front) ≡ 43)
row_open n vs h =
    let x = but_end (Row n) (row_on n) (row_end n) (λ left p c. refl) (λ left p c. refl) (λ left p. refl) (λ v. refl) (row_goes n) 8 vs h.0 h.1 in
    (x.0, x.2, go x.0 x.1 x.2 x.3)
  where
    go : (front : List ℕ) (p : Part) → line vs ≡ front ++ (10 ∷ []) → after step (Row n 8 Fresh) front ≡ Row n 0 p → verdict (after step (Line n) front) ≡ 43
    go [] p e f = refl
    go (c ∷ cs) p e f =
        let b = line_begins 8 vs h.0 h.1 in
        let k : c ≡ b.head = ap (λ (l : List ℕ). get_or l 0 0) (sym e ∙ b.whole) in
        ap (λ (s : Text). verdict (after step s cs)) (row_first n c (omega (arith, k, b.low))) ∙ ap verdict f

pub record Full (n : ℕ) (rows : List (List ℕ)) (end : ℕ) : Type 0 where
  pub front : List ℕ
  pub shown : joined line rows ≡ front ++ (10 ∷ [])
  pub begun : verdict (after step (Line n) front) ≡ 43
  pub closed : after step (Line n) (joined line rows) ≡ row_end end

full : (n : ℕ) (r : List ℕ) (rows : List (List ℕ)) → Each (listing.Line 9) (r ∷ rows) → n + length rows ≤ 2147483648 → Full n (r ∷ rows) (n + length rows)
full n r [] h l =
    let x = row_open n r h.0 in
    record { front = x.0; shown = append-nil (line r) ∙ x.1; begun = x.2; closed = rw (append-nil (line r), add-zero) (a_row n r h.0).ends }
full n r (q ∷ rows) h l =
    let x = full (n + 1) q rows h.1 (omega arith) in
    let a = (a_row n r h.0).ends ∙ one_more {n = n} (omega arith) in
    let e : n + 1 + length rows ≡ n + suc (length rows) = omega arith in
    record {
      front = line r ++ x.front;
      shown = ap (λ (y : List ℕ). line r ++ y) x.shown ∙ sym (append_assoc (line r) x.front (10 ∷ []));
      begun = ap verdict (after_append step (Line n) (line r) x.front) ∙ rw a x.begun;
      closed = after_append step (Line n) (line r) (joined line (q ∷ rows)) ∙ rw (a, ← e) x.closed;
    }

too_many_rows : (bytes : List ℕ) → (t : RowsTooMany bytes) → Full 1 t.0 2147483648
too_many_rows bytes t = go t.0 t.1 t.2
  where
    go : (rows : List (List ℕ)) → Each (listing.Line 9) rows → length rows ≡ 2147483648 → Full 1 rows 2147483648
    go [] h l = absurd (omega (arith, l))
    go (r ∷ rows) h l =
        let e : 1 + length rows ≡ 2147483648 = omega (arith, l) in
        rw e at (full 1 r rows h (omega (arith, l)))

-- ---- 43

-- all but the last of a list
but_last : (a : List ℕ) (b : ℕ) (rest front : List ℕ) (x : ℕ) → a ++ (b ∷ rest) ≡ front ++ (x ∷ []) → (m : List ℕ) × (front ≡ a ++ m)
but_last [] b rest front x e = (front, refl)
but_last (c ∷ a) b rest [] x e = absurd (omega (arith, ap length e, length-append a (b ∷ rest)))
but_last (c ∷ a) b rest (d ∷ front) x e =
    let m = but_last a b rest front x (ap (λ (l : List ℕ). drop 1 l) e) in
    (m.0, ap (λ (y : ℕ). y ∷ front) (sym (ap (λ (l : List ℕ). get_or l 0 0) e)) ∙ ap (λ (l : List ℕ). c ∷ l) m.1)

begun : (bytes : List ℕ) → Unfinished bytes → text_verdict bytes ≡ 43
begun bytes u = elim u [
  | inl x ↦ begins_whole step verdict (Line 1) judge bytes x.0 x.1 (ap text_verdict (sym x.2.2) ∙ (text_read x.2.0 x.2.1).0)
  | inr x ↦
      let f = too_many_rows (bytes ++ (x.0 ∷ x.1)) x.2 in
      let m = but_last bytes x.0 x.1 f.front 10 (sym x.2.3 ∙ f.shown) in
      begins_begun step verdict (Line 1) judge bytes m.0 (ap text_verdict (sym m.1) ∙ f.begun)
]

cons_of : (m : List ℕ) (x : ℕ) → (b : ℕ) × (rest : List ℕ) × (m ++ (x ∷ []) ≡ b ∷ rest)
cons_of [] x = (x, [], refl)
cons_of (c ∷ m) x = (c, m ++ (x ∷ []), refl)

whole : (bytes m : List ℕ) → text_verdict bytes ≡ 43 → text_verdict (bytes ++ m) ≡ 0 → Unfinished bytes
whole bytes [] e f = absurd (omega (arith, sym e ∙ (rw append-nil at f)))
whole bytes (b ∷ rest) e f = inl (b, rest, text_only (bytes ++ (b ∷ rest)) f)

unfinished : (bytes : List ℕ) → text_verdict bytes ≡ 43 → Unfinished bytes
unfinished bytes e =
    let s = after step (Line 1) bytes in
    elim (fin s bytes (seen bytes) e) [
      | inl x ↦ whole bytes x.0 e (ap verdict (after_append step (Line 1) bytes x.0) ∙ x.1)
      | inr x ↦
          let w : Seen (Row x.1 0 x.2) (bytes ++ x.0) = rw x.4 at (all_seen s bytes x.0 (seen bytes)) in
          let g : Good x.2 10 10 (next x.2 10 10) = next_good x.2 10 10 w.1.ok in
          let h = rw x.5 at g in
          let d = row_ended 10 w.0 w.1 h.0 h.1 refl refl in
          let c = cons_of x.0 10 in
          let k : joined line d.0 ≡ bytes ++ (c.0 ∷ c.1) = sym d.3 ∙ append_assoc bytes x.0 (10 ∷ []) ∙ ap (λ (l : List ℕ). bytes ++ l) c.2 in
          inr (c.0, c.1, (d.0, d.1, few x.1 d.2 w.0.few x.6, k))
    ]
  where
    few : (n : ℕ) {m : ℕ} → m ≡ n → n ≤ 2147483648 → ¬ (n < 2147483648) → m ≡ 2147483648
    few n e l h = omega (arith, e, l, h)

-- ---- 42

large : (good : List ℕ) (b : ℕ) → text_verdict good ≡ 43 → TooLarge good b → text_verdict (good ++ (b ∷ [])) ≡ 42
large good b e t = elim t [
  | inl d ↦
      let g : text_verdict (d.before ++ decimal d.n) ≡ 43 = rw d.good_is at e in
      let s = after step (Line 1) d.before in
      let r = after_append step (Line 1) d.before (decimal d.n) in
      let k =
      number_large d.n d.digit (omega (arith, d.large, d.one)) (omega (arith, d.fits)) d.one d.large s d.before (seen d.before)
      (fresh_after d.before d.begins)
      (begins_begun step verdict (Line 1) judge d.before (decimal d.n) g)
      (sym (ap verdict r) ∙ g) in
      snoc step verdict (Line 1) judge good b ∙ rw (d.good_is, r, d.b_is) k
  | inr x ↦
      let f = too_many_rows (good ++ (b ∷ [])) x in
      ap text_verdict (sym x.3) ∙ ap verdict f.closed
]

refused_by :
    (good : List ℕ) (b n : ℕ) → text_verdict good ≡ 43 → text_verdict (good ++ (b ∷ [])) ≡ n → ¬ (n ≡ 43) → ¬ (n ≡ 0) → (n ≡ 40) ⊎ ((n ≡ 42) × TooLarge good b)
refused_by good b n e f p q =
    let s = after step (Line 1) good in
    only good b (step s b) (outcome s good b (seen good) e) (sym (snoc step verdict (Line 1) judge good b) ∙ f) p q

too_large : (good : List ℕ) (b : ℕ) → text_verdict good ≡ 43 → text_verdict (good ++ (b ∷ [])) ≡ 42 → TooLarge good b
too_large good b e f = elim (refused_by good b 42 e f (differ tt) (differ tt)) [
  | inl z ↦ absurd (omega (arith, z))
  | inr z ↦ z.1
]

-- ---- 40

malformed : (good : List ℕ) (b : ℕ) → text_verdict good ≡ 43 → text_verdict (good ++ (b ∷ [])) ≡ 40 → Malformed good b
malformed good b e f =
    record {
      not_begun = λ u. omega (arith, sym f ∙ begun (good ++ (b ∷ [])) u);
      not_whole = λ t. omega (arith, sym f ∙ ap text_verdict (sym t.2) ∙ (text_read t.0 t.1).0);
      not_large = λ t. omega (arith, sym f ∙ large good b e t);
    }

is_malformed : (good : List ℕ) (b : ℕ) → text_verdict good ≡ 43 → Malformed good b → text_verdict (good ++ (b ∷ [])) ≡ 40
is_malformed good b e m =
    let x = good ++ (b ∷ []) in
    elim (refused_by good b (text_verdict x) e refl (λ y. m.not_begun (unfinished x y)) (λ y. m.not_whole (text_only x y))) [
      | inl z ↦ z
      | inr z ↦ absurd (m.not_large z.1)
    ]

-- ---- all of them

never : (bytes : List ℕ) (n : ℕ) → ¬ (n ≡ 0) → ¬ (n ≡ 43) → ¬ (n ≡ 44) → ¬ (n ≡ 40) → ¬ (n ≡ 42) → ¬ (text_verdict bytes ≡ n)
never bytes n p q r s t e =
    let f = refused_first step verdict (Line 1) judge bytes n e p q r in
    elim (refused_by f.good f.next n f.holds.0 f.holds.1 q p) [ inl z ↦ s z | inr z ↦ t z.0 ]

pub packing_refused : PackingRefused
packing_refused bytes out =
    let w = text_packed bytes in
    let v = text_verdict bytes in
    let through : (n : ℕ) → ¬ (n ≡ 0) → ¬ (n ≡ 45) → ((packing bytes out).0.refusal ≡ n) ↔ (v ≡ n) = goes_through w out v in
    let whole : (Q : ℕ → Type 0) → ((v ≡ 0) × Q (length w)) ↔ ((l : Listing) × Valid l × (text l ≡ bytes) × Q (length (packed l))) =
    accepted text_verdict text_packed text packed bytes text_read (text_only bytes) in
    record {
      none = Iff.trans (none w out v) (whole (λ k. k ≤ length out));
      malformed =
          Iff.trans (through 40 (differ tt) (differ tt)) (
            λ e.
                first_map (λ good b h. (unfinished good h.0, malformed good b h.0 h.1))
                (refused_first step verdict (Line 1) judge bytes 40 e (differ tt) (differ tt) (differ tt)),
            λ f.
                refused_back step verdict (Line 1) judge bytes 40 (differ tt) (differ tt)
                (first_map (λ good b h. is_malformed good b (begun good h.0) h.1) f),
          );
      large =
          Iff.trans (through 42 (differ tt) (differ tt)) (
            λ e.
                first_map (λ good b h. (unfinished good h.0, too_large good b h.0 h.1))
                (refused_first step verdict (Line 1) judge bytes 42 e (differ tt) (differ tt) (differ tt)),
            λ f.
                refused_back step verdict (Line 1) judge bytes 42 (differ tt) (differ tt)
                (first_map (λ good b h. large good b (begun good h.0) h.1) f),
          );
      ends = Iff.trans (through 43 (differ tt) (differ tt)) (unfinished bytes, begun bytes);
      more =
          Iff.trans (through 44 (differ tt) (differ tt)) (
            λ e. first_map (λ good b h. text_only good h) (more_first step verdict (Line 1) judge bytes e),
            λ f.
                more_back step verdict (Line 1) judge bytes
                (first_map (λ good b h. ap text_verdict (sym h.2) ∙ (text_read h.0 h.1).0) f),
          );
      room =
          Iff.trans
          (too_small w out v
          (never bytes 45 (differ tt) (differ tt) (differ tt) (differ tt) (differ tt)))
          (whole (λ k. length out < k));
    }
