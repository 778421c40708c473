-- A whole number of a text at once: the digits so far are those of the value so far, and the reader goes over a printed number and the byte
-- that ends it as `TextRead` says. Assumes nothing.
use mathlib.Core.Path.{◌≡◌, refl, ap, sym, ◌∙◌}
use mathlib.Core.Bool.{Bool, true, false, cond}
use mathlib.Core.List.{List, [], ◌∷◌, ◌++◌, append_assoc, append-nil}
use Prim.Native.Nat.{ℕ, ◌+◌, ◌-◌, ◌*◌, ◌≤◌, ◌<◌}
use native.Mathlib.Numerals.{add-one}
use native.Mathlib.Omega.{arith}
use borrow.Author.Tests.{eqb-true, ne_eqb}
use lib.Dec.{eqb, lit<, lit≤}
use lib.ListN.{length, drop, get_or}
use lib.Seq.{drop-cons}
use Rattle.packed.specs.declared.Part.TheVariants.{Fresh, Minus, Closed, Open}
use Rattle.packed.specs.declared.Next.TheVariants.{Ended}
use Rattle.packed.specs.declared.Spelt.{Spelt}
use Rattle.packed.specs.declared.Text.{Text}
use Rattle.packed.specs.declared.Text.TheVariants.{Line, Row, Word, Last, End, Stop}
use Rattle.packed.specs.Machine.{after, told}
use Rattle.packed.specs.Moves.{Moves, SpeltAt, cell, left_after, number_end, numbered, rows_after}
use Rattle.listing.specs.Number.{decimal, groups, signed, separator}
use Rattle.listing.specs.Listing.{grouped}
use Rattle.packed.specs.Text.{row_end, row_on, last_on, step, tell, yields}
use Rattle.listing.proofs.Decimals.{decimal_small, signed_digit, signed_none, signed_some}
use Rattle.packed.proofs.Cases.{by_test, differ}
use Rattle.packed.proofs.Runs.{Goes, after_append, told_append}
use Rattle.packed.proofs.TextRead.{begins_append, number_ends, one_more, row_begins, signed_begins, told_groups}
use Rattle.packed.proofs.TextOnly.{next_digit}
use Rattle.packed.proofs.TextLarge.{separator_small}

byte_at : (l : List ℕ) (i : ℕ) {b : ℕ} → i < length l → get_or l i 0 ≡ b → drop i l ≡ b ∷ drop (i + 1) l
byte_at l i h e = drop-cons l i 0 h ∙ rw (e, add-one)

-- ---- digits

pub record Run (l : List ℕ) (at n to : ℕ) : Type 0 where
  pub on : at < to
  pub shown : drop at l ≡ decimal n ++ drop to l
  pub least : 1 ≤ n
  pub fits : n < 2147483648
  pub within : to ≤ length l

module _ (l : List ℕ) (at : ℕ) where
  pub run_first : (d : ℕ) → at < length l → get_or l at 0 ≡ 48 + d → 1 ≤ d → d < 10 → Run l at d (at + 1)
  run_first d h e m k =
      record { on = omega arith; shown = byte_at l at h e ∙ ap (λ (x : List ℕ). x ++ drop (at + 1) l) (sym (decimal_small k)); least = m; fits = omega arith; within = omega arith }

  pub run_more : {n to d : ℕ} → Run l at n to → n * 10 + d ≤ 2147483647 → d < 10 → to < length l → get_or l to 0 ≡ 48 + d → Run l at (n * 10 + d) (to + 1)
  run_more {n} {to} {d} r f k h e =
      let c : 48 + d - 48 ≡ d = omega arith in
      let g : decimal n ++ ((48 + d) ∷ []) ≡ decimal (n * 10 + d) = next_digit n (48 + d) r.least r.fits (omega arith) (omega arith) ∙ rw c in
      record {
        on = omega (arith, r.on);
        shown =
            r.shown
            ∙ ap (λ (x : List ℕ). decimal n ++ x) (byte_at l to h e)
            ∙ sym (append_assoc (decimal n) ((48 + d) ∷ []) (drop (to + 1) l))
            ∙ ap (λ (x : List ℕ). x ++ drop (to + 1) l) g;
        least = omega (arith, r.least);
        fits = omega arith;
        within = omega arith;
      }

  -- a whole number, and the byte after it
  pub spelt :
      (v to s : ℕ) (r : Spelt)
      → at ≤ to
      → v ≤ 2147483648
      → drop at l ≡ signed v ++ drop to l
      → (r.stored ≡ v) × (r.end ≡ to + 1) × (to < length l) × (get_or l to 0 ≡ s)
      → SpeltAt l at s r
  spelt v to s r k m e x = (
    omega (arith, x.1, k),
    omega (arith, x.0, m),
    omega (arith, x.1, x.2),
    e
        ∙ ap (λ (y : List ℕ). signed v ++ y) (byte_at l to x.2 x.3)
        ∙ sym (append_assoc (signed v) (s ∷ []) (drop (to + 1) l))
        ∙ rw (x.0, x.1) refl,
  )

  pub spelt_run :
      {n to : ℕ} (s : ℕ) (r : Spelt)
      → Run l at n to
      → (r.stored ≡ n + 1) × (r.end ≡ to + 1) × (to < length l) × (get_or l to 0 ≡ s)
      → SpeltAt l at s r
  spelt_run {n} {to} s r d f =
      let c : n + 1 - 1 ≡ n = omega arith in
      let e : signed (n + 1) ≡ decimal n = signed_some {v = n + 1} (omega arith) ∙ rw c in
      spelt (n + 1) to s r (omega (arith, d.on)) (omega (arith, d.fits)) (d.shown ∙ ap (λ (y : List ℕ). y ++ drop to l) (sym e)) f

  pub spelt_zero :
      (s : ℕ) (r : Spelt)
      → at < length l
      → get_or l at 0 ≡ 48
      → (r.stored ≡ 1) × (r.end ≡ at + 1 + 1) × (at + 1 < length l) × (get_or l (at + 1) 0 ≡ s)
      → SpeltAt l at s r
  spelt_zero s r h e f =
      let g : signed 1 ≡ 48 ∷ [] = signed_some {v = 1} (omega arith) ∙ decimal_small {n = 0} (lit< tt) in
      spelt 1 (at + 1) s r (omega arith) (lit≤ tt) (byte_at l at h e ∙ ap (λ (y : List ℕ). y ++ drop (at + 1) l) (sym g)) f

  pub spelt_minus :
      (s : ℕ) (r : Spelt)
      → at < length l
      → get_or l at 0 ≡ 45
      → at + 1 < length l
      → get_or l (at + 1) 0 ≡ 49
      → (r.stored ≡ 0) × (r.end ≡ at + 2 + 1) × (at + 2 < length l) × (get_or l (at + 2) 0 ≡ s)
      → SpeltAt l at s r
  spelt_minus s r h e k g f =
      let c : at + 1 + 1 ≡ at + 2 = omega arith in
      let d : drop (at + 1) l ≡ 49 ∷ drop (at + 2) l = rw c at (byte_at l (at + 1) k g) in
      spelt 0 (at + 2) s r (omega arith) (lit≤ tt)
      (byte_at l at h e ∙ ap (λ (y : List ℕ). 45 ∷ y) d ∙ ap (λ (y : List ℕ). y ++ drop (at + 2) l) (sym (signed_none {v = 0} refl)))
      f

  -- the same by its bytes: one digit, and two
  pub spelt_digit :
      (s : ℕ)
      → 48 ≤ get_or l at 0
      → get_or l at 0 < 58
      → at + 1 < length l
      → get_or l (at + 1) 0 ≡ s
      → SpeltAt l at s (record { stored = get_or l at 0 - 48 + 1; end = at + 2 })
  spelt_digit s low high h e =
      let v = get_or l at 0 - 48 + 1 in
      let c : 47 + v ≡ get_or l at 0 = omega arith in
      let g : signed v ≡ get_or l at 0 ∷ [] = signed_digit {v = v} (omega arith) (omega arith) ∙ ap (λ (b : ℕ). b ∷ []) c in
      spelt v (at + 1) s (record { stored = v; end = at + 2 }) (omega arith) (omega arith)
      (byte_at l at (omega arith) refl ∙ ap (λ (y : List ℕ). y ++ drop (at + 1) l) (sym g))
      (refl, omega arith, h, e)

  pub spelt_two :
      (s : ℕ)
      → 49 ≤ get_or l at 0
      → get_or l at 0 < 58
      → 48 ≤ get_or l (at + 1) 0
      → get_or l (at + 1) 0 < 58
      → at + 2 < length l
      → get_or l (at + 2) 0 ≡ s
      → SpeltAt l at s (record { stored = (get_or l at 0 - 48) * 10 + (get_or l (at + 1) 0 - 48) + 1; end = at + 3 })
  spelt_two s low high low' high' h e =
      let a = get_or l at 0 - 48 in
      let b = get_or l (at + 1) 0 - 48 in
      let c : at + 1 + 1 ≡ at + 2 = omega arith in
      let first : Run l at a (at + 1) = run_first a (omega arith) (omega arith) (omega arith) (omega arith) in
      let both : Run l at (a * 10 + b) (at + 2) = rw c at (run_more {d = b} first (omega arith) (omega arith) (omega arith) (omega arith)) in
      spelt_run s (record { stored = a * 10 + b + 1; end = at + 3 }) both (refl, omega arith, h, e)

-- ---- the reader over a number

number_goes : (s : Text) (v : ℕ) → v ≤ 2147483648 → ¬ (number_end s ≡ 0) → Goes step yields s (signed v ++ (number_end s ∷ [])) (numbered s v) (v ∷ [])
number_goes (Line rows) v h z =
    let b = begins_append (signed v) (32 ∷ []) (signed_begins v h) in
    rw b.whole
    (row_begins rows b.head b.tail b.low
    (rw b.whole at (number_ends (Row rows 8) (row_on rows 8) 32 (lit< tt) (λ p c. refl) (λ p c. refl) (λ p. refl) v h)))
number_goes (Row rows left Fresh) v h z =
    number_ends (Row rows left) (row_on rows left) (separator left) (separator_small left) (λ p c. refl) (λ p c. refl) (λ p. refl) v h
number_goes (Row rows left Minus) v h z = absurd (z refl)
number_goes (Row rows left (Closed x)) v h z = absurd (z refl)
number_goes (Row rows left (Open x)) v h z = absurd (z refl)
number_goes (Word rows at) v h z = absurd (z refl)
number_goes (Last rows left Fresh) v h z =
    number_ends (Last rows left) (last_on rows left) (separator left) (separator_small left) (λ p c. refl) (λ p c. refl) (λ p. refl) v h
number_goes (Last rows left Minus) v h z = absurd (z refl)
number_goes (Last rows left (Closed x)) v h z = absurd (z refl)
number_goes (Last rows left (Open x)) v h z = absurd (z refl)
number_goes (End rows) v h z = absurd (z refl)
number_goes (Stop n) v h z = absurd (z refl)

pub number_moves :
    (l : List ℕ) (s : Text) (i : ℕ) (r : Spelt)
    → ¬ (number_end s ≡ 0)
    → SpeltAt l i (number_end s) r
    → Moves step tell l s i (grouped (r.stored ∷ [])) (numbered s r.stored) r.end
number_moves l s i r z x =
    let w = signed r.stored ++ (number_end s ∷ []) in
    let rest = drop r.end l in
    let g = number_goes s r.stored x.1 z in
    record {
      forward = x.0;
      within = x.2;
      state = ap (λ (y : List ℕ). after step s y) x.3 ∙ after_append step s w rest ∙ ap (λ (t : Text). after step t rest) g.ends;
      tells =
          ap (λ (y : List ℕ). told step tell s y) x.3
          ∙ told_append step tell s w rest
          ∙ rw (told_groups s w, g.tells, g.ends) refl;
    }

-- ---- a row's number, where only the row count and how many numbers follow are known

cell_end : (rows left : ℕ) → separator left ≡ number_end (cell rows left)
cell_end rows left = by_test (λ s. separator left ≡ number_end s) (eqb left 8) (λ e. rw (eqb-true left 8 e) refl) (λ e. refl)

separator_some : (left : ℕ) → ¬ (separator left ≡ 0)
separator_some left = by_test (λ s. ¬ (s ≡ 0)) (eqb left 0) (λ _. differ {n = 10} {m = 0} tt) (λ _. differ {n = 32} {m = 0} tt)

cell_numbered : (rows left v : ℕ) → left ≤ 8 → rows < 2147483648 → numbered (cell rows left) v ≡ cell (rows_after rows left) (left_after left)
cell_numbered rows left v m h =
    by_test (λ s. numbered s v ≡ row_on rows left (Ended v)) (eqb left 8) (λ e. rw (eqb-true left 8 e) refl) (λ e. refl) ∙ go (eqb left 0) refl
  where
    go : (t : Bool) → eqb left 0 ≡ t → cond t (row_end rows) (Row rows (left - 1) Fresh) ≡ cell (cond t (rows + 1) rows) (cond t 8 (left - 1))
    go true e = one_more h
    go false e = simp (ne_eqb (left - 1) 8 (omega arith))

pub cell_moves :
    (l : List ℕ) (rows left i : ℕ) (r : Spelt)
    → left ≤ 8
    → rows < 2147483648
    → SpeltAt l i (separator left) r
    → Moves step tell l (cell rows left) i (groups r.stored) (cell (rows_after rows left) (left_after left)) r.end
cell_moves l rows left i r m k f =
    let e = cell_end rows left in
    rw (append-nil (groups r.stored), cell_numbered rows left r.stored m k) at
    (number_moves l (cell rows left) i r (λ z. separator_some left (e ∙ z)) (rw e at f))

-- before the last number of the row
pub spaced_moves :
    (l : List ℕ) (rows left i : ℕ) (r : Spelt)
    → 0 < left
    → left ≤ 8
    → rows < 2147483648
    → SpeltAt l i 32 r
    → Moves step tell l (cell rows left) i (groups r.stored) (cell rows (left - 1)) r.end
spaced_moves l rows left i r z m k f =
    let e : eqb left 0 ≡ false = ne_eqb left 0 (omega arith) in
    rw e at (cell_moves l rows left i r m k (rw e f))
