-- Every listing's text is read, and packs to its packed form: number by number, line by line. Assumes nothing.
use mathlib.Core.Path.{◌≡◌, refl, ap, sym, ◌∙◌}
use mathlib.Core.Bool.{Bool, true, false, cond}
use mathlib.Core.List.{List, [], ◌∷◌, ◌++◌, append_assoc}
use Prim.Native.Nat.{ℕ, zero, suc, ◌+◌, ◌-◌, ◌*◌, ◌/◌, ◌%◌, ◌^◌, ◌≤◌, ◌<◌}
use native.Mathlib.Nat.{add-zero, div-lt_iff_lt-mul, div-le_self, div-add-mod', mod-lt, le-div_iff_mul-le}
use native.Mathlib.Omega.{arith}
use borrow.Author.Tests.{eq-eqb, ne_eqb, lt-ltb, le-ltb, ltb-true, ltb-false}
use lib.Dec.{lit<, lit≤, ltb, eqb}
use lib.ListN.{length}
use Rattle.packed.specs.declared.Part.{Part}
use Rattle.packed.specs.declared.Part.TheVariants.{Fresh, Minus, Closed, Open}
use Rattle.packed.specs.declared.Next.{Next}
use Rattle.packed.specs.declared.Refusal.TheVariants.{Malformed}
use Rattle.packed.specs.declared.Next.TheVariants.{More, Ended, Wrong}
use Rattle.packed.specs.declared.Text.{Text}
use Rattle.packed.specs.declared.Text.TheVariants.{Line, Row, Last, End}
use Rattle.packed.specs.Machine.{after, told}
use Rattle.listing.specs.Number.{groups, decimal, signed, separator}
use Rattle.listing.specs.Listing.{Listing, Valid, Each, line, joined, word, text, grouped, kind, last_count}
use Rattle.listing.specs.Listing as listing
use Rattle.packed.specs.Text.{next, row_end, row_on, last_on, step, ended, yields, tell, verdict}
use Rattle.packed.specs.Exact.{TextRead}
use Rattle.listing.proofs.Decimals.{decimal_small, decimal_large, signed_none, signed_some}
use Rattle.packed.proofs.Runs.{Goes, ◌then◌, byte, stay, after_append}

-- ---- one byte of a number

digit_first : (s n : ℕ) → 1 ≤ n → n < 10 → next Fresh s (48 + n) ≡ More (Open n)
digit_first s n l h =
    let e : 48 + n - 48 ≡ n = omega arith in
    simp (
      ne_eqb (48 + n) 45 (omega arith),
      ne_eqb (48 + n) 48 (omega arith),
      le-ltb (48 + n) 48 (omega arith),
      le-ltb 57 (48 + n) (omega arith),
      e,
    )

digit_more : (s n : ℕ) → s < 48 → 10 ≤ n → n < 2147483648 → next (Open (n / 10)) s (48 + n % 10) ≡ More (Open n)
digit_more s n k l h =
    let m = mod-lt n {m = 10} (lit< tt) in
    let e : n / 10 * 10 + (48 + n % 10 - 48) ≡ n = omega (arith, div-add-mod' n 10) in
    simp (
      ne_eqb (48 + n % 10) s (omega arith),
      le-ltb (48 + n % 10) 48 (omega arith),
      le-ltb 57 (48 + n % 10) (omega arith),
      e,
      lt-ltb n 2147483648 h,
    )

pub open_ends : (s n : ℕ) → next (Open n) s s ≡ Ended (n + 1)
open_ends s n = simp (eq-eqb s s refl)

pub closed_ends : (s v : ℕ) → next (Closed v) s s ≡ Ended v
closed_ends s v = simp (eq-eqb s s refl)

-- ---- a number, in a row or in the last line: `at p` is the state with p read of it, and `on` goes on

module _ (at : Part → Text) (on : Next → Text) (s : ℕ) (small : s < 48)
    (steps : (p : Part) (b : ℕ) → step (at p) b ≡ on (next p s b))
    (tells : (p : Part) (b : ℕ) → yields (at p) b ≡ ended (next p s b))
    (stays : (p : Part) → on (More p) ≡ at p) where
  moves : {p q : Part} (b : ℕ) → next p s b ≡ More q → Goes step yields (at p) (b ∷ []) (at q) []
  moves {p} {q} b e = byte step yields b (steps p b ∙ ap on e ∙ stays q) (tells p b ∙ ap ended e)

  closes : {p : Part} {v : ℕ} → next p s s ≡ Ended v → Goes step yields (at p) (s ∷ []) (on (Ended v)) (v ∷ [])
  closes {p} e = byte step yields s (steps p s ∙ ap on e) (tells p s ∙ ap ended e)

  pub digits : (f n : ℕ) → n < 10 ^ f → 1 ≤ n → n < 2147483648 → Goes step yields (at Fresh) (decimal n) (at (Open n)) []
  digits zero n b l h = absurd (omega (arith, b, l))
  digits (suc f) n b l h =
      go (ltb n 10) refl
      (λ l'. digits f (n / 10) ((div-lt_iff_lt-mul {k = 10} (lit< tt)).1 (omega (arith, b))) l' (omega (arith, div-le_self n 10)))
    where
      go :
          (t : Bool)
          → ltb n 10 ≡ t
          → (1 ≤ n / 10 → Goes step yields (at Fresh) (decimal (n / 10)) (at (Open (n / 10))) [])
          → Goes step yields (at Fresh) (decimal n) (at (Open n)) []
      go true e ih = rw (decimal_small (ltb-true n 10 e)) (moves (48 + n) (digit_first s n l (ltb-true n 10 e)))
      go false e ih =
          let k = ltb-false n 10 e in
          rw (decimal_large k (omega (arith, h)))
          (◌then◌ step yields (ih ((le-div_iff_mul-le {k = 10} {x = 1} {y = n} (lit< tt)).1 (omega arith)))
          (moves (48 + n % 10) (digit_more s n small k h)))

  -- a whole number, which the separator ends
  pub number :
      (v : ℕ) → v ≤ 2147483648 → (p : Part) × Goes step yields (at Fresh) (signed v) (at p) [] × (next p s s ≡ Ended v)
  number zero h = (
    Closed 0,
    rw (signed_none {v = 0} refl) (◌then◌ step yields (moves {p = Fresh} {q = Minus} 45 refl) (moves {p = Minus} {q = Closed 0} 49 refl)),
    closed_ends s 0,
  )
  number (suc zero) h = (
    Closed 1,
    rw (signed_some {v = 1} (omega arith), decimal_small {n = 0} (lit< tt)) (moves {p = Fresh} {q = Closed 1} 48 refl),
    closed_ends s 1,
  )
  number (suc (suc n)) h =
      let e : suc (suc n) - 1 ≡ suc n = omega arith in
      let k : suc n + 1 ≡ suc (suc n) = omega arith in (
        Open (suc n),
        rw (signed_some {v = suc (suc n)} (omega arith), e) (digits 10 (suc n) (omega (arith, h)) (omega arith) (omega (arith, h))),
        open_ends s (suc n) ∙ ap Ended k,
      )

  -- and the separator
  pub number_ends : (v : ℕ) → v ≤ 2147483648 → Goes step yields (at Fresh) (signed v ++ (s ∷ [])) (on (Ended v)) (v ∷ [])
  number_ends v h =
      let x = number v h in
      ◌then◌ step yields x.1 (closes {p = x.0} x.2)

-- ---- a line, in a row or at the end

pub separator_more : (k : ℕ) → separator (suc k) ≡ 32
separator_more k = simp (ne_eqb (suc k) 0 (omega arith))

abbrev Fitting : List ℕ → Type 0
Fitting vs = Each (λ v. v ≤ 2147483648) vs

module _ (at : ℕ → Part → Text) (on : ℕ → Next → Text) (end : Text)
    (steps : (left : ℕ) (p : Part) (b : ℕ) → step (at left p) b ≡ on left (next p (separator left) b))
    (tells : (left : ℕ) (p : Part) (b : ℕ) → yields (at left p) b ≡ ended (next p (separator left) b))
    (stays : (left : ℕ) (p : Part) → on left (More p) ≡ at left p)
    (ends : (v : ℕ) → on 0 (Ended v) ≡ end)
    (goes : (left v : ℕ) → on (suc left) (Ended v) ≡ at left Fresh) where
  -- a number that others follow
  another : (left v : ℕ) → v ≤ 2147483648 → Goes step yields (at (suc left) Fresh) (signed v ++ (32 ∷ [])) (at left Fresh) (v ∷ [])
  another left v h =
      rw goes at
      (number_ends (at (suc left)) (on (suc left)) 32 (lit< tt)
      (λ p b. rw separator_more at (steps (suc left) p b))
      (λ p b. rw separator_more at (tells (suc left) p b))
      (stays (suc left))
      v
      h)

  pub a_line : (left : ℕ) (vs : List ℕ) → length vs ≡ suc left → Fitting vs → Goes step yields (at left Fresh) (line vs) end vs
  a_line left [] e h = absurd (omega (arith, e))
  a_line zero (v ∷ []) e h = rw ends at (number_ends (at 0) (on 0) 10 (lit< tt) (steps 0) (tells 0) (stays 0) v h.0)
  a_line (suc left) (v ∷ []) e h = absurd (omega (arith, e))
  a_line zero (v ∷ w ∷ ws) e h = absurd (omega (arith, e))
  a_line (suc left) (v ∷ w ∷ ws) e h =
      rw (append_assoc (signed v) (32 ∷ []) (line (w ∷ ws))) at
      (◌then◌ step yields (another left v h.0) (a_line left (w ∷ ws) (omega (arith, e)) h.1))

  -- a line but for its line feed, which is read where the last number is whole
  pub but_end :
      (left : ℕ) (vs : List ℕ)
      → length vs ≡ suc left
      → Fitting vs
      → (front : List ℕ) × (p : Part) × (line vs ≡ front ++ (10 ∷ [])) × (after step (at left Fresh) front ≡ at 0 p)
  but_end left [] e h = absurd (omega (arith, e))
  but_end zero (v ∷ []) e h =
      let x = number (at 0) (on 0) 10 (lit< tt) (steps 0) (tells 0) (stays 0) v h.0 in
      (signed v, x.0, refl, x.1.ends)
  but_end (suc left) (v ∷ []) e h = absurd (omega (arith, e))
  but_end zero (v ∷ w ∷ ws) e h = absurd (omega (arith, e))
  but_end (suc left) (v ∷ w ∷ ws) e h =
      let r = but_end left (w ∷ ws) (omega (arith, e)) h.1 in
      let n = another left v h.0 in (
        (signed v ++ (32 ∷ [])) ++ r.0,
        r.1,
        rw (append_assoc (signed v) (32 ∷ []) r.0) (ap (λ (l : List ℕ). signed v ++ (32 ∷ l)) r.2 ∙ sym (append_assoc (signed v) (32 ∷ r.0) (10 ∷ []))),
        after_append step (at (suc left) Fresh) (signed v ++ (32 ∷ [])) r.0 ∙ rw n.ends r.3,
      )

-- ---- rows

pub row_goes : (rows left v : ℕ) → row_on rows (suc left) (Ended v) ≡ Row rows left Fresh
row_goes rows left v =
    let e : suc left - 1 ≡ left = omega arith in
    simp (ne_eqb (suc left) 0 (omega arith), e)

pub last_goes : (rows left v : ℕ) → last_on rows (suc left) (Ended v) ≡ Last rows left Fresh
last_goes rows left v =
    let e : suc left - 1 ≡ left = omega arith in
    simp (ne_eqb (suc left) 0 (omega arith), e)

-- no number ends at its first byte
fresh_tells : (s b : ℕ) → ended (next Fresh s b) ≡ []
fresh_tells s b = go (eqb b 45) (eqb b 48) (ltb b 48) (ltb 57 b)
  where
    go :
        (t u v w : Bool)
        → ended (cond t (More Minus) (cond u (More (Closed 1)) (cond v (Wrong Malformed) (cond w (Wrong Malformed) (More (Open (b - 48))))))) ≡ []
    go true u v w = refl
    go false true v w = refl
    go false false true w = refl
    go false false false true = refl
    go false false false false = refl

-- a line whose first byte is no letter is a row
pub row_first : (rows c : ℕ) → c < 58 → step (Line rows) c ≡ step (Row rows 8 Fresh) c
row_first rows c h = simp (ne_eqb c 97 (omega arith), ne_eqb c 114 (omega arith))

pub row_begins :
    (rows c : ℕ) (cs : List ℕ) {t : Text} {out : List ℕ} → c < 58 → Goes step yields (Row rows 8 Fresh) (c ∷ cs) t out → Goes step yields (Line rows) (c ∷ cs) t out
row_begins rows c cs h g =
    let e = row_first rows c h in
    let y : yields (Line rows) c ≡ yields (Row rows 8 Fresh) c = simp (ne_eqb c 97 (omega arith), ne_eqb c 114 (omega arith)) (sym (fresh_tells 32 c)) in
    record { ends = ap (λ (s : Text). after step s cs) e ∙ g.ends; tells = rw (e, y) g.tells }

pub record Begins (bytes : List ℕ) : Type 0 where
  pub head : ℕ
  pub tail : List ℕ
  pub high : 45 ≤ head
  pub low : head < 58
  pub whole : bytes ≡ head ∷ tail

pub decimal_begins : (f n : ℕ) → n < 10 ^ suc f → n < 2 ^ 64 → Begins (decimal n)
decimal_begins zero n b h =
    let k : n < 10 = omega (arith, b) in
    record { head = 48 + n; tail = []; high = omega arith; low = omega arith; whole = decimal_small k }
decimal_begins (suc f) n b h =
    go (ltb n 10) refl (decimal_begins f (n / 10) ((div-lt_iff_lt-mul {k = 10} (lit< tt)).1 (omega (arith, b))) (omega (arith, div-le_self n 10)))
  where
    go : (t : Bool) → ltb n 10 ≡ t → Begins (decimal (n / 10)) → Begins (decimal n)
    go true e ih = record { head = 48 + n; tail = []; high = omega arith; low = omega (arith, ltb-true n 10 e); whole = decimal_small (ltb-true n 10 e) }
    go false e ih =
        record {
          head = ih.head;
          tail = ih.tail ++ ((48 + n % 10) ∷ []);
          high = ih.high;
          low = ih.low;
          whole = decimal_large (ltb-false n 10 e) h ∙ ap (λ (l : List ℕ). l ++ ((48 + n % 10) ∷ [])) ih.whole;
        }

pub signed_begins : (v : ℕ) → v ≤ 2147483648 → Begins (signed v)
signed_begins zero h = record { head = 45; tail = 49 ∷ []; high = lit≤ tt; low = lit< tt; whole = signed_none refl }
signed_begins (suc n) h =
    let e : suc n - 1 ≡ n = omega arith in
    rw (signed_some {v = suc n} (omega arith), e) (decimal_begins 9 n (omega (arith, h)) (omega (arith, h)))

pub begins_append : (a b : List ℕ) → Begins a → Begins (a ++ b)
begins_append a b r =
    record { head = r.head; tail = r.tail ++ b; high = r.high; low = r.low; whole = ap (λ (l : List ℕ). l ++ b) r.whole }

pub line_begins : (left : ℕ) (vs : List ℕ) → length vs ≡ suc left → Fitting vs → Begins (line vs)
line_begins left [] e h = absurd (omega (arith, e))
line_begins left (v ∷ []) e h = begins_append (signed v) (10 ∷ []) (signed_begins v h.0)
line_begins left (v ∷ w ∷ ws) e h = begins_append (signed v) (32 ∷ line (w ∷ ws)) (signed_begins v h.0)

pub a_row : (rows : ℕ) (vs : List ℕ) → listing.Line 9 vs → Goes step yields (Line rows) (line vs) (row_end rows) vs
a_row rows vs h =
    let b = line_begins 8 vs h.0 h.1 in
    rw b.whole
    (row_begins rows b.head b.tail b.low
    (rw b.whole at
    (a_line (Row rows) (row_on rows) (row_end rows) (λ left p c. refl) (λ left p c. refl) (λ left p. refl) (λ v. refl) (row_goes rows) 8 vs
    h.0
    h.1)))

-- the numbers of the rows, one after the other
abbrev flat : List (List ℕ) → List ℕ
flat rows = joined (λ r. r) rows

pub one_more : {n : ℕ} → n < 2147483648 → row_end n ≡ Line (n + 1)
one_more {n} h = simp (lt-ltb n 2147483648 h)

pub all_rows :
    (n : ℕ) (rows : List (List ℕ))
    → Each (listing.Line 9) rows
    → n + length rows ≤ 2147483648
    → Goes step yields (Line n) (joined line rows) (Line (n + length rows)) (flat rows)
all_rows n [] v h = rw add-zero (stay step yields (Line n))
all_rows n (r ∷ rows) v h =
    let e : n + 1 + length rows ≡ n + suc (length rows) = omega arith in
    ◌then◌ step yields (rw (one_more {n = n} (omega arith)) at (a_row n r v.0)) (rw e at (all_rows (n + 1) rows v.1 (omega arith)))

-- the word
a_word : (n : ℕ) (k : Bool) → Goes step yields (Line n) (word k) (Last n (last_count k - 1) Fresh) (kind k ∷ [])
a_word n false = record { ends = refl; tells = refl }
a_word n true = record { ends = refl; tells = refl }

a_last : (n : ℕ) (k : Bool) (vs : List ℕ) → listing.Line (last_count k) vs → Goes step yields (Last n (last_count k - 1) Fresh) (line vs) (End n) vs
a_last n false vs h = a_line (Last n) (last_on n) (End n) (λ left p c. refl) (λ left p c. refl) (λ left p. refl) (λ v. refl) (last_goes n) 2 vs h.0 h.1
a_last n true vs h = a_line (Last n) (last_on n) (End n) (λ left p c. refl) (λ left p c. refl) (λ left p. refl) (λ v. refl) (last_goes n) 4 vs h.0 h.1

-- ---- the whole

grouped_append : (a b : List ℕ) → grouped (a ++ b) ≡ grouped a ++ grouped b
grouped_append [] b = refl
grouped_append (v ∷ a) b = rw (grouped_append a b) (sym (append_assoc (groups v) (grouped a) (grouped b)))

grouped_rows : (rows : List (List ℕ)) → grouped (flat rows) ≡ joined grouped rows
grouped_rows [] = refl
grouped_rows (r ∷ rows) = grouped_append r (flat rows) ∙ ap (λ (l : List ℕ). grouped r ++ l) (grouped_rows rows)

pub told_groups : (s : Text) (bytes : List ℕ) → told step tell s bytes ≡ grouped (told step yields s bytes)
told_groups s [] = refl
told_groups s (b ∷ bytes) = rw (told_groups (step s b) bytes) (sym (grouped_append (yields s b) (told step yields (step s b) bytes)))

whole :
    (l : Listing) → Valid l → Goes step yields (Line 1) (text l) (End (1 + length l.rows)) (flat l.rows ++ (kind l.refused ∷ l.last))
whole l v =
    let n = 1 + length l.rows in
    ◌then◌ step yields (all_rows 1 l.rows v.rows (omega (arith, v.count)))
    (◌then◌ step yields (a_word n l.refused) (a_last n l.refused l.last v.last))

pub text_read : TextRead
text_read l v =
    let g = whole l v in
    let c : 1 + length l.rows ≡ length l.rows + 1 = omega arith in (
      ap verdict g.ends,
      rw (told_groups (Line 1) (text l), g.ends, g.tells, grouped_append (flat l.rows) (kind l.refused ∷ l.last), grouped_rows l.rows, c),
    )
