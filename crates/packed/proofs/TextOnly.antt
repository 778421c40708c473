-- What is read as a text was a listing's: after each byte, what was read is the beginning of one that the state describes. Assumes nothing.
use mathlib.Core.Path.{◌≡◌, refl, ap, sym, ◌∙◌}
use mathlib.Core.Bool.{Bool, true, false}
use mathlib.Core.List.{List, [], ◌∷◌, ◌++◌, append_assoc, append-nil}
use Prim.Native.Nat.{ℕ, ◌+◌, ◌-◌, ◌*◌, ◌≤◌, ◌<◌}
use native.Mathlib.Numerals.{add-one}
use native.Mathlib.Omega.{arith}
use borrow.Author.Tests.{eqb-true, eqb-false, ltb-true, ltb-false, eq-eqb, ne_eqb}
use lib.Arith.{digits_div, digits_mod}
use lib.Dec.{lit<, lit≤, ltb, eqb}
use lib.ListN.{length, length-append, take, get_or}
use lib.Seq.{slice, take-suc, drop-append-le, length-take-le}
use Rattle.packed.specs.declared.Part.{Part}
use Rattle.packed.specs.declared.Part.TheVariants.{Fresh, Minus, Closed, Open}
use Rattle.packed.specs.declared.Next.{Next}
use Rattle.packed.specs.Answers.{number}
use Rattle.packed.specs.declared.Next.TheVariants.{More, Ended, Wrong}
use Rattle.packed.specs.declared.Text.{Text}
use Rattle.packed.specs.declared.Text.TheVariants.{Line, Row, Word, Last, End, Stop}
use Rattle.packed.specs.Machine.{after}
use Rattle.listing.specs.Number.{decimal, signed, separator, letters}
use Rattle.listing.specs.Listing.{Listing, Valid, Each, line, joined, word, text, last_count}
use Rattle.listing.specs.Listing as listing
use Rattle.packed.specs.Text.{next, digit, grown, row_on, last_on, lettered, step, verdict}
use Rattle.packed.specs.Exact.{TextOnly}
use Rattle.listing.proofs.Decimals.{decimal_small, decimal_large, signed_none, signed_some}
use Rattle.packed.proofs.Cases.{Refused, refuses, by_test, each_snoc, joined_snoc, spaced, spaced_snoc, line_snoc}

-- ---- a number

-- the bytes of what was read of it
abbrev pub partial : Part → List ℕ
partial Fresh = []
partial Minus = 45 ∷ []
partial (Closed v) = signed v
partial (Open n) = decimal n

abbrev pub Ok : Part → Type 0
Ok Fresh = Unit
Ok Minus = Unit
Ok (Closed v) = v ≤ 1
Ok (Open n) = (1 ≤ n) × (n < 2147483648)

abbrev pub Good : Part → ℕ → ℕ → Next → Type 0
Good p s b (More q) = Ok q × (partial p ++ (b ∷ []) ≡ partial q)
Good p s b (Ended v) = (v ≤ 2147483648) × (partial p ≡ signed v) × (b ≡ s)
Good p s b (Wrong n) = Refused (number n)

good_digit : (p : Part) (s b : ℕ) (n : Next) → (48 ≤ b → b ≤ 57 → Good p s b n) → Good p s b (digit b n)
good_digit p s b n k =
    by_test (Good p s b) (ltb b 48) (λ _. refuses tt)
    (λ e. by_test (Good p s b) (ltb 57 b) (λ _. refuses tt) (λ f. k (ltb-false b 48 e) (ltb-false 57 b f)))

first_digit : (b : ℕ) → 48 ≤ b → b ≤ 57 → b ∷ [] ≡ decimal (b - 48)
first_digit b l h =
    let e : b ≡ 48 + (b - 48) = omega arith in
    ap (λ (x : ℕ). x ∷ []) e ∙ sym (decimal_small (omega arith))

pub next_digit : (n b : ℕ) → 1 ≤ n → n < 2147483648 → 48 ≤ b → b ≤ 57 → decimal n ++ (b ∷ []) ≡ decimal (n * 10 + (b - 48))
next_digit n b l h k m =
    let d : b - 48 < 10 = omega arith in
    let e : 48 + (b - 48) ≡ b = omega arith in
    sym (decimal_large {n = n * 10 + (b - 48)} (omega arith) (omega arith) ∙ rw (digits_div n d, digits_mod n d, e))

pub next_good : (p : Part) (s b : ℕ) → Ok p → Good p s b (next p s b)
next_good Fresh s b o =
    by_test (Good Fresh s b) (eqb b 45) (λ e. (tt, ap (λ (x : ℕ). x ∷ []) (eqb-true b 45 e)))
    (λ _.
    by_test (Good Fresh s b) (eqb b 48)
    (λ e. (lit≤ tt, ap (λ (x : ℕ). x ∷ []) (eqb-true b 48 e) ∙ sym (signed_some {v = 1} (omega arith) ∙ decimal_small {n = 0} (lit< tt))))
    (λ z. good_digit Fresh s b (More (Open (b - 48))) (λ l h. let x = eqb-false b 48 z in ((omega arith, omega arith), first_digit b l h))))
next_good Minus s b o =
    by_test (Good Minus s b) (eqb b 49) (λ e. (lit≤ tt, ap (λ (x : ℕ). 45 ∷ x ∷ []) (eqb-true b 49 e) ∙ sym (signed_none {v = 0} refl)))
    (λ _. refuses tt)
next_good (Closed v) s b o =
    by_test (Good (Closed v) s b) (eqb b s) (λ e. (omega (arith, o), refl, eqb-true b s e)) (λ _. refuses tt)
next_good (Open n) s b o =
    let x : n + 1 - 1 ≡ n = omega arith in
    by_test (Good (Open n) s b) (eqb b s)
    (λ e. (omega (arith, o), sym (signed_some {v = n + 1} (omega arith) ∙ ap decimal x), eqb-true b s e))
    (λ _.
    good_digit (Open n) s b (grown (n * 10 + (b - 48)))
    (λ l h.
    by_test (Good (Open n) s b) (ltb (n * 10 + (b - 48)) 2147483648)
    (λ e. ((omega (arith, o), ltb-true (n * 10 + (b - 48)) 2147483648 e), next_digit n b o.0 o.1 l h))
    (λ _. refuses tt)))

-- ---- a line: behind `before` stand whole numbers, and what was read of one that `left` others follow, of `total` in all

abbrev Small : ℕ → Type 0
Small v = v ≤ 2147483648

pub record Begun (before : List ℕ) (total left : ℕ) (p : Part) (bytes : List ℕ) : Type 0 where
  pub vs : List ℕ
  pub small : Each Small vs
  pub sum : length vs + left + 1 ≡ total
  pub ok : Ok p
  pub shown : bytes ≡ before ++ (spaced vs ++ partial p)

pub begun_none : {before : List ℕ} {bytes : List ℕ} (total left : ℕ) → left + 1 ≡ total → bytes ≡ before → Begun before total left Fresh bytes
begun_none {before} total left e h =
    record { vs = []; small = tt; sum = omega (arith, e); ok = tt; shown = h ∙ sym (append-nil before) }

module _ {before : List ℕ} {total left : ℕ} {p : Part} {bytes : List ℕ} (b : ℕ) (i : Begun before total left p bytes) where
  -- the bytes with one more, bracketed
  shown_more : bytes ++ (b ∷ []) ≡ before ++ (spaced i.vs ++ (partial p ++ (b ∷ [])))
  shown_more = rw i.shown (simp append_assoc)

  begun_more : {q : Part} → Ok q → partial p ++ (b ∷ []) ≡ partial q → Begun before total left q (bytes ++ (b ∷ []))
  begun_more o e =
      record {
        vs = i.vs;
        small = i.small;
        sum = i.sum;
        ok = o;
        shown = shown_more ∙ ap (λ (l : List ℕ). before ++ (spaced i.vs ++ l)) e;
      }

  begun_next :
      {v : ℕ} → v ≤ 2147483648 → partial p ≡ signed v → b ≡ separator left → (left ≡ 0 → ⊥) → Begun before total (left - 1) Fresh (bytes ++ (b ∷ []))
  begun_next {v} s e f z =
      let b32 : b ≡ 32 = f ∙ simp (ne_eqb left 0 z) in
      record {
        vs = i.vs ++ (v ∷ []);
        small = each_snoc Small i.vs i.small s;
        sum = omega (arith, i.sum, length-append i.vs (v ∷ []));
        ok = tt;
        shown =
            shown_more
            ∙ rw (e, b32) (ap (λ (l : List ℕ). before ++ l) (sym (spaced_snoc i.vs v) ∙ sym (append-nil (spaced (i.vs ++ (v ∷ []))))));
      }

  begun_end :
      {v : ℕ}
      → v ≤ 2147483648
      → partial p ≡ signed v
      → b ≡ separator left
      → left ≡ 0
      → listing.Line total (i.vs ++ (v ∷ [])) × (bytes ++ (b ∷ []) ≡ before ++ line (i.vs ++ (v ∷ [])))
  begun_end {v} s e f z =
      let b10 : b ≡ 10 = f ∙ simp (eq-eqb left 0 z) in (
        (omega (arith, i.sum, z, length-append i.vs (v ∷ [])), each_snoc Small i.vs i.small s),
        shown_more ∙ rw (e, b10) (ap (λ (l : List ℕ). before ++ l) (sym (line_snoc i.vs v))),
      )

-- ---- the states

-- whole rows, with their count
pub record Rows (count : ℕ) : Type 0 where
  pub rows : List (List ℕ)
  pub good : Each (listing.Line 9) rows
  pub counts : count ≡ length rows + 1
  pub few : count ≤ 2147483648

-- the word's letters from one to another
abbrev pub first : Bool → ℕ
first false = 0
first true = 6

abbrev pub past : Bool → ℕ
past false = 6
past true = 14

abbrev pub Seen : Text → List ℕ → Type 0
Seen (Line n) bytes = (r : Rows n) × (bytes ≡ joined line r.rows)
Seen (Row n left p) bytes = (r : Rows n) × Begun (joined line r.rows) 9 left p bytes
Seen (Word n at) bytes =
    (r : Rows n) × (k : Bool) × (first k < at) × (at < past k) × (bytes ≡ joined line r.rows ++ slice (first k) at letters)
Seen (Last n left p) bytes = (r : Rows n) × (k : Bool) × Begun (joined line r.rows ++ word k) (last_count k) left p bytes
Seen (End n) bytes = (l : Listing) × Valid l × (text l ≡ bytes)
Seen (Stop n) bytes = Refused (number n)

-- the line feed of a row
pub row_ended :
    {n left : ℕ} {p : Part} {bytes : List ℕ} (b : ℕ) (r : Rows n) (i : Begun (joined line r.rows) 9 left p bytes) {v : ℕ}
    → v ≤ 2147483648
    → partial p ≡ signed v
    → b ≡ separator left
    → left ≡ 0
    → (rows : List (List ℕ)) × Each (listing.Line 9) rows × (length rows ≡ n) × (bytes ++ (b ∷ []) ≡ joined line rows)
row_ended b r i {v} s e f z =
    let d = begun_end b i s e f z in
    let row = i.vs ++ (v ∷ []) in (
      r.rows ++ (row ∷ []),
      each_snoc (listing.Line 9) r.rows r.good d.0,
      omega (arith, r.counts, length-append r.rows (row ∷ [])),
      d.1 ∙ sym (joined_snoc line r.rows row),
    )

row_seen :
    {n left : ℕ} {p : Part} {bytes : List ℕ} (b : ℕ) (r : Rows n) (i : Begun (joined line r.rows) 9 left p bytes) (x : Next)
    → Good p (separator left) b x
    → Seen (row_on n left x) (bytes ++ (b ∷ []))
row_seen b r i (More q) g = (r, begun_more b i g.0 g.1)
row_seen {n} {left} {p} {bytes} b r i (Ended v) g =
    by_test (λ (s : Text). Seen s (bytes ++ (b ∷ []))) (eqb left 0)
    (λ e.
    let d = row_ended b r i g.0 g.1 g.2 (eqb-true left 0 e) in
    by_test (λ (s : Text). Seen s (bytes ++ (b ∷ []))) (ltb n 2147483648)
    (λ f. (record { rows = d.0; good = d.1; counts = omega (arith, d.2); few = omega (arith, ltb-true n 2147483648 f) }, d.3))
    (λ _. refuses tt))
    (λ e. (r, begun_next b i g.0 g.1 g.2 (eqb-false left 0 e)))
row_seen b r i (Wrong e) g = g

last_seen :
    {n left : ℕ} {p : Part} {bytes : List ℕ} (b : ℕ) (r : Rows n) (k : Bool) (i : Begun (joined line r.rows ++ word k) (last_count k) left p bytes) (x : Next)
    → Good p (separator left) b x
    → Seen (last_on n left x) (bytes ++ (b ∷ []))
last_seen b r k i (More q) g = (r, k, begun_more b i g.0 g.1)
last_seen {n} {left} {p} {bytes} b r k i (Ended v) g =
    by_test (λ (s : Text). Seen s (bytes ++ (b ∷ []))) (eqb left 0)
    (λ e.
    let d = begun_end b i g.0 g.1 g.2 (eqb-true left 0 e) in (
      record { rows = r.rows; refused = k; last = i.vs ++ (v ∷ []) },
      record { rows = r.good; count = omega (arith, r.counts, r.few); last = d.0 },
      sym (d.1 ∙ append_assoc (joined line r.rows) (word k) (line (i.vs ++ (v ∷ [])))),
    ))
    (λ e. (r, k, begun_next b i g.0 g.1 g.2 (eqb-false left 0 e)))
last_seen b r k i (Wrong e) g = g

-- ---- the words

slice_more : (f t : ℕ) → f ≤ t → t < 14 → slice f (t + 1) letters ≡ slice f t letters ++ (get_or letters t 0 ∷ [])
slice_more f t l h =
    rw (add-one, take-suc letters t 0 h)
    (drop-append-le f (take t letters) (get_or letters t 0 ∷ []) (rw (length-take-le t letters (omega arith)) l))

word_begins :
    {n : ℕ} {bytes : List ℕ} (b : ℕ) (k : Bool) (r : Rows n)
    → bytes ≡ joined line r.rows
    → b ∷ [] ≡ slice (first k) (first k + 1) letters
    → first k + 1 < past k
    → Seen (Word n (first k + 1)) (bytes ++ (b ∷ []))
word_begins b k r e w h = (r, k, omega arith, h, rw (e, w) refl)

letter_seen :
    {n at : ℕ} {bytes : List ℕ} (b : ℕ) (r : Rows n) (k : Bool)
    → first k < at
    → at < past k
    → bytes ≡ joined line r.rows ++ slice (first k) at letters
    → b ≡ get_or letters at 0
    → Seen (lettered n at) (bytes ++ (b ∷ []))
letter_seen {n} {at} {bytes} b r false l h e c =
    let m : bytes ++ (b ∷ []) ≡ joined line r.rows ++ slice 0 (at + 1) letters =
    rw (e, c, slice_more 0 at (omega arith) (omega arith)) (append_assoc (joined line r.rows) (slice 0 at letters) (get_or letters at 0 ∷ [])) in
    by_test (λ (s : Text). Seen s (bytes ++ (b ∷ []))) (eqb at 5)
    (λ t. (r, false, begun_none 3 2 refl (m ∙ ap (λ (j : ℕ). joined line r.rows ++ slice 0 (j + 1) letters) (eqb-true at 5 t))))
    (λ t.
    let z = eqb-false at 5 t in
    by_test (λ (s : Text). Seen s (bytes ++ (b ∷ []))) (ltb at 13)
    (λ u. (r, false, omega arith, omega arith, m))
    (λ u. absurd (omega (arith, ltb-false at 13 u))))
letter_seen {n} {at} {bytes} b r true l h e c =
    let m : bytes ++ (b ∷ []) ≡ joined line r.rows ++ slice 6 (at + 1) letters =
    rw (e, c, slice_more 6 at (omega arith) (omega arith)) (append_assoc (joined line r.rows) (slice 6 at letters) (get_or letters at 0 ∷ [])) in
    by_test (λ (s : Text). Seen s (bytes ++ (b ∷ []))) (eqb at 5)
    (λ t. absurd (omega (arith, eqb-true at 5 t)))
    (λ t.
    by_test (λ (s : Text). Seen s (bytes ++ (b ∷ []))) (ltb at 13)
    (λ u. (r, true, omega arith, omega (arith, ltb-true at 13 u), m))
    (λ u.
    let z : at ≡ 13 = omega (arith, ltb-false at 13 u) in
    (r, true, begun_none 5 4 refl (m ∙ ap (λ (j : ℕ). joined line r.rows ++ slice 6 (j + 1) letters) z))))

-- ---- every byte

step_seen : (s : Text) (bytes : List ℕ) (b : ℕ) → Seen s bytes → Seen (step s b) (bytes ++ (b ∷ []))
step_seen (Line n) bytes b w =
    by_test (λ (s : Text). Seen s (bytes ++ (b ∷ []))) (eqb b 97)
    (λ e. word_begins b false w.0 w.1 (ap (λ (x : ℕ). x ∷ []) (eqb-true b 97 e)) (lit< tt))
    (λ _.
    by_test (λ (s : Text). Seen s (bytes ++ (b ∷ []))) (eqb b 114)
    (λ e. word_begins b true w.0 w.1 (ap (λ (x : ℕ). x ∷ []) (eqb-true b 114 e)) (lit< tt))
    (λ _. row_seen b w.0 (begun_none 9 8 refl w.1) (next Fresh 32 b) (next_good Fresh 32 b tt)))
step_seen (Row n left p) bytes b w = row_seen b w.0 w.1 (next p (separator left) b) (next_good p (separator left) b w.1.ok)
step_seen (Word n at) bytes b w =
    by_test (λ (s : Text). Seen s (bytes ++ (b ∷ []))) (eqb b (get_or letters at 0))
    (λ e. letter_seen b w.0 w.1 w.2 w.3 w.4 (eqb-true b (get_or letters at 0) e))
    (λ _. refuses tt)
step_seen (Last n left p) bytes b w =
    last_seen b w.0 w.1 w.2 (next p (separator left) b) (next_good p (separator left) b w.2.ok)
step_seen (End n) bytes b w = refuses tt
step_seen (Stop n) bytes b w = w

pub all_seen : (s : Text) (before bytes : List ℕ) → Seen s before → Seen (after step s bytes) (before ++ bytes)
all_seen s before [] w = rw append-nil w
all_seen s before (b ∷ bytes) w =
    rw (append_assoc before (b ∷ []) bytes) at (all_seen (step s b) (before ++ (b ∷ [])) bytes (step_seen s before b w))

read_whole : (s : Text) (bytes : List ℕ) → Seen s bytes → verdict s ≡ 0 → (l : Listing) × Valid l × (text l ≡ bytes)
read_whole (Line n) bytes w e = absurd (omega (arith, e))
read_whole (Row n left p) bytes w e = absurd (omega (arith, e))
read_whole (Word n at) bytes w e = absurd (omega (arith, e))
read_whole (Last n left p) bytes w e = absurd (omega (arith, e))
read_whole (End n) bytes w e = w
read_whole (Stop n) bytes w e = absurd (w.refused e)

pub seen : (bytes : List ℕ) → Seen (after step (Line 1) bytes) bytes
seen bytes = all_seen (Line 1) [] bytes (record { rows = []; good = tt; counts = refl; few = lit≤ tt }, refl)

pub text_only : TextOnly
text_only bytes e = read_whole (after step (Line 1) bytes) bytes (seen bytes) e
