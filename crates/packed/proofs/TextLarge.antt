-- What the next byte makes of a text that has begun: it goes on, it ends the listing, or it is refused with 40 or 42; and it is 42 exactly
-- where a number or the row count becomes too large. Assumes nothing.
use mathlib.Core.Path.{◌≡◌, refl, ap, sym, ◌∙◌}
use mathlib.Core.Bool.{Bool, true, false, ◌||◌, false≢true}
use mathlib.Core.List.{List, [], ◌∷◌, ◌++◌, append_assoc, append-nil}
use mathlib.Core.Logic.{◌⊎◌, inl, inr}
use Prim.Native.Nat.{ℕ, zero, suc, ◌+◌, ◌-◌, ◌*◌, ◌≤◌, ◌<◌}
use native.Mathlib.Omega.{arith}
use borrow.Author.Tests.{eqb-true, ltb-false, ne_eqb, lt-ltb, le-ltb}
use lib.Dec.{lit<, ltb, eqb}
use lib.ListN.{get_or, take, drop}
use Rattle.packed.specs.declared.Part.{Part}
use Rattle.packed.specs.declared.Part.TheVariants.{Fresh, Minus, Closed, Open}
use Rattle.packed.specs.declared.Next.{Next}
use Rattle.packed.specs.declared.Refusal.TheVariants as refusal
use Rattle.packed.specs.Answers.{number}
use Rattle.packed.specs.declared.Next.TheVariants.{More, Ended, Wrong}
use Rattle.packed.specs.declared.Text.{Text}
use Rattle.packed.specs.declared.Text.TheVariants.{Line, Row, Word, Last, End, Stop}
use Rattle.packed.specs.Machine.{after}
use Rattle.listing.specs.Number.{decimal, signed, separator, letters}
use Rattle.listing.specs.Listing.{Each, line, joined, word, last_count}
use Rattle.packed.specs.Text.{next, digit, grown, row_on, last_on, step, verdict}
use Rattle.packed.specs.Refusals.{NumberBegins, DigitTooMany, TooLarge}
use Rattle.packed.proofs.Cases.{by_test, spaced}
use Rattle.packed.proofs.Runs.{after_append, text_stopped}
use Rattle.packed.proofs.TextRead.{decimal_begins, digits, row_first}
use Rattle.packed.proofs.TextOnly.{Begun, Good, Ok, Rows, Seen, begun_none, next_good, row_ended}

-- ---- a byte of a number

-- a digit with which the number does not fit
pub record Digit (p : Part) (b : ℕ) : Type 0 where
  pub n : ℕ
  pub d : ℕ
  pub p_is : p ≡ Open n
  pub b_is : b ≡ 48 + d
  pub one : d < 10
  pub large : 2147483647 < n * 10 + d

abbrev Judged : Part → ℕ → Next → Type 0
Judged p b (More q) = Unit
Judged p b (Ended v) = Unit
Judged p b (Wrong e) = (number e ≡ 40) ⊎ ((number e ≡ 42) × Digit p b)

judged_digit : (p : Part) (b : ℕ) (x : Next) → (48 ≤ b → b ≤ 57 → Judged p b x) → Judged p b (digit b x)
judged_digit p b x k =
    by_test (Judged p b) (ltb b 48) (λ _. inl refl)
    (λ e. by_test (Judged p b) (ltb 57 b) (λ _. inl refl) (λ f. k (ltb-false b 48 e) (ltb-false 57 b f)))

next_judged : (p : Part) (s b : ℕ) → Judged p b (next p s b)
next_judged Fresh s b =
    by_test (Judged Fresh b) (eqb b 45) (λ _. tt)
    (λ _. by_test (Judged Fresh b) (eqb b 48) (λ _. tt) (λ _. judged_digit Fresh b (More (Open (b - 48))) (λ _ _. tt)))
next_judged Minus s b = by_test (Judged Minus b) (eqb b 49) (λ _. tt) (λ _. inl refl)
next_judged (Closed v) s b = by_test (Judged (Closed v) b) (eqb b s) (λ _. tt) (λ _. inl refl)
next_judged (Open n) s b =
    by_test (Judged (Open n) b) (eqb b s) (λ _. tt)
    (λ _.
    judged_digit (Open n) b (grown (n * 10 + (b - 48)))
    (λ l h.
    by_test (Judged (Open n) b) (ltb (n * 10 + (b - 48)) 2147483648) (λ _. tt)
    (λ e.
    inr (
      refl,
      record {
        n = n;
        d = b - 48;
        p_is = refl;
        b_is = omega arith;
        one = omega arith;
        large = omega (arith, ltb-false (n * 10 + (b - 48)) 2147483648 e);
      },
    ))))

-- ---- where a number begins

begins_append : (a b : List ℕ) → NumberBegins a → NumberBegins b → NumberBegins (a ++ b)
begins_append a b h k = elim k [
  | inl e ↦ rw (e, append-nil) h
  | inr x ↦ inr (a ++ x.0, x.1, x.2, rw x.3 (sym (append_assoc a x.0 (x.1 ∷ []))))
]

after_number : (v : ℕ) (rest : List ℕ) → NumberBegins rest → NumberBegins (signed v ++ (32 ∷ rest))
after_number v rest h =
    rw (append_assoc (signed v) (32 ∷ []) rest) at (begins_append (signed v ++ (32 ∷ [])) rest (inr (signed v, 32, inl refl, refl)) h)

after_line : (vs : List ℕ) → NumberBegins (line vs)
after_line [] = inl refl
after_line (v ∷ []) = inr (signed v, 10, inr refl, refl)
after_line (v ∷ w ∷ ws) = after_number v (line (w ∷ ws)) (after_line (w ∷ ws))

after_rows : (rows : List (List ℕ)) → NumberBegins (joined line rows)
after_rows [] = inl refl
after_rows (r ∷ rows) = begins_append (line r) (joined line rows) (after_line r) (after_rows rows)

after_spaced : (vs : List ℕ) → NumberBegins (spaced vs)
after_spaced [] = inl refl
after_spaced (v ∷ vs) = after_number v (spaced vs) (after_spaced vs)

after_word : (k : Bool) → NumberBegins (word k)
after_word false = inr (take 5 letters, 32, inl refl, refl)
after_word true = inr (take 7 (drop 6 letters), 32, inl refl, refl)

too_many :
    {before : List ℕ} {total left : ℕ} {p : Part} {bytes : List ℕ} (b : ℕ)
    → NumberBegins before
    → Begun before total left p bytes
    → Digit p b
    → DigitTooMany bytes b
too_many {before} {p = p} b h i d =
    let ok : Ok (Open d.n) = rw d.p_is at i.ok in
    record {
      before = before ++ spaced i.vs;
      n = d.n;
      digit = d.d;
      begins = begins_append before (spaced i.vs) h (after_spaced i.vs);
      good_is = (rw d.p_is at i.shown) ∙ sym (append_assoc before (spaced i.vs) (decimal d.n));
      b_is = d.b_is;
      one = d.one;
      fits = omega (arith, ok.1);
      large = d.large;
    }

-- ---- the next byte

abbrev pub Outcome : List ℕ → ℕ → Text → Type 0
Outcome bytes b t = (verdict t ≡ 43) ⊎ ((verdict t ≡ 0) ⊎ ((verdict t ≡ 40) ⊎ ((verdict t ≡ 42) × TooLarge bytes b)))

row_outcome :
    {n left : ℕ} {p : Part} {bytes : List ℕ} (b : ℕ) (r : Rows n) (i : Begun (joined line r.rows) 9 left p bytes) (x : Next)
    → Good p (separator left) b x
    → Judged p b x
    → Outcome bytes b (row_on n left x)
row_outcome b r i (More q) g j = inl refl
row_outcome {n} {left} {p} {bytes} b r i (Ended v) g j =
    by_test (Outcome bytes b) (eqb left 0)
    (λ e.
    by_test (Outcome bytes b) (ltb n 2147483648) (λ _. inl refl)
    (λ f.
    let d = row_ended b r i g.0 g.1 g.2 (eqb-true left 0 e) in
    inr (inr (inr (refl, inr (d.0, d.1, omega (arith, d.2, r.few, ltb-false n 2147483648 f), sym d.3))))))
    (λ _. inl refl)
row_outcome b r i (Wrong e) g j = elim j [
  | inl z ↦ inr (inr (inl z))
  | inr z ↦ inr (inr (inr (z.0, inl (too_many b (after_rows r.rows) i z.1))))
]

last_outcome :
    {n left : ℕ} {p : Part} {bytes : List ℕ} (b : ℕ) (r : Rows n) (k : Bool) (i : Begun (joined line r.rows ++ word k) (last_count k) left p bytes) (x : Next)
    → Judged p b x
    → Outcome bytes b (last_on n left x)
last_outcome b r k i (More q) j = inl refl
last_outcome {left = left} {bytes = bytes} b r k i (Ended v) j =
    by_test (Outcome bytes b) (eqb left 0) (λ _. inr (inl refl)) (λ _. inl refl)
last_outcome b r k i (Wrong e) j = elim j [
  | inl z ↦ inr (inr (inl z))
  | inr z ↦
      inr (inr (inr (z.0, inl (too_many b (begins_append (joined line r.rows) (word k) (after_rows r.rows) (after_word k)) i z.1))))
]

pub outcome : (s : Text) (bytes : List ℕ) (b : ℕ) → Seen s bytes → verdict s ≡ 43 → Outcome bytes b (step s b)
outcome (Line n) bytes b w e =
    by_test (Outcome bytes b) (eqb b 97) (λ _. inl refl)
    (λ _.
    by_test (Outcome bytes b) (eqb b 114) (λ _. inl refl)
    (λ _.
    row_outcome b w.0 (begun_none 9 8 refl w.1) (next Fresh 32 b) (next_good Fresh 32 b tt) (next_judged Fresh 32 b)))
outcome (Row n left p) bytes b w e =
    row_outcome b w.0 w.1 (next p (separator left) b) (next_good p (separator left) b w.1.ok) (next_judged p (separator left) b)
outcome (Word n at) bytes b w e =
    by_test (Outcome bytes b) (eqb b (get_or letters at 0))
    (λ _.
    by_test (Outcome bytes b) (eqb at 5) (λ _. inl refl)
    (λ _. by_test (Outcome bytes b) (ltb at 13) (λ _. inl refl) (λ _. inl refl)))
    (λ _. inr (inr (inl refl)))
outcome (Last n left p) bytes b w e = last_outcome b w.0 w.1 w.2 (next p (separator left) b) (next_judged p (separator left) b)
outcome (End n) bytes b w e = absurd (omega (arith, e))
outcome (Stop n) bytes b w e = absurd (w.stopped e)

-- ---- a digit too many is refused with 42

-- no number is begun
abbrev Freshly : Text → Type 0
Freshly (Line n) = Unit
Freshly (Row n left p) = p ≡ Fresh
Freshly (Word n at) = Unit
Freshly (Last n left p) = p ≡ Fresh
Freshly (End n) = Unit
Freshly (Stop n) = Unit

-- a byte that is neither a sign nor a digit continues no number
abbrev Over : Next → Type 0
Over (More q) = ⊥
Over (Ended v) = Unit
Over (Wrong e) = Unit

next_over : (p : Part) (s b : ℕ) → b < 45 → Over (next p s b)
next_over Fresh s b h = simp (ne_eqb b 45 (omega arith), ne_eqb b 48 (omega arith), lt-ltb b 48 (omega arith)) tt
next_over Minus s b h = simp (ne_eqb b 49 (omega arith)) tt
next_over (Closed v) s b h = by_test Over (eqb b s) (λ _. tt) (λ _. tt)
next_over (Open n) s b h = by_test Over (eqb b s) (λ _. tt) (λ _. simp (lt-ltb b 48 (omega arith)) tt)

row_fresh : (n left : ℕ) (x : Next) → Over x → Freshly (row_on n left x)
row_fresh n left (More q) o = absurd o
row_fresh n left (Ended v) o =
    by_test Freshly (eqb left 0) (λ _. by_test Freshly (ltb n 2147483648) (λ _. tt) (λ _. tt)) (λ _. refl)
row_fresh n left (Wrong e) o = tt

last_fresh : (n left : ℕ) (x : Next) → Over x → Freshly (last_on n left x)
last_fresh n left (More q) o = absurd o
last_fresh n left (Ended v) o = by_test Freshly (eqb left 0) (λ _. tt) (λ _. refl)
last_fresh n left (Wrong e) o = tt

step_fresh : (s : Text) (b : ℕ) → b < 45 → Freshly (step s b)
step_fresh (Line n) b h =
    by_test Freshly (eqb b 97) (λ _. tt)
    (λ _. by_test Freshly (eqb b 114) (λ _. tt) (λ _. row_fresh n 8 (next Fresh 32 b) (next_over Fresh 32 b h)))
step_fresh (Row n left p) b h = row_fresh n left (next p (separator left) b) (next_over p (separator left) b h)
step_fresh (Word n at) b h =
    by_test Freshly (eqb b (get_or letters at 0))
    (λ _. by_test Freshly (eqb at 5) (λ _. refl) (λ _. by_test Freshly (ltb at 13) (λ _. tt) (λ _. refl)))
    (λ _. tt)
step_fresh (Last n left p) b h = last_fresh n left (next p (separator left) b) (next_over p (separator left) b h)
step_fresh (End n) b h = tt
step_fresh (Stop n) b h = tt

pub fresh_after : (bytes : List ℕ) → NumberBegins bytes → Freshly (after step (Line 1) bytes)
fresh_after bytes h = elim h [
  | inl e ↦ rw e tt
  | inr x ↦
      rw (x.3, after_append step (Line 1) x.0 (x.1 ∷ []))
      (step_fresh (after step (Line 1) x.0) x.1 (elim x.2 [ inl e ↦ omega (arith, e) | inr e ↦ omega (arith, e) ]))
]

-- no letter is a digit
abbrev NoDigit : ℕ → Type 0
NoDigit x = (ltb x 45 || ltb 57 x) ≡ true

each_at : (P : ℕ → Type 0) (l : List ℕ) → Each P l → P 0 → (i : ℕ) → P (get_or l i 0)
each_at P [] h d i = d
each_at P (x ∷ l) h d zero = h.0
each_at P (x ∷ l) h d (suc i) = each_at P l h.1 d i

letter_no_digit : (at : ℕ) → NoDigit (get_or letters at 0)
letter_no_digit at =
    each_at NoDigit letters (refl, (refl, (refl, (refl, (refl, (refl, (refl, (refl, (refl, (refl, (refl, (refl, (refl, (refl, tt)))))))))))))) refl at

no_digit : (x c : ℕ) → NoDigit x → 45 ≤ c → c < 58 → ¬ (c ≡ x)
no_digit x c h l m e =
    let k : (ltb c 45 || ltb 57 c) ≡ true = rw e h in
    false≢true (rw (le-ltb c 45 l, le-ltb 57 c (omega arith)) at k)

word_digit : (rows at c : ℕ) → 45 ≤ c → c < 58 → step (Word rows at) c ≡ Stop refusal.Malformed
word_digit rows at c l m = simp (ne_eqb c (get_or letters at 0) (no_digit (get_or letters at 0) c (letter_no_digit at) l m))

pub separator_small : (left : ℕ) → separator left < 48
separator_small left = by_test (λ (x : ℕ). x < 48) (eqb left 0) (λ _. lit< tt) (λ _. lit< tt)

digit_large : (s n d : ℕ) → s < 48 → d < 10 → 2147483647 < n * 10 + d → next (Open n) s (48 + d) ≡ Wrong refusal.TooLarge
digit_large s n d k h l =
    let e : 48 + d - 48 ≡ d = omega arith in
    simp (
      ne_eqb (48 + d) s (omega arith),
      le-ltb (48 + d) 48 (omega arith),
      le-ltb 57 (48 + d) (omega arith),
      e,
      le-ltb (n * 10 + d) 2147483648 (omega arith),
    )

module _ (n d : ℕ) (one : 1 ≤ n) (fits : n < 2147483648) (small : d < 10) (large : 2147483647 < n * 10 + d) where
  row_large : (rows left : ℕ) → verdict (step (after step (Row rows left Fresh) (decimal n)) (48 + d)) ≡ 42
  row_large rows left =
      let s = separator_small left in
      let g = digits (Row rows left) (row_on rows left) (separator left) s (λ p b. refl) (λ p b. refl) (λ p. refl) 10 n (omega (arith, fits)) one fits in
      rw (g.ends, digit_large (separator left) n d s small large)

  last_large : (rows left : ℕ) → verdict (step (after step (Last rows left Fresh) (decimal n)) (48 + d)) ≡ 42
  last_large rows left =
      let s = separator_small left in
      let g = digits (Last rows left) (last_on rows left) (separator left) s (λ p b. refl) (λ p b. refl) (λ p. refl) 10 n (omega (arith, fits)) one fits in
      rw (g.ends, digit_large (separator left) n d s small large)

  pub number_large :
      (s : Text) (bytes : List ℕ)
      → Seen s bytes
      → Freshly s
      → verdict s ≡ 43
      → verdict (after step s (decimal n)) ≡ 43
      → verdict (step (after step s (decimal n)) (48 + d)) ≡ 42
  number_large (Line rows) bytes w f e g =
      let b = decimal_begins 9 n (omega (arith, fits)) (omega (arith, fits)) in
      let k : after step (Line rows) (decimal n) ≡ after step (Row rows 8 Fresh) (decimal n) =
      rw b.whole (ap (λ (s : Text). after step s b.tail) (row_first rows b.head b.low)) in
      rw k (row_large rows 8)
  number_large (Row rows left p) bytes w f e g = rw f (row_large rows left)
  number_large (Word rows at) bytes w f e g =
      let b = decimal_begins 9 n (omega (arith, fits)) (omega (arith, fits)) in
      let k : after step (Word rows at) (decimal n) ≡ Stop refusal.Malformed =
      rw b.whole (ap (λ (s : Text). after step s b.tail) (word_digit rows at b.head b.high b.low) ∙ text_stopped refusal.Malformed b.tail) in
      absurd (omega (arith, sym (ap verdict k) ∙ g))
  number_large (Last rows left p) bytes w f e g = rw f (last_large rows left)
  number_large (End rows) bytes w f e g = absurd (omega (arith, e))
  number_large (Stop k) bytes w f e g = absurd (w.stopped e)
