-- "Coordinates sent" of one block more is what it was, and that every coupled channel of this block has had them: blocks that are appended
-- change nothing of those before. Assumes nothing.
use mathlib.Core.Bool.{Bool, true, false, ◌&&◌, ◌||◌, not}
use mathlib.Core.List.{List, [], ◌∷◌, ◌++◌}
use mathlib.Core.Path.{◌≡◌, refl, ap, sym, ◌∙◌}
use Prim.Native.Nat.{ℕ, zero, suc, ◌+◌, ◌<◌, ◌≤◌}
use native.Mathlib.Nat.{add-zero}
use native.Mathlib.Numerals.{add-one}
use native.Mathlib.Omega.{arith}
use borrow.Author.Count.{below_more}
use lib.ListN.{length, get_or, replicate, length-append, get_or-append}
use lib.Seq.{get_or-append-add}
use Rattle.slots.proofs.Entries.{every_replicate}
use Rattle.ac3.specs.Sent.{Sending, every, some, block, is_coupled, each_coupled, sends, had, all_had, coordinates_sent, EachHad, SentIsEachHad}
use Rattle.ac3.specs.Tallied.{Tallied}

-- ---- tests that hold

never : {A : Type 0} → true ≡ false → A
never e = let z : ◌≡◌ {A = ℕ} 0 1 = cc in absurd (omega arith)

first : (a b : Bool) → (a && b) ≡ true → a ≡ true
first true b e = refl
first false b e = e

second : (a b : Bool) → (a && b) ≡ true → b ≡ true
second true b e = e
second false b e = never (sym e)

-- "not this, or that": where this holds, that does
that : (a b : Bool) → (not a || b) ≡ true → a ≡ true → b ≡ true
that true b e f = e
that false b e f = never (sym f)

or_that : (a b : Bool) → (a ≡ true → b ≡ true) → (not a || b) ≡ true
or_that true b h = h refl
or_that false b h = refl

-- ---- of every number below n, and of some of them

module _ (p : ℕ → Bool) where
  pub every_all : (n : ℕ) → ((k : ℕ) → k < n → p k ≡ true) → every n p ≡ true
  unfolding every
  every_all zero h = refl
  every_all (suc n) h = rw (every_all n (λ k l. h k (omega arith)), h n (omega arith))

  every_each : (n : ℕ) → every n p ≡ true → (k : ℕ) → k < n → p k ≡ true
  unfolding every
  every_each zero e k l = absurd (omega arith)
  every_each (suc n) e k l =
      below_more (λ k. p k ≡ true) n (every_each n (first (every n p) (p n) e)) (second (every n p) (p n) e) k (omega arith)

  pub every_fails : (n k : ℕ) → k < n → p k ≡ false → every n p ≡ false
  every_fails n k l e = go (every n p) refl
    where
      go : (b : Bool) → every n p ≡ b → every n p ≡ false
      go true f = never (sym (every_each n f k l) ∙ e)
      go false f = f

  some_one : (n k : ℕ) → k < n → p k ≡ true → some n p ≡ true
  unfolding some
  some_one zero k l e = absurd (omega arith)
  some_one (suc n) k l e =
      below_more (λ k. p k ≡ true → some (suc n) p ≡ true) n (λ j m f. rw (some_one n j m f)) (λ f. last (some n p) f) k (omega arith) e
    where
      last : (b : Bool) → p n ≡ true → (b || p n) ≡ true
      last true f = refl
      last false f = f

  some_which : (n : ℕ) → some n p ≡ true → (k : ℕ) × (k < n) × (p k ≡ true)
  unfolding some
  some_which zero e = never (sym e)
  some_which (suc n) e = go (some n p) (some_which n) e
    where
      go : (b : Bool) → (b ≡ true → (k : ℕ) × (k < n) × (p k ≡ true)) → (b || p n) ≡ true → (k : ℕ) × (k < suc n) × (p k ≡ true)
      go true w e = let i = w refl in (i.0, omega (arith, i.1), i.2)
      go false w e = (n, omega arith, e)

module _ (p q : ℕ → Bool) where
  every_same : (n : ℕ) → ((k : ℕ) → k < n → p k ≡ q k) → every n p ≡ every n q
  unfolding every
  every_same zero h = refl
  every_same (suc n) h = rw (every_same n (λ k l. h k (omega arith)), h n (omega arith))

  some_same : (n : ℕ) → ((k : ℕ) → k < n → p k ≡ q k) → some n p ≡ some n q
  unfolding some
  some_same zero h = refl
  some_same (suc n) h = rw (some_same n (λ k l. h k (omega arith)), h n (omega arith))

-- ---- what it says of any block and any channel

module _ (blocks : List Sending) where
  abbrev asked : (b ch : ℕ) → Bool
  asked b ch = not (is_coupled blocks b ch) || had blocks (b + 1) ch

  abbrev has : (ch e : ℕ) → Bool
  has ch e = is_coupled blocks e ch && sends blocks e ch

  sent_each : coordinates_sent blocks ≡ true → EachHad blocks
  unfolding coordinates_sent
  sent_each sent b ch l m is =
      let here = every_each (asked b) 5 (every_each (all_had blocks) (length blocks) sent b l) ch m in
      let w = some_which (has ch) (b + 1) (that _ _ here is) in
      let e = w.0 in
      let coupled = is_coupled blocks e ch in
      let sent = sends blocks e ch in
      (e, omega (arith, w.1), first coupled sent w.2, second coupled sent w.2)

  each_sent : EachHad blocks → coordinates_sent blocks ≡ true
  unfolding coordinates_sent
  each_sent each =
      every_all (all_had blocks) (length blocks) λ b l.
      every_all (asked b) 5 λ ch m.
      or_that _ _ λ is.
      let w = each b ch l m is in
      some_one (has ch) (b + 1) w.0 (omega (arith, w.1)) (rw (w.2, w.3))

pub sent_is_each_had : SentIsEachHad
sent_is_each_had blocks = (sent_each blocks, each_sent blocks)

-- ---- what is kept from block to block

pub none_tallied : Tallied [] true (replicate 5 false)
unfolding coordinates_sent every some
none_tallied = record { sent = refl; had = λ ch l. every_replicate (λ b. b ≡ false) false 5 false refl refl ch }

module _ (blocks : List Sending) (this : Sending) where
  abbrev longer : List Sending
  longer = blocks ++ this ∷ []

  long : length longer ≡ suc (length blocks)
  long = rw (length-append, add-one)

  before : (b : ℕ) → b < length blocks → block longer b ≡ block blocks b
  before b l = get_or-append blocks (this ∷ []) _ b l

  here : block longer (length blocks) ≡ this
  here = rw (← add-zero (length blocks)) (get_or-append-add blocks (this ∷ []) 0 _)

  had_before : (n ch : ℕ) → n ≤ length blocks → had longer n ch ≡ had blocks n ch
  had_before n ch l =
      some_same (λ e. is_coupled longer e ch && sends longer e ch) (λ e. is_coupled blocks e ch && sends blocks e ch) n
      λ e m. rw (before e (omega arith))

  all_before : (b : ℕ) → b < length blocks → all_had longer b ≡ all_had blocks b
  all_before b l =
      every_same (λ ch. not (is_coupled longer b ch) || had longer (b + 1) ch) (λ ch. not (is_coupled blocks b ch) || had blocks (b + 1) ch) 5
      λ ch m. rw (before b l, had_before (b + 1) ch (omega arith))

  abbrev sent_here : ℕ → Bool
  sent_here ch = get_or this.chincpl ch false && get_or this.cplcoe ch false

  had_here : (ch : ℕ) → had longer (suc (length blocks)) ch ≡ (had blocks (length blocks) ch || sent_here ch)
  unfolding some
  had_here ch = rw (had_before (length blocks) ch (omega arith), here)

  module _ {told : Bool} {channels : List Bool} (t : Tallied blocks told channels) (next : List Bool)
      (joins : (ch : ℕ) → ch < 5 → get_or next ch false ≡ (get_or channels ch false || sent_here ch)) where
    had_now : (ch : ℕ) → ch < 5 → get_or next ch false ≡ had longer (suc (length blocks)) ch
    had_now ch l = joins ch l ∙ ap (λ b. b || sent_here ch) (t.had ch l) ∙ sym (had_here ch)

    all_now : each_coupled this.chincpl (λ ch. get_or next ch false) ≡ all_had longer (length blocks)
    all_now = every_same _ _ 5 λ ch l. rw (had_now ch l, here, add-one)

    pub one_more_tallied : Tallied longer (told && each_coupled this.chincpl (λ ch. get_or next ch false)) next
    unfolding coordinates_sent every
    one_more_tallied =
        record {
          sent = rw (long, all_now, t.sent, every_same (all_had longer) (all_had blocks) (length blocks) all_before);
          had = λ ch l. rw long (had_now ch l);
        }
