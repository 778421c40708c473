-- Where a reader's verdict falls, for any machine whose verdict is 0 or 43 until it stops: it stays from the byte on that decides it, and
-- before that byte it was 43, or 0 where the refusal is 44. Assumes nothing.
use mathlib.Core.Path.{◌≡◌, refl, ap, sym, ◌∙◌}
use mathlib.Core.Bool.{Bool, true, false}
use mathlib.Core.List.{List, [], ◌∷◌, ◌++◌, append_assoc, append-nil}
use mathlib.Core.Logic.{◌⊎◌, inl, inr}
use Prim.Native.Nat.{ℕ}
use native.Mathlib.Omega.{arith}
use borrow.Author.Tests.{eqb-true, eqb-false}
use lib.Dec.{eqb}
use Rattle.packed.specs.Machine.{after}
use Rattle.packed.specs.Refusals.{First}
use Rattle.packed.proofs.Runs.{after_append}

pub record Judge {S : Type 0} (step : S → ℕ → S) (verdict : S → ℕ) (start : S) : Type 0 where
  pub begun : verdict start ≡ 43
  pub stays : (s : S) (b : ℕ) → ¬ (verdict s ≡ 0) → ¬ (verdict s ≡ 43) → verdict (step s b) ≡ verdict s
  pub over : (bytes : List ℕ) (b : ℕ) → verdict (after step start bytes) ≡ 0 → verdict (step (after step start bytes) b) ≡ 44
  pub under : (bytes : List ℕ) (b : ℕ) → verdict (after step start bytes) ≡ 43 → ¬ (verdict (step (after step start bytes) b) ≡ 44)

pub first_map :
    {P Q : List ℕ → ℕ → Type 0} {bytes : List ℕ} → ((good : List ℕ) (b : ℕ) → P good b → Q good b) → First P bytes → First Q bytes
first_map f x = record { good = x.good; next = x.next; rest = x.rest; whole = x.whole; holds = f x.good x.next x.holds }

-- not yet refused
abbrev Alive : ℕ → Type 0
Alive n = (n ≡ 0) ⊎ (n ≡ 43)

alive : (n : ℕ) → Alive n ⊎ (¬ (n ≡ 0) × ¬ (n ≡ 43))
alive n = go (eqb n 0) (eqb n 43) refl refl
  where
    go : (t u : Bool) → eqb n 0 ≡ t → eqb n 43 ≡ u → Alive n ⊎ (¬ (n ≡ 0) × ¬ (n ≡ 43))
    go true u e f = inl (inl (eqb-true n 0 e))
    go false true e f = inl (inr (eqb-true n 43 f))
    go false false e f = inr (eqb-false n 0 e, eqb-false n 43 f)

module _ {S : Type 0} (step : S → ℕ → S) (verdict : S → ℕ) (start : S) (judge : Judge step verdict start) where
  stopped : (s : S) (bytes : List ℕ) → ¬ (verdict s ≡ 0) → ¬ (verdict s ≡ 43) → verdict (after step s bytes) ≡ verdict s
  stopped s [] p q = refl
  stopped s (b ∷ bytes) p q =
      let e = judge.stays s b p q in
      stopped (step s b) bytes (rw e p) (rw e q) ∙ e

  -- the byte that decides
  decided :
      (s : S) (bytes : List ℕ) (n : ℕ)
      → Alive (verdict s)
      → verdict (after step s bytes) ≡ n
      → ¬ (n ≡ 0)
      → ¬ (n ≡ 43)
      → First (λ good b. Alive (verdict (after step s good)) × (verdict (step (after step s good) b) ≡ n)) bytes
  decided s [] n a e p q = elim a [ inl z ↦ absurd (p (sym e ∙ z)) | inr z ↦ absurd (q (sym e ∙ z)) ]
  decided s (b ∷ bytes) n a e p q =
      elim (alive (verdict (step s b))) [
        | inl live ↦
            let f = decided (step s b) bytes n live e p q in
            record { good = b ∷ f.good; next = f.next; rest = f.rest; whole = ap (λ (l : List ℕ). b ∷ l) f.whole; holds = f.holds }
        | inr dead ↦
            record { good = []; next = b; rest = bytes; whole = refl; holds = (a, sym (stopped (step s b) bytes dead.0 dead.1) ∙ e) }
      ]

  abbrev v : List ℕ → ℕ
  v bytes = verdict (after step start bytes)

  pub snoc : (good : List ℕ) (b : ℕ) → v (good ++ (b ∷ [])) ≡ verdict (step (after step start good) b)
  snoc good b = ap verdict (after_append step start good (b ∷ []))

  -- what is refused stays so
  pub refused_on : (bytes rest : List ℕ) → ¬ (v bytes ≡ 0) → ¬ (v bytes ≡ 43) → v (bytes ++ rest) ≡ v bytes
  refused_on bytes rest p q = ap verdict (after_append step start bytes rest) ∙ stopped (after step start bytes) rest p q

  -- after a whole one, one more
  pub one_more : (bytes : List ℕ) (b : ℕ) (rest : List ℕ) → v bytes ≡ 0 → v (bytes ++ (b ∷ rest)) ≡ 44
  one_more bytes b rest e =
      let s = after step start bytes in
      let k = judge.over bytes b e in
      ap verdict (after_append step start bytes (b ∷ rest)) ∙ stopped (step s b) rest (λ z. omega (arith, k, z)) (λ z. omega (arith, k, z)) ∙ k

  pub refused_first :
      (bytes : List ℕ) (n : ℕ)
      → v bytes ≡ n
      → ¬ (n ≡ 0)
      → ¬ (n ≡ 43)
      → ¬ (n ≡ 44)
      → First (λ good b. (v good ≡ 43) × (v (good ++ (b ∷ [])) ≡ n)) bytes
  refused_first bytes n e p q r =
      let f = decided start bytes n (inr judge.begun) e p q in
      record {
        good = f.good;
        next = f.next;
        rest = f.rest;
        whole = f.whole;
        holds = (
          elim f.holds.0 [
            | inl z ↦ absurd (r (sym f.holds.1 ∙ judge.over f.good f.next z))
            | inr z ↦ z
          ],
          snoc f.good f.next ∙ f.holds.1,
        );
      }

  pub refused_back :
      (bytes : List ℕ) (n : ℕ) → ¬ (n ≡ 0) → ¬ (n ≡ 43) → First (λ good b. v (good ++ (b ∷ [])) ≡ n) bytes → v bytes ≡ n
  refused_back bytes n p q f =
      let e = f.holds in
      ap v (f.whole ∙ sym (append_assoc f.good (f.next ∷ []) f.rest))
      ∙ refused_on (f.good ++ (f.next ∷ [])) f.rest (rw e p) (rw e q)
      ∙ e

  pub more_first : (bytes : List ℕ) → v bytes ≡ 44 → First (λ good b. v good ≡ 0) bytes
  more_first bytes e =
      let f = decided start bytes 44 (inr judge.begun) e (λ z. omega (arith, z)) (λ z. omega (arith, z)) in
      record {
        good = f.good;
        next = f.next;
        rest = f.rest;
        whole = f.whole;
        holds = elim f.holds.0 [
          | inl z ↦ z
          | inr z ↦ absurd (judge.under f.good f.next z f.holds.1)
        ];
      }

  pub more_back : (bytes : List ℕ) → First (λ good b. v good ≡ 0) bytes → v bytes ≡ 44
  more_back bytes f = ap v f.whole ∙ one_more f.good f.next f.rest f.holds

  -- what begins a whole one, or one that is begun, is begun
  pub begins_whole : (bytes : List ℕ) (b : ℕ) (rest : List ℕ) → v (bytes ++ (b ∷ rest)) ≡ 0 → v bytes ≡ 43
  begins_whole bytes b rest e = elim (alive (v bytes)) [
    | inl a ↦ elim a [ inl z ↦ absurd (omega (arith, sym e ∙ one_more bytes b rest z)) | inr z ↦ z ]
    | inr d ↦ absurd (d.0 (sym (refused_on bytes (b ∷ rest) d.0 d.1) ∙ e))
  ]

  pub begins_begun : (bytes rest : List ℕ) → v (bytes ++ rest) ≡ 43 → v bytes ≡ 43
  begins_begun bytes [] e = rw append-nil at e
  begins_begun bytes (b ∷ rest) e = elim (alive (v bytes)) [
    | inl a ↦ elim a [ inl z ↦ absurd (omega (arith, sym e ∙ one_more bytes b rest z)) | inr z ↦ z ]
    | inr d ↦ absurd (d.1 (sym (refused_on bytes (b ∷ rest) d.0 d.1) ∙ e))
  ]
