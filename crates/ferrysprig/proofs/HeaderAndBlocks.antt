-- A header answer comes back from its ten numbers, so that holding numbers against each other is holding answers against each other. Assumes
-- nothing.
use mathlib.Core.Bool.{Bool, true, false, ◌&&◌, cond}
use mathlib.Core.List.{List, [], ◌∷◌}
use mathlib.Core.Logic.{◌⊎◌, inl, inr}
use mathlib.Core.Path.{◌≡◌, refl, ap, sym, subst, ◌∙◌}
use Prim.Native.Nat.{ℕ, suc, ◌+◌, ◌≤◌, ◌<◌}
use native.Mathlib.Omega.{arith}
use lib.Dec.{eqb}
use lib.IntN.{ℤ, pos, negsuc}
use lib.ListN.{length, get_or, drop}
use lib.Seq.{drop-cons}
use borrow.Author.Tests.{eqb-true, eq-eqb}
use Rattle.alloc.specs.Allocation.{from}
use Rattle.signed.specs.Level.{eq_z}
use Rattle.signed.proofs.Equal.{eq_z_yes, eq_z_no}
use Rattle.syntax.specs.Numbers.{shown}
use Rattle.ac3.specs.Apart.{header_to, same_answer, fits, unfit, afresh_if, blocks_to, ended_at, in_turn}
use Rattle.ac3.specs.Frame.{slot_counts}
use Rattle.ac3.specs.Later.{AlikeBefore}
use Rattle.ac3.specs.Promise.{Call, with_room, answer_to}
use Rattle.ac3.specs.RowBound.{most_rows}
use Rattle.ac3.specs.declared.Answer.{Answer}
use Rattle.ac3.specs.declared.HeaderAnswer.{HeaderAnswer}
use Rattle.ac3.proofs.HeaderAndBlocks.{answer_same, answer_self, afresh_is, header_and_blocks}
use Rattle.ac3.proofs.Promise.{promised}
use Rattle.ac3.proofs.Within.{kept_within}
use Rattle.ferrysprig.specs.Apart.{header_numbers, header_told, same_numbers, taken_by, blocks_held}
use Rattle.ferrysprig.specs.HeaderAndBlocks.{ended_numbers, in_turn_held, HeaderAndBlocksHeld}
use Rattle.ferrysprig.specs.Numbers.{flag, in_order, bits_in_order, bits_numbers, answer_numbers, told}
use Rattle.ferrysprig.specs.Promise.{refusal_in, bit_in, PromisedNumbers}
use Rattle.ferrysprig.proofs.Promise.{long_told, promised_numbers}

-- ---- numbers

same : {m n : ℕ} → pos m ≡ pos n → m ≡ n
same e = cc

both : (a b : Bool) → (a && b) ≡ true → (a ≡ true) × (b ≡ true)
both true b e = (refl, e)
both false b e = let z : ◌≡◌ {A = ℕ} 0 1 = cc in absurd (omega arith)

eq_z_same : (a b : ℤ) → eq_z a b ≡ true → a ≡ b
eq_z_same (pos m) (pos n) e = ap pos (eqb-true m n e)
eq_z_same (negsuc m) (negsuc n) e = ap negsuc (eqb-true m n e)
eq_z_same (pos m) (negsuc n) e = let z : ◌≡◌ {A = ℕ} 0 1 = cc in absurd (omega arith)
eq_z_same (negsuc m) (pos n) e = let z : ◌≡◌ {A = ℕ} 0 1 = cc in absurd (omega arith)

numbers_same : (a b : List ℤ) → same_numbers a b ≡ true → a ≡ b
unfolding same_numbers
numbers_same [] [] e = refl
numbers_same [] (y ∷ ys) e = let z : ◌≡◌ {A = ℕ} 0 1 = cc in absurd (omega arith)
numbers_same (x ∷ xs) [] e = let z : ◌≡◌ {A = ℕ} 0 1 = cc in absurd (omega arith)
numbers_same (x ∷ xs) (y ∷ ys) e =
    let (here, later) = both (eq_z x y) (same_numbers xs ys) e in
    λ i. eq_z_same x y here i ∷ numbers_same xs ys later i

numbers_self : (a : List ℤ) → same_numbers a a ≡ true
unfolding same_numbers
numbers_self [] = refl
numbers_self (x ∷ xs) = rw (eq_z_yes x x refl, numbers_self xs)

-- from number i on: alike there, it is the rest that decides; else they differ
module _ (a b : List ℤ) (i : ℕ) (in-a : i < length a) (in_b : i < length b) where
  from_here : same_numbers (drop i a) (drop i b) ≡ (eq_z (get_or a i (pos 0)) (get_or b i (pos 0)) && same_numbers (drop (i + 1) a) (drop (i + 1) b))
  unfolding same_numbers
  from_here =
      let next : i + 1 ≡ suc i = omega arith in
      rw next (ap (λ x. same_numbers x (drop i b)) (drop-cons a i (pos 0) in-a) ∙ ap (same_numbers (get_or a i (pos 0) ∷ drop (suc i) a)) (drop-cons b i (pos 0) in_b))

  pub alike_here : get_or a i (pos 0) ≡ get_or b i (pos 0) → same_numbers (drop i a) (drop i b) ≡ same_numbers (drop (i + 1) a) (drop (i + 1) b)
  alike_here e = from_here ∙ ap (λ t. t && same_numbers (drop (i + 1) a) (drop (i + 1) b)) (eq_z_yes _ _ e)

  pub differ_here : ¬ (get_or a i (pos 0) ≡ get_or b i (pos 0)) → same_numbers (drop i a) (drop i b) ≡ false
  differ_here h = from_here ∙ ap (λ t. t && same_numbers (drop (i + 1) a) (drop (i + 1) b)) (eq_z_no _ _ h)

-- ---- a header answer comes back from its numbers

shown_same : (m n : ℕ) → shown m ≡ shown n → m ≡ n
unfolding shown
shown_same m n = go (eqb m 255) (eqb n 255) refl refl
  where
    go : (a b : Bool) → eqb m 255 ≡ a → eqb n 255 ≡ b → cond a (negsuc 0) (pos m) ≡ cond b (negsuc 0) (pos n) → m ≡ n
    go true true e f h = eqb-true m 255 e ∙ sym (eqb-true n 255 f)
    go true false e f h = let z : ◌≡◌ {A = ℕ} 0 1 = cc in absurd (omega arith)
    go false true e f h = let z : ◌≡◌ {A = ℕ} 0 1 = cc in absurd (omega arith)
    go false false e f h = same h

flag_same : (a b : Bool) → flag a ≡ flag b → a ≡ b
flag_same true true e = refl
flag_same true false e = absurd (omega arith)
flag_same false true e = absurd (omega arith)
flag_same false false e = refl

back : (a b : HeaderAnswer) → header_numbers a ≡ header_numbers b → a ≡ b
unfolding header_numbers
back a b e =
    let nth : (k : ℕ) → get_or (header_numbers a) k (pos 0) ≡ get_or (header_numbers b) k (pos 0) = λ k. ap (λ (l : List ℤ). get_or l k (pos 0)) e in
    λ i. record {
      refusal = same (nth 0) i;
      rows = same (nth 1) i;
      bit = same (nth 2) i;
      name = same (nth 3) i;
      block = shown_same a.block b.block (nth 4) i;
      header = record {
        bytes = same (nth 5) i;
        fscod = same (nth 9) i;
        bsid = same (nth 6) i;
        acmod = same (nth 7) i;
        lfeon = flag_same a.header.lfeon b.header.lfeon (same (nth 8)) i;
      };
    }

-- ---- what is taken

refusal_told : (a : Answer) → refusal_in (answer_numbers a) ≡ pos a.refusal
unfolding answer_numbers in_order
refusal_told a = refl

head_told : (a : HeaderAnswer) → refusal_in (header_numbers a) ≡ pos a.refusal
unfolding header_numbers
head_told a = refl

bit_told : (a : HeaderAnswer) → bit_in (header_numbers a) ≡ pos a.bit
unfolding header_numbers
bit_told a = refl

module _ (c : Call) where
  abbrev own : HeaderAnswer
  own = (header_to c).0

  other : ¬ ((answer_to c).0.refusal ≡ 24)
  other e = omega (arith, (promised c refl).numbered)

  module _ (given : List ℤ) where
    abbrev Taken : Type 0
    Taken = (taken_by given own ≡ true) × (blocks_held c given ≡ told (answer_to c))

    abbrev Refused : Type 0
    Refused = blocks_held c given ≡ told (unfit, c.room)

    settled : (b : Bool) → taken_by given own ≡ b → Taken ⊎ Refused
    settled true e = inl (e, ap told (ap (λ b. afresh_if b c) e ∙ afresh_is true c))
    settled false e = inr (ap told (ap (λ b. afresh_if b c) e ∙ afresh_is false c))

    when_taken : ¬ (refusal_in (blocks_held c given).0 ≡ pos 24) → Taken
    when_taken h = go (settled (taken_by given own) refl)
      where
        go : Taken ⊎ Refused → Taken
        go (inl x) = x
        go (inr e) = absurd (h (ap (λ x. refusal_in x.0) e ∙ refusal_told unfit))

    when_not : refusal_in (blocks_held c given).0 ≡ pos 24 → Refused
    when_not h = go (settled (taken_by given own) refl)
      where
        go : Taken ⊎ Refused → Refused
        go (inl x) = absurd (other (same (sym (refusal_told (answer_to c).0) ∙ ap (λ x. refusal_in x.0) (sym x.1) ∙ h)))
        go (inr e) = e

    only_own : ¬ (refusal_in (blocks_held c given).0 ≡ pos 24) → (given ≡ header_numbers own) × (refusal_in given ≡ pos 0)
    only_own h =
        let e = both (eqb own.refusal 0) (same_numbers given (header_numbers own)) (when_taken h).0 in
        let is = numbers_same given (header_numbers own) e.1 in
        (is, ap refusal_in is ∙ head_told own ∙ ap pos (eqb-true own.refusal 0 e.0))

  own_taken : own.refusal ≡ 0 → taken_by (header_numbers own) own ≡ true
  own_taken e = rw (eq-eqb own.refusal 0 e, numbers_self (header_numbers own))

  takes_own : refusal_in (header_numbers own) ≡ pos 0 → ¬ (refusal_in (blocks_held c (header_numbers own)).0 ≡ pos 24)
  takes_own z h =
      let zero = same (sym (head_told own) ∙ z) in
      let is : blocks_held c (header_numbers own) ≡ told (answer_to c) = ap told (ap (λ b. afresh_if b c) (own_taken zero) ∙ afresh_is true c) in
      other (same (sym (refusal_told (answer_to c).0) ∙ ap (λ x. refusal_in x.0) (sym is) ∙ h))

  -- an answer fits where its numbers are taken
  module _ (claim : HeaderAnswer) where
    fits_then : fits c claim ≡ true → taken_by (header_numbers claim) own ≡ true
    fits_then e =
        let (zero, alike) = both (eqb claim.refusal 0) (same_answer claim own) e in
        let is = answer_same claim own alike in
        ap (λ x. taken_by (header_numbers x) own) is ∙ own_taken (ap (λ x. x.refusal) (sym is) ∙ eqb-true claim.refusal 0 zero)

    then_fits : taken_by (header_numbers claim) own ≡ true → fits c claim ≡ true
    then_fits e =
        let (zero, alike) = both (eqb own.refusal 0) (same_numbers (header_numbers claim) (header_numbers own)) e in
        let is = back claim own (numbers_same (header_numbers claim) (header_numbers own) alike) in
        ap (λ x. eqb x.refusal 0 && same_answer x own) is ∙ rw (zero, answer_self own)

    alike_tests : (a b : Bool) → fits c claim ≡ a → taken_by (header_numbers claim) own ≡ b → b ≡ a
    alike_tests true true e f = refl
    alike_tests true false e f = sym f ∙ fits_then e
    alike_tests false true e f = sym (then_fits f) ∙ e
    alike_tests false false e f = refl

    claims_are : blocks_held c (header_numbers claim) ≡ told (blocks_to c claim)
    claims_are = ap (λ b. told (afresh_if b c)) (alike_tests (fits c claim) (taken_by (header_numbers claim) own) refl refl)

-- ---- both in turn

ended_told : (h : HeaderAnswer) → answer_numbers (ended_at h) ≡ ended_numbers (header_numbers h)
unfolding answer_numbers in_order bits_numbers bits_in_order from header_numbers
ended_told h = refl

in_turn_held_lem : (c : Call) → told (answer_to c) ≡ in_turn_held c
unfolding in_turn in_turn_held header_numbers
in_turn_held_lem c = ap told (header_and_blocks.same_in_turn c) ∙ go (eqb (header_to c).0.refusal 0)
  where
    next : Call
    next = with_room (header_to c).1 c

    go : (b : Bool) → told (cond b (blocks_to next (header_to c).0) (ended_at (header_to c).0, (header_to c).1))
        ≡ cond b (blocks_held next (header_numbers (header_to c).0)) (ended_numbers (header_numbers (header_to c).0), (header_to c).1)
    go true = sym (claims_are next (header_to c).0)
    go false = λ i. (ended_told (header_to c).0 i, (header_to c).1)

in_turn_promised : (c : Call) → PromisedNumbers c (in_turn_held c).0 (in_turn_held c).1
in_turn_promised c =
    let kept = promised c refl in
    subst (λ (x : List ℤ × List ℤ). PromisedNumbers c x.0 x.1) (in_turn_held_lem c) (promised_numbers kept (kept_within c _ _ kept) refl)

-- few rows, so that the numbers fit
abbrev Fits : Answer × List ℤ → Type 0
Fits x = ((x.0.rows ≤ most_rows) × (x.0.summary.rows ≤ most_rows)) × (length x.0.summary.tally.bits ≡ slot_counts)

pub few_afresh : (b : Bool) (c : Call) {x : Answer × List ℤ} → x ≡ afresh_if b c → Fits x
few_afresh b c {x} e = subst Fits (sym (e ∙ afresh_is b c)) (go b)
  where
    go : (b : Bool) → Fits (cond b (answer_to c) (unfit, c.room))
    go true = let within = kept_within c _ _ (promised c refl) in ((within.few, omega (arith, within.few, within.told)), long_told c refl)
    go false = ((omega arith, omega arith), refl)

pub header_and_blocks_held : HeaderAndBlocksHeld
header_and_blocks_held =
    record {
      same_in_turn = in_turn_held_lem;
      promised = in_turn_promised;
      takes = takes_own;
      taken = only_own;
      answers = λ c given h. (when_taken c given h).1;
      untouched = when_not;
      claims = claims_are;
      idle = λ c d bit is alike. ap header_told (header_and_blocks.idle c d (subst (λ (n : ℕ). AlikeBefore n c d) (same (sym is ∙ bit_told (header_to c).0)) alike));
    }
