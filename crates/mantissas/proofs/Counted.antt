-- The bits that follow from the counts are the widths of 6.3.5: with one mantissa more they grow by the bits that it takes.
-- Assumes nothing.
use mathlib.Core.Bool.{Bool, true, false, cond}
use mathlib.Core.List.{List, [], ◌∷◌, ◌++◌}
use mathlib.Core.Path.{◌≡◌, refl, ap, sym, ◌∙◌}
use Prim.Native.Nat.{ℕ, zero, suc, ◌+◌, ◌-◌, ◌*◌, ◌/◌, ◌%◌, ◌≤◌, ◌<◌}
use native.Mathlib.Nat.{mod-add-mod, zero-add, add-zero, add-suc, suc-add, add_assoc}
use native.Mathlib.Omega.{arith}
use lib.Dec.{eqb}
use lib.IntN.{ℤ}
use lib.ListN.{length, get_or, replicate}
use borrow.Author.Tests.{eqb-true, eqb-false}
use mir.Val.{bool_byte}
use Rattle.tables.specs.Tables.{bap, bap_bits, mantissa_bits}
use Rattle.tables.proofs.Rules.{small_at}
use Rattle.alloc.specs.Allocation.{from}
use Rattle.alloc.proofs.Laws.{allocation_length}
use Rattle.alloc.proofs.Noted.{from_length}
use Rattle.syntax.specs.Run.{sum}
use Rattle.slots.specs.declared.AllocState.{AllocState}
use Rattle.mantissas.specs.Counts.{no_counts, is_pointer, counted, counted_all, plus, width_of, open_after, AtMost, packed, weight}
use Rattle.mantissas.specs.Sound.{between}
use Rattle.mantissas.specs.Mantissas.{Open, none_open, bits_of, now_open, widths, parameters_of, pointers}
use Rattle.mantissas.specs.declared.Counts.{Counts}
use Rattle.mantissas.specs.declared.Part.{Part}

-- ---- one mantissa more

-- the groups that are begun take their bits; one more is begun where none was open
begun : (before after left bits : ℕ) → (left ≡ 0 → after ≡ suc before) → ((left ≡ 0 → ⊥) → after ≡ before) → bits * after ≡ bits * before + cond (eqb left 0) bits 0
begun before after left bits new same = go (eqb left 0) refl
  where
    go : (b : Bool) → eqb left 0 ≡ b → bits * after ≡ bits * before + cond b bits 0
    go true e = rw (new (eqb-true left 0 e)) (omega arith)
    go false e = rw (same (eqb-false left 0 e)) (omega arith)

module _ (n : Counts) (bap : ℕ) where
  pub width_grows : width_of (counted n bap) ≡ width_of n + bits_of (open_after n) bap
  unfolding width_of bap_bits
  width_grows = go (eqb bap 1) (eqb bap 2) (eqb bap 4) refl refl refl
    where
      go : (x y z : Bool) → eqb bap 1 ≡ x → eqb bap 2 ≡ y → eqb bap 4 ≡ z → width_of (counted n bap) ≡ width_of n + bits_of (open_after n) bap
      go true y z e f g = rw (eqb-true bap 1 e) (omega (arith, begun ((n.ones + 2) / 3) ((n.ones + 1 + 2) / 3) (n.ones % 3) 5 (λ h. omega arith) (λ h. omega arith)))
      go false true z e f g = rw (eqb-true bap 2 f) (omega (arith, begun ((n.twos + 2) / 3) ((n.twos + 1 + 2) / 3) (n.twos % 3) 7 (λ h. omega arith) (λ h. omega arith)))
      go false false true e f g = rw (eqb-true bap 4 g) (omega (arith, begun ((n.fours + 1) / 2) ((n.fours + 1 + 1) / 2) (n.fours % 2) 7 (λ h. omega arith) (λ h. omega arith)))
      go false false false e f g = rw (e, f, g) (omega arith)

  -- the same, of the totals before and after it
  pub grew : {more : Counts} {w w' : ℕ} → more ≡ counted n bap → w ≡ width_of n → w' ≡ width_of more → w' ≡ w + bits_of (open_after n) bap
  grew e f g = rw (g, f, e) width_grows

  pub open_after_lem : now_open (open_after n) bap ≡ open_after (counted n bap)
  open_after_lem = λ i. record { ones = one_more 3 n.ones (eqb bap 1) i; twos = one_more 3 n.twos (eqb bap 2) i; fours = one_more 2 n.fours (eqb bap 4) i }
    where
      one_more : (size m : ℕ) (b : Bool) → cond b ((m % size + 1) % size) (m % size) ≡ (m + cond b 1 0) % size
      one_more size m true = mod-add-mod m size 1
      one_more size m false = rw (add-zero m)

-- ---- mantissas in a row

-- each takes as many bits as the total grows by
pub width_sum : (n : Counts) (baps : List ℕ) → width_of (counted_all n baps) ≡ width_of n + sum (widths (open_after n) baps)
unfolding counted_all widths sum
width_sum n [] = sym (add-zero (width_of n))
width_sum n (bap ∷ baps) = width_sum (counted n bap) baps ∙ rw (width_grows n bap, open_after_lem n bap) (add_assoc (width_of n) (bits_of (open_after n) bap) _)

pub whole_width : (baps : List ℕ) → width_of (counted_all no_counts baps) ≡ sum (widths none_open baps)
unfolding width_of
whole_width baps = width_sum no_counts baps ∙ zero-add (sum (widths none_open baps))

pub counted_append : (n : Counts) (xs ys : List ℕ) → counted_all n (xs ++ ys) ≡ counted_all (counted_all n xs) ys
unfolding counted_all
counted_append n [] ys = refl
counted_append n (bap ∷ xs) ys = counted_append (counted n bap) xs ys

pub widths_append : (n : Counts) (xs ys : List ℕ) → widths (open_after n) (xs ++ ys) ≡ widths (open_after n) xs ++ widths (open_after (counted_all n xs)) ys
unfolding counted_all widths
widths_append n [] ys = refl
widths_append n (bap ∷ xs) ys = rw (open_after_lem n bap) (ap (λ t. bits_of (open_after n) bap ∷ t) (widths_append (counted n bap) xs ys))

-- what is counted by itself is added
counted_plus : (a b : Counts) (baps : List ℕ) → counted_all (plus a b) baps ≡ plus a (counted_all b baps)
unfolding counted_all
counted_plus a b [] = refl
counted_plus a b (bap ∷ baps) = ap (λ n. counted_all n baps) (regroup bap) ∙ counted_plus a (counted b bap) baps
  where
    regroup : (bap : ℕ) → counted (plus a b) bap ≡ plus a (counted b bap)
    regroup bap = λ i. record {
      bits = add_assoc a.bits b.bits (bap_bits bap) i;
      ones = add_assoc a.ones b.ones (is_pointer 1 bap) i;
      twos = add_assoc a.twos b.twos (is_pointer 2 bap) i;
      fours = add_assoc a.fours b.fours (is_pointer 4 bap) i;
    }

pub counted_added : (n : Counts) (baps : List ℕ) → counted_all n baps ≡ plus n (counted_all no_counts baps)
counted_added n baps = ap (λ m. counted_all m baps) none ∙ counted_plus n no_counts baps
  where
    none : n ≡ plus n no_counts
    none = λ i. record {
      bits = sym (add-zero n.bits) i;
      ones = sym (add-zero n.ones) i;
      twos = sym (add-zero n.twos) i;
      fours = sym (add-zero n.fours) i;
    }

-- ---- none is large

-- a test as a number
pub one_if : (b : Bool) → bool_byte b ≡ cond b 1 0
one_if true = refl
one_if false = refl

pub at_most_one : (which bap : ℕ) → is_pointer which bap ≤ 1
at_most_one which bap = go (eqb bap which)
  where
    go : (b : Bool) → cond b 1 0 ≤ 1
    go true = omega arith
    go false = omega arith

pub at_most_16 : (bap : ℕ) → bap_bits bap ≤ 16
unfolding bap_bits
at_most_16 bap = small_at 16 mantissa_bits tt bap

pub bits_small : (g : Open) (bap : ℕ) → bits_of g bap ≤ 16
bits_small g bap = go (eqb bap 1) (eqb bap 2) (eqb bap 4) (eqb g.ones 0) (eqb g.twos 0) (eqb g.fours 0)
  where
    go : (x y z p q r : Bool) → cond x (cond p 5 0) (cond y (cond q 7 0) (cond z (cond r 7 0) (bap_bits bap))) ≤ 16
    go true y z true q r = omega arith
    go true y z false q r = omega arith
    go false true z p true r = omega arith
    go false true z p false r = omega arith
    go false false true p q true = omega arith
    go false false true p q false = omega arith
    go false false false p q r = at_most_16 bap

pub one_at_most : {k : ℕ} (n : Counts) (bap : ℕ) → AtMost k n → AtMost (suc k) (counted n bap)
one_at_most n bap h = record {
  bits = omega (arith, h.bits, at_most_16 bap);
  ones = omega (arith, h.ones, at_most_one 1 bap);
  twos = omega (arith, h.twos, at_most_one 2 bap);
  fours = omega (arith, h.fours, at_most_one 4 bap);
}

pub at_most : {k : ℕ} (n : Counts) (baps : List ℕ) → AtMost k n → AtMost (k + length baps) (counted_all n baps)
unfolding counted_all
at_most {k} n [] h = rw (add-zero k) h
at_most {k} n (bap ∷ baps) h = rw (add-suc k (length baps), ← suc-add k (length baps)) (at_most {k = suc k} (counted n bap) baps (one_at_most n bap h))

pub no_more : {j k : ℕ} {n : Counts} → AtMost j n → j ≤ k → AtMost k n
no_more h g = record { bits = omega (arith, h.bits); ones = omega (arith, h.ones); twos = omega (arith, h.twos); fours = omega (arith, h.fours) }

pub none_counted : AtMost 0 no_counts
none_counted = record { bits = omega arith; ones = omega arith; twos = omega arith; fours = omega arith }

-- the bins of a slot
pub bins_few : (pointers : List ℕ) (start end : ℕ) → end ≤ 253 → length (between 0 pointers start end) ≤ 253
bins_few pointers start end h = rw (from_length (λ k. get_or pointers k 0) (end - start) start) (omega arith)

pub bins_at_most : {k : ℕ} (n : Counts) (pointers : List ℕ) (start end : ℕ) → end ≤ 253 → AtMost k n → AtMost (k + 253) (counted_all n (between 0 pointers start end))
bins_at_most n pointers start end h g = no_more (at_most n (between 0 pointers start end) g) (omega (arith, bins_few pointers start end h))

pub bins_counted : (pointer : ℕ → ℕ) (start end : ℕ) → end ≤ 253 → AtMost 253 (counted_all no_counts (from start (end - start) pointer))
bins_counted pointer start end h = no_more (at_most no_counts (from start (end - start) pointer) none_counted) (rw (from_length pointer (end - start) start) (omega arith))

-- ---- all counts in one number

pub packed_all : (n : Counts) (baps : List ℕ) → packed (counted_all n baps) ≡ packed n + weight baps
unfolding counted_all weight
packed_all n [] = sym (add-zero (packed n))
packed_all n (bap ∷ baps) = packed_all (counted n bap) baps ∙ omega arith

pub light : (bap : ℕ) → packed (counted no_counts bap) ≤ 562949953421312
light bap = omega (arith, at_most_16 bap, at_most_one 1 bap, at_most_one 2 bap, at_most_one 4 bap)

-- each count is read back from its 16 bits
pub unpacked : (total : ℕ) (baps : List ℕ) → total ≡ weight baps → length baps ≤ 253
    → record { bits = total % 65536; ones = total / 65536 % 65536; twos = total / 4294967296 % 65536; fours = total / 281474976710656 } ≡ counted_all no_counts baps
unpacked total baps e h =
    let n = counted_all no_counts baps in
    let is : total ≡ packed n = omega (arith, packed_all no_counts baps) in
    let few : AtMost 253 n = no_more (at_most no_counts baps none_counted) (omega arith) in
    let bits : total % 65536 ≡ n.bits = omega arith in
    let past-bits : total / 65536 ≡ n.ones + 65536 * n.twos + 4294967296 * n.fours = omega arith in
    let past_ones : total / 4294967296 ≡ n.twos + 65536 * n.fours = omega arith in
    let ones : total / 65536 % 65536 ≡ n.ones = rw past-bits (omega arith) in
    let twos : total / 4294967296 % 65536 ≡ n.twos = rw past_ones (omega arith) in
    let fours : total / 281474976710656 ≡ n.fours = omega arith in
    λ i. record { bits = bits i; ones = ones i; twos = twos i; fours = fours i }

-- the pointers of a slot are as many as its bins
pub pointers_at_most : (fscod : ℕ) (st : AllocState) (exps : List (List ℤ)) (p : Part) → p.end ≤ 253 → AtMost 253 (counted_all no_counts (pointers fscod st exps p))
unfolding pointers
pointers_at_most fscod st exps p h =
    no_more (at_most no_counts (pointers fscod st exps p) none_counted) (rw (allocation_length bap (get_or exps p.slot []) (parameters_of fscod st p)) (omega arith))

-- pointers that are all 0 count for nothing
pub silent_counts : (n : ℕ) → no_counts ≡ counted_all no_counts (replicate n 0)
unfolding counted_all bap_bits
silent_counts zero = refl
silent_counts (suc n) = silent_counts n

pub plus_at_most : {i j k : ℕ} {a b : Counts} → AtMost i a → AtMost j b → i + j ≤ k → AtMost k (plus a b)
plus_at_most f g h =
    record { bits = omega (arith, f.bits, g.bits); ones = omega (arith, f.ones, g.ones); twos = omega (arith, f.twos, g.twos); fours = omega (arith, f.fours, g.fours) }

-- the bits of no mantissas, and of a block's
pub no_width : 0 ≡ width_of no_counts
unfolding width_of
no_width = refl

pub width_few : {n : Counts} → AtMost (7 * 253) n → width_of n < 65536
unfolding width_of
width_few h = omega (arith, h.bits, h.ones, h.twos, h.fours)
