-- The list of changes, one after the other; where nothing changed it is empty. Assumes nothing.
use Prim.Native.Nat.{ℕ, ◌+◌, ◌*◌, ◌≤◌}
use mathlib.Core.Bool.{Bool, true, false, cond}
use mathlib.Core.List.{List, [], ◌∷◌, ◌++◌}
use mathlib.Core.Path.{◌≡◌, refl, ap, sym, ◌∙◌}
use native.Mathlib.Omega.{arith}
use borrow.Author.Tests.{eq-eqb}
use lib.Dec.{eqb}
use lib.IntN.{ℤ, pos}
use lib.ListN.{length, length-append}
use lib.Seq.{sets}
use Rattle.naturals.proofs.Stored.{sets_append}
use Rattle.syntax.specs.Names as Name
use Rattle.mend.specs.Mend.{after_mend}
use Rattle.mend.specs.declared.Fields.{Fields}
use Rattle.mend.specs.Changes.{crcrsv, crc2, fields_of, changed, changes_of, changes}

-- one list after another
then : {A : Type 0} (l : List A) (xs ys : List A) (to : ℕ) → to ≡ length xs → sets (sets l 0 xs) to ys ≡ sets l 0 (xs ++ ys)
then l xs ys to e = sym (sets_append xs ys l 0 to (omega (arith, e)))

same : (name x : ℕ) → changed name x x ≡ []
unfolding changed
same name x = rw (eq-eqb x x refl)

none : (name : ℕ) (f : Fields) → changes_of name f f ≡ []
unfolding changes_of
none name f = rw (same Name.crc1 f.crc1, same name f.field, same crcrsv f.crcrsv, same crc2 f.crc2)

-- a call of `note` adds its change to the list
pub next : (l xs ys : List ℤ) {now out : List ℤ} {to r : ℕ} → (now ≡ sets l 0 xs) × (to ≡ length xs) → (out ≡ sets now to ys) × (r ≡ to + length ys) × (r ≤ to + 3)
    → (out ≡ sets l 0 (xs ++ ys)) × (r ≡ length (xs ++ ys))
next l xs ys {to = to} (before, place) (written, longer, short) =
    (written ∙ ap (λ k. sets k to ys) before ∙ then l xs ys to place, longer ∙ ap (λ k. k + length ys) place ∙ sym (length-append xs ys))

-- what is not touched has no changes
pub unchanged : (name words : ℕ) (s : List ℕ) (at n v : ℕ) → after_mend words s at n v ≡ s → changes name words s at n v ≡ []
unfolding changes
unchanged name words s at n v e = ap (λ t. changes_of name (fields_of words s at n) (fields_of words t at n)) e ∙ none name (fields_of words s at n)

-- there are four fields, and three numbers to a change
abbrev Counted : ℕ → List ℤ → Type 0
Counted most l = (k : ℕ) × (k ≤ most) × (length l ≡ k * 3)

one_change : (name old new : ℕ) → Counted 1 (changed name old new)
unfolding changed
one_change name old new = go (eqb old new)
  where
    go : (b : Bool) → Counted 1 (cond b [] (pos name ∷ pos old ∷ pos new ∷ []))
    go true = (0, omega arith, refl)
    go false = (1, omega arith, refl)

both : (m n : ℕ) (a b : List ℤ) → Counted m a → Counted n b → Counted (m + n) (a ++ b)
both m n a b (j, jm, ja) (k, kn, kb) = (j + k, omega (arith, jm, kn), omega (arith, length-append a b, ja, kb))

four : (a b c d : List ℤ) → Counted 1 a → Counted 1 b → Counted 1 c → Counted 1 d → Counted 4 (a ++ b ++ c ++ d)
four a b c d ha hb hc hd = both 3 1 (a ++ b ++ c) d (both 2 1 (a ++ b) c (both 1 1 a b ha hb) hc) hd

pub four_changes : (name : ℕ) (old new : Fields) → (k : ℕ) × (k ≤ 4) × (length (changes_of name old new) ≡ k * 3)
unfolding changes_of
four_changes name old new =
    four (changed Name.crc1 old.crc1 new.crc1) (changed name old.field new.field) (changed crcrsv old.crcrsv new.crcrsv) (changed crc2 old.crc2 new.crc2)
    (one_change Name.crc1 old.crc1 new.crc1) (one_change name old.field new.field) (one_change crcrsv old.crcrsv new.crcrsv) (one_change crc2 old.crc2 new.crc2)

pub few_changes : (name words : ℕ) (s : List ℕ) (at n v : ℕ) → length (changes name words s at n v) ≤ 12
unfolding changes
few_changes name words s at n v =
    let all = four_changes name (fields_of words s at n) (fields_of words (after_mend words s at n v) at n) in
    omega (arith, all.1, all.2)
