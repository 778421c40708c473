-- A walk that a loop goes on with: what is left of it. A walk that fits the frame ends where the sum of its pieces says. Assumes nothing.
use mathlib.Core.Bool.{Bool, true, false, cond}
use mathlib.Core.List.{List, [], ◌∷◌, ◌++◌}
use mathlib.Core.Path.{◌≡◌, refl, sym, ap, ◌∙◌}
use Prim.Native.Nat.{ℕ, ◌+◌, ◌≤◌, ◌<◌}
use native.Mathlib.Nat.{add-zero, add_assoc}
use native.Mathlib.Omega.{arith}
use lib.Dec.{ltb}
use lib.IntN.{ℤ}
use lib.ListN.{length, get_or, drop}
use borrow.Author.Tests.{le-ltb}
use Rattle.std.specs.Prelude.{Result, Ok, Err, IsErrAnd}
use Rattle.std.proofs.lemmas.Result.{err_from_is_err_and}
use Rattle.syntax.specs.declared.Item.{Item}
use Rattle.syntax.specs.declared.Reader.{Reader}
use Rattle.syntax.specs.declared.Refusal.{Refusal}
use Rattle.syntax.specs.Place.{Place, Outcome, got, no, stand, and_then}
use Rattle.syntax.specs.Refusals.{past}
use Rattle.syntax.specs.Reads.{place, outcome, stepped, walked, with_lent, Same, Writes}
use Rattle.syntax.specs.Run.{sum}
use Rattle.syntax.proofs.Sequence.{unchanged, onward}
use Rattle.syntax.proofs.Walk.{walked_append}
use Rattle.mantissas.specs.Counts.{counted, counted_all, open_after}
use Rattle.mantissas.specs.Mantissas.{bits_of, widths, part_pointers, all_pointers}
use Rattle.mantissas.specs.Sound.{between, no_part}
use Rattle.mantissas.specs.declared.Counts.{Counts}
use Rattle.mantissas.specs.declared.Part.{Part}
use Rattle.mantissas.specs.declared.Setting.{Setting}
use Rattle.mantissas.proofs.Allocated.{first_part}
use Rattle.mantissas.proofs.Between.{between_one}
use Rattle.mantissas.proofs.Counted.{open_after_lem, widths_append}

-- of a walk that began at c, these pieces are left at d
pub record Left (i : Item) (whole : List ℕ) (c : Reader) (left : List ℕ) (d : Reader) : Type 0 where
  pub same : walked i left (place d) ≡ walked i whole (place c)
  pub on : Same c d

module _ {i : Item} {whole : List ℕ} {c : Reader} where
  pub all_left : Left i whole c whole c
  all_left = record { same = refl; on = unchanged }

  pub none_left : {d : Reader} → Left i whole c [] d → Writes (walked i whole) c (Ok tt) d
  unfolding walked
  none_left l = record { same = l.same; on = l.on }

  module _ {w : ℕ} {ws : List ℕ} {d e : Reader} (l : Left i whole c (w ∷ ws) d) where
    -- past one piece, or refused at it
    pub steps : Writes (stepped i w) d (Ok tt) e → Left i whole c ws e
    unfolding walked and_then
    steps h = record { same = ap (λ o. and_then o (λ _ q. walked i ws q)) h.same ∙ l.same; on = onward l.on h.on }

    pub breaks : {x : Refusal} → Writes (stepped i w) d (Err x) e → Writes (walked i whole) c (Err x) e
    unfolding walked and_then
    breaks h = record { same = ap (λ o. and_then o (λ _ q. walked i ws q)) h.same ∙ l.same; on = onward l.on h.on }

  module _ (xs ys : List ℕ) {d e : Reader} (l : Left i whole c (xs ++ ys) d) where
    -- past some of them, or refused among them
    pub goes_on : Writes (walked i xs) d (Ok tt) e → Left i whole c ys e
    unfolding and_then
    goes_on h = record { same = ap (λ o. and_then o (λ _ q. walked i ys q)) h.same ∙ sym (walked_append i xs ys (place d)) ∙ l.same; on = onward l.on h.on }

    pub breaks_off : {x : Refusal} → Writes (walked i xs) d (Err x) e → Writes (walked i whole) c (Err x) e
    unfolding and_then
    breaks_off h = record { same = ap (λ o. and_then o (λ _ q. walked i ys q)) h.same ∙ sym (walked_append i xs ys (place d)) ∙ l.same; on = onward l.on h.on }

-- the piece of the next bin, and then those of the bins that are left
pub bin_left : {i : Item} {whole : List ℕ} {c d : Reader} (n : Counts) (pointers : List ℕ) {bin end : ℕ} → bin < end
    → Left i whole c (widths (open_after n) (between 0 pointers bin end)) d
    → Left i whole c (bits_of (open_after n) (get_or pointers bin 0) ∷ widths (open_after (counted n (get_or pointers bin 0))) (between 0 pointers (bin + 1) end)) d
unfolding widths
bin_left n pointers {bin} h l = rw (← open_after_lem n (get_or pointers bin 0)) (rw (between_one 0 pointers h) at l)

-- the pieces of the next slot, and then those of the slots that are left
pub slot_left : {i : Item} {whole : List ℕ} {c d : Reader} (by : Setting) (exps : List (List ℤ)) (n : Counts) (own : List ℕ) (parts : List Part) (k : ℕ) → k < length parts
    → own ≡ part_pointers by.fscod by.st exps by.silent (get_or parts k no_part)
    → Left i whole c (widths (open_after n) (all_pointers by.fscod by.st exps by.silent (drop k parts))) d
    → Left i whole c (widths (open_after n) own ++ widths (open_after (counted_all n own)) (all_pointers by.fscod by.st exps by.silent (drop (k + 1) parts))) d
slot_left by exps n own parts k h e l = rw e (rw (first_part by.fscod by.st exps by.silent parts k h, widths_append n) at l)

-- what `?` hands on is the refusal that it was given
pub handed_on : {A : Type 0} {next : Place → Outcome (Unit {0})} {c d : Reader} {x : Refusal} (r : Result A Refusal) → IsErrAnd r (λ y. y ≡ x)
    → Writes next c (Err x) d → Writes next c (with_lent (λ _. tt {0}) r) d
handed_on r h q = let p = err_from_is_err_and r h in rw (p.1, p.2) q

pub handed : {next : Place → Outcome (Unit {0})} {c d : Reader} {r : Result (Unit {0}) Refusal} {x : Refusal} → IsErrAnd r (λ y. y ≡ x) → Writes next c (Err x) d → Writes next c r d
handed {r = r} h q = let p = err_from_is_err_and r h in rw (p.1, p.2) q

-- ---- where all of it fits

pub walked_fits : (i : Item) (ws : List ℕ) (p : Place) → p.at + sum ws ≤ p.limit → walked i ws p ≡ got tt (stand (p.at + sum ws) p)
unfolding walked sum and_then
walked_fits i [] p h = λ k. got tt (stand (sym (add-zero p.at) k) p)
walked_fits i (w ∷ ws) p h =
    rw (le-ltb p.limit (p.at + w) (omega arith), ← add_assoc p.at w (sum ws))
    (walked_fits i ws (stand (p.at + w) p) (omega arith))

-- ---- a walk goes on, never back, refused or not

walks_on : (i : Item) (ws : List ℕ) (p q : Place) (r : Result (Unit {0}) Refusal) → outcome r q ≡ walked i ws p → p.at ≤ q.at
unfolding walked and_then
walks_on i [] p q (Ok tt) e = let same : q ≡ p = cc in omega (arith, ap (λ (r : Place). r.at) same)
walks_on i [] p q (Err x) e = let z : ◌≡◌ {A = ℕ} 0 1 = cc in absurd (omega arith)
walks_on i (w ∷ ws) p q r e = go (ltb p.limit (p.at + w)) r e (walks_on i ws (stand (p.at + w) p) q r)
  where
    go : (b : Bool) (r : Result (Unit {0}) Refusal) → outcome r q ≡ and_then (cond b (no (past i) p) (got (tt {0}) (stand (p.at + w) p))) (λ _ s. walked i ws s)
        → (outcome r q ≡ walked i ws (stand (p.at + w) p) → p.at + w ≤ q.at) → p.at ≤ q.at
    go true (Ok tt) f later = let z : ◌≡◌ {A = ℕ} 0 1 = cc in absurd (omega arith)
    go true (Err x) f later = let same : q ≡ p = cc in omega (arith, ap (λ (r : Place). r.at) same)
    go false r f later = omega (arith, later f)

pub walked_from : (i : Item) (ws : List ℕ) {c d : Reader} {r : Result (Unit {0}) Refusal} → Writes (walked i ws) c r d → c.at ≤ d.at
walked_from i ws {c} {d} {r} h = walks_on i ws (place c) (place d) r h.same
