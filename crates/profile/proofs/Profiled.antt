-- The first row that breaks a rule is found if there is one, and the rules are gone through in order. Assumes nothing.
use mathlib.Core.Bool.{Bool, true, false, ◌&&◌, not, cond}
use mathlib.Core.List.{List, [], ◌∷◌}
use mathlib.Core.Logic.{◌⊎◌, inl, inr}
use mathlib.Core.Path.{◌≡◌, refl, sym, ap, subst, ◌∙◌}
use Prim.Native.Nat.{ℕ, zero, suc, ◌+◌, ◌≤◌, ◌<◌}
use native.Mathlib.Decide.{dec_le}
use native.Mathlib.Omega.{arith}
use borrow.Author.Tests.{eqb-true, eq-eqb, ne_eqb, le-ltb, ltb-true, ltb-false}
use lib.Dec.{eqb, ltb}
use lib.ListN.{length, get_or}
use Rattle.header.specs.declared.Header.{Header}
use Rattle.syntax.specs.Names as Name
use Rattle.syntax.specs.Run.{Row}
use Rattle.ac3.specs.Promise.{Call, listed, answer_to, Accepted}
use Rattle.rows.specs.Found.{First, index_where}
use Rattle.rows.proofs.Opening.{head_rows}
use Rattle.profile.specs.Rules.{Rule, rules, no_rule, rule, least_bytes, judged_by, broken, found_at, judged}
use Rattle.profile.specs.Answers.{verdict_of}
use Rattle.profile.specs.Profiled.{Stands, HasAt, header_of, BreaksAt, Kept, Told, ProfileIsRight}
use Rattle.profile.specs.declared.Verdict.{Verdict}
use Rattle.profile.specs.declared.Verdict.TheVariants.{Within, Broken}
use Rattle.std.specs.Prelude.{Result, Ok, Err}

-- the verdict in a Result
abbrev verdict_in : Result Verdict ℕ → Verdict
verdict_in (Ok v) = v
verdict_in (Err refusal) = Within

same_verdict : {v w : Verdict} → ◌≡◌ {A = Result Verdict ℕ} (Ok v) (Ok w) → v ≡ w
same_verdict e = ap verdict_in e

no_such : {P : Type 0} → ◌≡◌ {A = Bool} true false → P
no_such e = let z : ◌≡◌ {A = ℕ} 0 1 = cc in absurd (omega arith)

-- ---- the first row of which a test says yes

module _ (says : Row → Bool) where
  hits : (rs : List Row) → index_where says rs < length rs → (r : Row) × Stands rs (index_where says rs) r × (says r ≡ true)
  unfolding index_where
  hits [] h = absurd (omega (arith, h))
  hits (x ∷ xs) h = go (says x) refl h (hits xs)
    where
      go : (b : Bool) → says x ≡ b → cond b 0 (suc (index_where says xs)) < suc (length xs)
          → (index_where says xs < length xs → (r : Row) × Stands xs (index_where says xs) r × (says r ≡ true))
          → (r : Row) × Stands (x ∷ xs) (cond b 0 (suc (index_where says xs))) r × (says r ≡ true)
      go true e h later = (x, refl, e)
      go false e h later = let l = later (omega arith) in (l.0, l.1, l.2)

  misses : (rs : List Row) (j : ℕ) (r : Row) → j < index_where says rs → Stands rs j r → says r ≡ false
  unfolding index_where
  misses [] j r h s = absurd s
  misses (x ∷ xs) j r h s = go (says x) refl j h s (λ j h s. misses xs j r h s)
    where
      go : (b : Bool) → says x ≡ b → (j : ℕ) → j < cond b 0 (suc (index_where says xs)) → Stands (x ∷ xs) j r
          → ((j : ℕ) → j < index_where says xs → Stands xs j r → says r ≡ false) → says r ≡ false
      go true e j h s later = absurd (omega (arith, h))
      go false e zero h s later = ap says (sym s) ∙ e
      go false e (suc j) h s later = later j (omega (arith, h)) s

stands_inside : (rs : List Row) (j : ℕ) (r : Row) → Stands rs j r → j < length rs
stands_inside [] j r s = absurd s
stands_inside (x ∷ xs) zero r s = omega arith
stands_inside (x ∷ xs) (suc j) r s = omega (arith, stands_inside xs j r s)

first_stands : (name : ℕ) (rs : List Row) (i : ℕ) (r : Row) → First name rs i r → Stands rs i r × (r.item.name ≡ name)
first_stands name [] i r h = absurd h
first_stands name (x ∷ xs) zero r h = (h.0, h.1)
first_stands name (x ∷ xs) (suc i) r h = first_stands name xs i r h.1

-- ---- the rules in turn

module _ (found : Rule → ℕ) (count : ℕ) where
  abbrev NoneOf : List Rule → ℕ → Type 0
  NoneOf rs k = count ≤ found (get_or rs k no_rule)

  none_within : (rs : List Rule) (n : ℕ) → ((k : ℕ) → k < length rs → NoneOf rs k) → judged_by found count n rs ≡ Within
  unfolding judged_by
  none_within [] n h = refl
  none_within (r ∷ rs) n h = rw (le-ltb (found r) count (h 0 (omega arith))) (none_within rs (suc n) (λ k l. h (suc k) (omega (arith, l))))

  record First-of (rs : List Rule) (n m i : ℕ) : Type 0 where
    pub number : ℕ
    pub counted : m ≡ n + number
    pub one_of : number < length rs
    pub row : found (get_or rs number no_rule) ≡ i
    pub there : i < count
    pub none_before : (j : ℕ) → j < number → NoneOf rs j

  within_none : (rs : List Rule) (n : ℕ) → judged_by found count n rs ≡ Within → (k : ℕ) → k < length rs → NoneOf rs k
  unfolding judged_by
  within_none [] n e k h = absurd (omega (arith, h))
  within_none (r ∷ rs) n e k h = go (ltb (found r) count) refl e (within_none rs (suc n)) k h
    where
      go : (b : Bool) → ltb (found r) count ≡ b → cond b (Broken n (found r)) (judged_by found count (suc n) rs) ≡ Within
          → (judged_by found count (suc n) rs ≡ Within → (k : ℕ) → k < length rs → NoneOf rs k) → (k : ℕ) → k < suc (length rs) → NoneOf (r ∷ rs) k
      go true t e later k h = let z : ◌≡◌ {A = ℕ} 0 1 = cc in absurd (omega arith)
      go false t e later zero h = ltb-false (found r) count t
      go false t e later (suc k) h = later e k (omega (arith, h))

  earlier : (r : Rule) (rs : List Rule) (number : ℕ) → count ≤ found r → ((j : ℕ) → j < number → NoneOf rs j) → (j : ℕ) → j < suc number → NoneOf (r ∷ rs) j
  earlier r rs number none before zero h = none
  earlier r rs number none before (suc j) h = before j (omega (arith, h))

  told_first : (rs : List Rule) (n m i : ℕ) → judged_by found count n rs ≡ Broken m i → First-of rs n m i
  unfolding judged_by
  told_first [] n m i e = let z : ◌≡◌ {A = ℕ} 0 1 = cc in absurd (omega arith)
  told_first (r ∷ rs) n m i e = go (ltb (found r) count) refl e (told_first rs (suc n) m i)
    where
      go : (b : Bool) → ltb (found r) count ≡ b → cond b (Broken n (found r)) (judged_by found count (suc n) rs) ≡ Broken m i
          → (judged_by found count (suc n) rs ≡ Broken m i → First-of rs (suc n) m i) → First-of (r ∷ rs) n m i
      go true t e later =
          let number : n ≡ m = cc in
          let row : found r ≡ i = cc in
          record { number = 0; counted = omega arith; one_of = omega arith; row = row; there = omega (arith, row, ltb-true (found r) count t); none_before = λ j l. absurd (omega (arith, l)) }
      go false t e later =
          let l = later e in
          record {
            number = suc l.number;
            counted = omega (arith, l.counted);
            one_of = omega (arith, l.one_of);
            row = l.row;
            there = l.there;
            none_before = earlier r rs l.number (ltb-false (found r) count t) l.none_before;
          }

-- ---- of a call

clash : {b : Bool} → b ≡ true → b ≡ false → ⊥
clash p q = no_such (sym p ∙ q)

both : (a b : Bool) → (a && b) ≡ true → (a ≡ true) × (b ≡ true)
both true b e = (refl, e)
both false b e = no_such (sym e)

neither : (a b : Bool) → (not a && not b) ≡ false → (a ≡ true) ⊎ (b ≡ true)
neither true b e = inl refl
neither false true e = inr refl
neither false false e = no_such e

was_so : (b : Bool) → not b ≡ false → b ≡ true
was_so true e = refl
was_so false e = no_such e

and-false : (b : Bool) → (b && false) ≡ false
and-false true = refl
and-false false = refl

module _ (c : Call) where
  abbrev h : Header
  h = header_of c

  abbrev rs : List Row
  rs = listed c

  abbrev found : ℕ → ℕ
  found n = found_at h rs (rule n)

  is_broken : (n i : ℕ) (b : BreaksAt c n i) → broken h (rule n) b.1.0 ≡ true
  is_broken n i b = (λ j. eq-eqb b.1.0.item.name (rule n).field b.1.2 j && (rule n).breaks h (b.1.3 j)) ∙ b.2

  -- no row before the one that is found
  not_before : (n i : ℕ) → i < found n → ¬ BreaksAt c n i
  not_before n i l b = clash (is_broken n i b) (misses (broken h (rule n)) rs i b.1.0 l b.1.1)

  -- nor any row, where none is found
  not_one : (n : ℕ) → length rs ≤ found n → (i : ℕ) → ¬ BreaksAt c n i
  not_one n none i b = not_before n i (omega (arith, none, stands_inside rs i b.1.0 b.1.1)) b

  found_one : (n : ℕ) → found n < length rs → BreaksAt c n (found n)
  found_one n l =
      let t = hits (broken h (rule n)) rs l in
      let p = both (eqb t.0.item.name (rule n).field) ((rule n).breaks h t.0.value) t.2 in
      (t.0.value, (t.0, t.1, eqb-true t.0.item.name (rule n).field p.0, refl), p.1)

  module _ (ok : Accepted c) where
    is_judged_lem : verdict_of c ≡ Ok (judged h rs)
    is_judged_lem = rw (eq-eqb (answer_to c).0.refusal 0 ok)

    within : verdict_of c ≡ Ok Within → (n i : ℕ) → n < 7 → ¬ BreaksAt c n i
    within e n i l = not_one n (within_none (found_at h rs) (length rs) rules 1 (same_verdict (sym is_judged_lem ∙ e)) n l) i

    whole : ((n i : ℕ) → n < 7 → ¬ BreaksAt c n i) → verdict_of c ≡ Ok Within
    whole none = is_judged_lem ∙ ap Ok (none_within (found_at h rs) (length rs) rules 1 (λ n l. go n l (dec_le (length rs) (found n))))
      where
        go : (n : ℕ) → n < 7 → Dec (length rs ≤ found n) → length rs ≤ found n
        go n l (Dec.yes p) = p
        go n l (Dec.no p) = absurd (none n (found n) l (found_one n (omega arith)))

    told : (n i : ℕ) → verdict_of c ≡ Ok (Broken n i) → Told c n i
    told n i e =
        let f = told_first (found_at h rs) (length rs) rules 1 n i (same_verdict (sym is_judged_lem ∙ e)) in
        record {
          number = f.number;
          counted = omega (arith, f.counted);
          one_of = f.one_of;
          breaks = subst (BreaksAt c f.number) f.row (found_one f.number (omega (arith, f.row, f.there)));
          first_row = λ j l. not_before f.number j (omega (arith, f.row, l));
          first_rule = λ m j l. not_one m (f.none_before m l) j;
        }

    -- ---- in words

    module _ (none : (n i : ℕ) → n < 7 → ¬ BreaksAt c n i) where
      keeps : (n : ℕ) → n < 7 → (i v : ℕ) → HasAt c i (rule n).field v → (rule n).breaks h v ≡ false
      keeps n l i v has = go ((rule n).breaks h v) refl
        where
          go : (b : Bool) → (rule n).breaks h v ≡ b → b ≡ false
          go true e = absurd (none n i l (v, has, e))
          go false e = refl

      either : (v a b : ℕ) → (not (eqb v a) && not (eqb v b)) ≡ false → (v ≡ a) ⊎ (v ≡ b)
      either v a b e = elim (neither (eqb v a) (eqb v b) e) [ inl p ↦ inl (eqb-true v a p) | inr p ↦ inr (eqb-true v b p) ]

      frmsizecod : (v : ℕ) × HasAt c 3 Name.frmsizecod v
      frmsizecod = let f = first_stands Name.frmsizecod rs 3 _ (head_rows c ok).frmsizecod in (_, (_, f.0, f.1, refl))

      kept : Kept c
      kept =
          record {
            fscod = λ i v has. eqb-true v 0 (was_so (eqb v 0) (keeps 0 (omega arith) i v has));
            acmod = λ i v has. either v 2 7 (keeps 1 (omega arith) i v has);
            bsid = λ i v has. either v 6 8 (keeps 2 (omega arith) i v has);
            words = ltb-false h.bytes least_bytes (keeps 3 (omega arith) 3 frmsizecod.0 frmsizecod.1);
            lfeon = λ i has. eqb-true h.acmod 7 (was_so (eqb h.acmod 7) (keeps 4 (omega arith) i 1 has));
            deltbaie = λ i has. no_such (keeps 5 (omega arith) i 1 has);
            dialnorm = λ i has. no_such (keeps 6 (omega arith) i 0 has);
          }

    module _ (k : Kept c) where
      -- a field whose value is found to be v
      with_value : (i name v w : ℕ) → eqb v w ≡ true → HasAt c i name v → HasAt c i name w
      with_value i name v w e has = subst (HasAt c i name) (eqb-true v w e) has

      refutes : (n : ℕ) → n < 7 → (i : ℕ) → ¬ BreaksAt c n i
      refutes zero l i b = clash b.2 (ap not (eq-eqb b.0 0 (k.fscod i b.0 b.1)))
      refutes (suc zero) l i b =
          elim (k.acmod i b.0 b.1) [
            | inl e ↦ clash b.2 (ap (λ x. not x && not (eqb b.0 7)) (eq-eqb b.0 2 e))
            | inr e ↦ clash b.2 (ap (λ x. not (eqb b.0 2) && not x) (eq-eqb b.0 7 e) ∙ and-false (not (eqb b.0 2)))
          ]
      refutes (suc (suc zero)) l i b =
          elim (k.bsid i b.0 b.1) [
            | inl e ↦ clash b.2 (ap (λ x. not x && not (eqb b.0 8)) (eq-eqb b.0 6 e))
            | inr e ↦ clash b.2 (ap (λ x. not (eqb b.0 6) && not x) (eq-eqb b.0 8 e) ∙ and-false (not (eqb b.0 6)))
          ]
      refutes (suc (suc (suc zero))) l i b = clash b.2 (le-ltb h.bytes least_bytes k.words)
      refutes (suc (suc (suc (suc zero)))) l i b =
          let p = both (eqb b.0 1) (not (eqb h.acmod 7)) b.2 in
          clash p.1 (ap not (eq-eqb h.acmod 7 (k.lfeon i (with_value i Name.lfeon b.0 1 p.0 b.1))))
      refutes (suc (suc (suc (suc (suc zero))))) l i b = k.deltbaie i (with_value i Name.deltbaie b.0 1 b.2 b.1)
      refutes (suc (suc (suc (suc (suc (suc zero)))))) l i b = k.dialnorm i (with_value i Name.dialnorm b.0 0 b.2 b.1)
      refutes (suc (suc (suc (suc (suc (suc (suc n))))))) l i b = absurd (omega (arith, l))

pub profile_is_right : ProfileIsRight
profile_is_right c =
    record {
      refused = λ no. rw (ne_eqb (answer_to c).0.refusal 0 no);
      within = within c;
      whole = whole c;
      within_kept = λ ok e. kept c ok (within c ok e);
      kept_within = λ ok k. whole c ok (λ n i l. refutes c ok k n l i);
      told = told c;
    }
