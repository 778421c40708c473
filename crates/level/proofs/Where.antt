-- The grammar of a header reads dialnorm for each programme that the frame has, so its row is there; and the tables count a frame's words.
-- Assumes nothing.
use mathlib.Core.Bool.{Bool, true, false, not, ◌&&◌, cond}
use mathlib.Core.List.{List, [], ◌∷◌, ◌++◌}
use mathlib.Core.Logic.{◌⊎◌, inl, inr}
use mathlib.Core.Path.{◌≡◌, refl, ap, sym, subst, ◌∙◌}
use Prim.Native.Nat.{ℕ, zero, suc, ◌+◌, ◌*◌, ◌/◌, ◌%◌, ◌≤◌, ◌<◌}
use native.Mathlib.Omega.{arith}
use lib.Dec.{eqb, leb, ltb}
use lib.ListN.{length, get_or}
use Rattle.bits.specs.Bits.{value}
use Rattle.bits.proofs.Window.{value_lt}
use Rattle.tables.specs.Tables.{words48, words44, words32, frame_bytes}
use Rattle.syntax.specs.declared.Refusal.{Refusal}
use Rattle.syntax.specs.Grammar.{Grammar, done, refuse, field, free, span, walk, frame, here, ◌>>=◌, when, refuse_if, turns, each}
use Rattle.syntax.specs.Names as Name
use Rattle.syntax.specs.Refusals.{not_sync, no_frame_size, bad_bsid}
use Rattle.syntax.specs.Run.{Row, Spot, End, reached, refused, Result, Check, clear, stop, ◌after◌, unless, run, continue, row_check, walk_check, frame_check, sum, beyond, within, start}
use Rattle.syntax.proofs.Bind.{run_bind}
use Rattle.header.specs.Header.{programmes, syncinfo, programme_info, alternate_info, time_codes, additional_info, bsi, header}
use Rattle.header.specs.declared.Header.{Header}
use Rattle.ac3.specs.AtMost.{AtMost, a_done, a_refuse, a_field, a_free, a_span, a_walk, a_frame, a_here}
use Rattle.ac3.specs.Frame.{Audio, audio, syncframe}
use Rattle.ac3.specs.Promise.{Call, input, room_for, listed, Reaches, answer_to, Accepted}
use Rattle.ac3.specs.RowBound.{most_rows}
use Rattle.ac3.proofs.AtMost as bounds
use Rattle.ac3.proofs.Promise.{promised, reaches}
use Rattle.ac3.proofs.RowBound.{a_bsi, a_audio}
use Rattle.rows.specs.Found.{First}
use Rattle.level.specs.Level.{dialnorm_width}

-- the first row of a name has dialnorm's width
abbrev pub Found : ℕ → List Row → Type 0
Found name rows = (i : ℕ) × (r : Row) × First name rows i r × (r.width ≡ dialnorm_width)

-- a run meets such a row, as the first of the name, or its answer has this property
abbrev Meets : {A : Type 0} → ℕ → (A → Type 0) → Grammar A → Type 0
Meets name L (done a) = L a
Meets name L (refuse n) = Unit {0}
Meets name L (field i w k) = (¬ (i.name ≡ name)) × ((v : ℕ) → Meets name L (k v))
Meets name L (free i w k) = ((i.name ≡ name) × (w ≡ dialnorm_width)) ⊎ ((¬ (i.name ≡ name)) × Meets name L k)
Meets name L (span i w k) = (¬ (i.name ≡ name)) × Meets name L k
Meets name L (walk i ws k) = ⊥
Meets name L (frame x n k) = Meets name L k
Meets name L (here k) = (at : ℕ) → Meets name L (k at)

abbrev Any : {A : Type 0} → A → Type 0
Any a = Unit {0}

module _ {A B : Type 0} (name : ℕ) (K : A → Type 0) (L : B → Type 0) (h : A → Grammar B) (next : (a : A) → K a → Meets name L (h a)) where
  bound : (g : Grammar A) → Meets name K g → Meets name L (g >>= h)
  unfolding ◌>>=◌
  bound (done a) m = next a m
  bound (refuse n) m = tt
  bound (field i w k) m = (m.0, λ v. bound (k v) (m.1 v))
  bound (free i w k) (inl m) = inl m
  bound (free i w k) (inr m) = inr (m.0, bound k m.1)
  bound (span i w k) m = (m.0, bound k m.1)
  bound (walk i ws k) m = absurd m
  bound (frame x n k) m = bound k m
  bound (here k) m = λ at. bound (k at) (m at)

-- ---- what a run that is accepted does

checked : {A : Type 0} (c : Check) (p : Spot) (r : Result A) {a : A} → (unless c p (λ _. r)).end ≡ reached a → unless c p (λ _. r) ≡ r
unfolding unless
checked clear p r e = refl
checked (stop why bit) p r e = let z : ◌≡◌ {A = ℕ} 0 1 = cc in absurd (omega arith)

-- past a check
past : {A : Type 0} {a : A} (c : Check) (p : Spot) (r : Result A) → (unless c p (λ _. r)).end ≡ reached a → r.end ≡ reached a
past c p r e = ap (λ r. r.end) (sym (checked c p r e)) ∙ e

module _ {A : Type 0} (name : ℕ) (L : A → Type 0) (s : List ℕ) (a : A) where
  abbrev Outcome : List Row → Type 0
  Outcome rows = L a ⊎ Found name rows

  later : (x : Row) (rows : List Row) → ¬ (x.item.name ≡ name) → Outcome rows → Outcome (x ∷ rows)
  later x rows other (inl l) = inl l
  later x rows other (inr (i, r, f, w)) = inr (suc i, r, (other, f), w)

  one : (c : Check) (p : Spot) (x : Row) (r : Result A) → (e : (unless c p (λ _. r after x ∷ [])).end ≡ reached a) → Outcome (x ∷ r.rows) → Outcome (unless c p (λ _. r after x ∷ [])).rows
  one c p x r e o = subst (λ (r : Result A). Outcome r.rows) (sym (checked c p (r after x ∷ []) e)) o

  passed_one : (c : Check) (p : Spot) (x : Row) (r : Result A) → (unless c p (λ _. r after x ∷ [])).end ≡ reached a → ¬ (x.item.name ≡ name) → (r.end ≡ reached a → Outcome r.rows)
      → Outcome (unless c p (λ _. r after x ∷ [])).rows
  passed_one c p x r e other o = one c p x r e (later x r.rows other (o (past c p (r after x ∷ []) e)))

  met : (g : Grammar A) (p : Spot) → Meets name L g → (run g s p).end ≡ reached a → Outcome (run g s p).rows
  unfolding run
  met (done b) p m e = inl (subst L (let same : b ≡ a = cc in same) m)
  met (refuse n) p m e = let z : ◌≡◌ {A = ℕ} 0 1 = cc in absurd (omega arith)
  met (field i w k) p m e = passed_one (row_check i p w) p _ _ e m.0 (met (k (value s p.at w)) (beyond w p) (m.1 (value s p.at w)))
  met (free i w k) p (inl m) e = one (row_check i p w) p _ _ e (inr (0, _, (refl, m.0), m.1))
  met (free i w k) p (inr m) e = passed_one (row_check i p w) p _ _ e m.0 (met k (beyond w p) m.1)
  met (span i w k) p m e = passed_one (row_check i p w) p _ _ e m.0 (met k (beyond w p) m.1)
  met (walk i ws k) p m e = absurd m
  met (frame x n k) p m e =
      subst (λ (r : Result A). Outcome r.rows) (sym (checked (frame_check p x n) p _ e)) (met k (within n p) m (past (frame_check p x n) p _ e))
  met (here k) p m e = met (k p.at) p (m p.at) e

-- ---- the header

module _ (name : ℕ) where
  when_passed : {B : Type 0} (L : B → Type 0) (b : Bool) (g : Grammar (Unit {0})) (h : Unit {0} → Grammar B) → Meets name Any g → Meets name L (h tt) → Meets name L (when b g >>= h)
  unfolding ◌>>=◌
  when_passed L true g h m rest = bound name Any L h (λ a _. rest) g m
  when_passed L false g h m rest = rest

  when_last : (b : Bool) (g : Grammar (Unit {0})) → Meets name Any g → Meets name Any (when b g)
  when_last true g m = m
  when_last false g m = tt

  judged : {B : Type 0} (L : B → Type 0) (b : Bool) (x : Refusal) (h : Unit {0} → Grammar B) → Meets name L (h tt) → Meets name L (refuse_if b x >>= h)
  unfolding ◌>>=◌
  judged L true x h rest = tt
  judged L false x h rest = rest

-- dialnorm of programme p, counted from 0
module _ (p : ℕ) (lt : p < 2) where
  abbrev name : ℕ
  name = Name.dialnorm + 8 * p

  of_syncinfo : Meets name Any syncinfo
  unfolding syncinfo ◌>>=◌
  of_syncinfo = (
    λ e. omega (arith, e),
    λ syncword. judged name _ (not (eqb syncword 0x0B77)) not_sync _ (inr (
      λ e. omega (arith, e),
      (λ e. omega (arith, e), λ fscod. (λ e. omega (arith, e), λ code. judged name _ (eqb (frame_bytes fscod code) 0) no_frame_size _ tt)),
    )),
  )

  -- what stands behind the programmes
  of_alternate : Meets name Any alternate_info
  unfolding alternate_info ◌>>=◌
  of_alternate = (
    λ e. omega (arith, e, lt),
    λ xbsi1e. when_passed name Any (eqb xbsi1e 1) _ _ (inr (
      λ e. omega (arith, e, lt),
      inr (λ e. omega (arith, e, lt), inr (λ e. omega (arith, e, lt), inr (λ e. omega (arith, e, lt), inr (λ e. omega (arith, e, lt), tt)))),
    )) (
      λ e. omega (arith, e, lt),
      λ xbsi2e. when_last name (eqb xbsi2e 1) _ (inr (
        λ e. omega (arith, e, lt),
        inr (λ e. omega (arith, e, lt), inr (λ e. omega (arith, e, lt), inr (λ e. omega (arith, e, lt), inr (λ e. omega (arith, e, lt), tt)))),
      )),
    ),
  )

  of_time : Meets name Any time_codes
  unfolding time_codes ◌>>=◌
  of_time = (
    λ e. omega (arith, e, lt),
    λ first. when_passed name Any (eqb first 1) _ _ (inr (λ e. omega (arith, e, lt), tt))
        (λ e. omega (arith, e, lt), λ second. when_last name (eqb second 1) _ (inr (λ e. omega (arith, e, lt), tt))),
  )

  of_additional : Meets name Any additional_info
  unfolding additional_info ◌>>=◌
  of_additional = (
    λ e. omega (arith, e, lt),
    λ addbsie. when_last name (eqb addbsie 1) _ (λ e. omega (arith, e, lt), λ addbsil. (λ e. omega (arith, e, lt), tt)),
  )

  either : (b : Bool) → Meets name Any (cond b alternate_info time_codes)
  either true = of_alternate
  either false = of_time

-- an earlier programme is passed
first_passed : Meets (Name.dialnorm + 8 * 1) Any (programme_info 0)
unfolding programme_info ◌>>=◌
first_passed = inr (
  λ e. omega (arith, e),
  (
    λ e. omega (arith, e),
    λ compre. when_passed _ Any (eqb compre 1) _ _ (inr (λ e. omega (arith, e), tt)) (
      λ e. omega (arith, e),
      λ langcode. when_passed _ Any (eqb langcode 1) _ _ (inr (λ e. omega (arith, e), tt))
          (λ e. omega (arith, e), λ audprodie. when_last _ (eqb audprodie 1) _ (inr (λ e. omega (arith, e), inr (λ e. omega (arith, e), tt)))),
    ),
  ),
)

-- the programmes that there are: dialnorm p is met, or there are no more than p
module _ {B : Type 0} (L : B → Type 0) (h : Unit {0} → Grammar B) where
  of_programmes : (p : ℕ) → p < 2 → (b : Bool) → (cond b 2 1 ≤ p → Meets (Name.dialnorm + 8 * p) L (h tt)) → Meets (Name.dialnorm + 8 * p) L (each (cond b 2 1) programme_info >>= h)
  unfolding turns programme_info ◌>>=◌
  of_programmes zero lt true rest = inl (refl, refl)
  of_programmes zero lt false rest = inl (refl, refl)
  of_programmes (suc zero) lt true rest =
      bound _ (λ _. ⊥) L h (λ a never. absurd never) (each 2 programme_info)
      (bound _ Any (λ _. ⊥) (λ next. turns 1 1 next (λ i _. programme_info i)) (λ a _. inl (refl, refl)) (programme_info 0) first_passed)
  of_programmes (suc zero) lt false rest =
      bound _ Any L h (λ a _. rest (omega arith)) (each 1 programme_info)
      (bound _ Any Any (λ next. turns 1 0 next (λ i _. programme_info i)) (λ a _. tt) (programme_info 0) first_passed)
  of_programmes (suc (suc p)) lt b rest = absurd (omega (arith, lt))

module _ (p : ℕ) (lt : p < 2) where
  abbrev Few : Header → Type 0
  Few h = programmes h.acmod ≤ p

  of_bsi : (fscod bytes : ℕ) → Meets (name p lt) Few (bsi fscod bytes)
  unfolding bsi ◌>>=◌
  of_bsi fscod bytes = (
    λ e. omega (arith, e),
    λ bsid. judged _ _ (ltb 8 bsid) bad_bsid _ (inr (
      λ e. omega (arith, e),
      (
        λ e. omega (arith, e),
        λ acmod. when_passed _ _ (eqb (acmod % 2) 1 && not (eqb acmod 1)) _ _ (inr (λ e. omega (arith, e), tt))
            (when_passed _ _ (leb 4 acmod) _ _ (inr (λ e. omega (arith, e), tt))
            (when_passed _ _ (eqb acmod 2) _ _ (inr (λ e. omega (arith, e), tt)) (
              λ e. omega (arith, e),
              λ lfeon. of_programmes _ _ p lt (eqb acmod 0) (λ few. inr (
                λ e. omega (arith, e, lt),
                inr (
                  λ e. omega (arith, e, lt),
                  bound _ Any _ _ (λ _ _. bound _ Any _ _ (λ _ _. few) additional_info (of_additional p lt)) (cond (eqb bsid 6) alternate_info time_codes) (either p lt (eqb bsid 6)),
                ),
              )),
            ))),
      ),
    )),
  )

  of_header : Meets (name p lt) Few header
  unfolding header
  of_header = bound _ Any _ _ (λ x _. of_bsi x.0 x.1) syncinfo (of_syncinfo p lt)

-- ---- the frame

-- an answer that was reached keeps the property
reached_of : {A : Type 0} {sets : Bool} {Q : A → Type 0} {n : ℕ} {g : Grammar A} → AtMost sets Q n g → (s : List ℕ) (p : Spot) (a : A) → (run g s p).end ≡ reached a → Q a
unfolding run
reached_of {Q = Q} (a_done {a = b} q) s p a e = subst Q (let same : b ≡ a = cc in same) q
reached_of (a_refuse t) s p a e = let z : ◌≡◌ {A = ℕ} 0 1 = cc in absurd (omega arith)
reached_of (a_field {i = i} {w = w} t k) s p a e = reached_of (k _ (value_lt s p.at w)) s (beyond w p) a (past (row_check i p w) p _ e)
reached_of (a_free {i = i} {w = w} t k) s p a e = reached_of k s (beyond w p) a (past (row_check i p w) p _ e)
reached_of (a_span {i = i} {w = w} t k) s p a e = reached_of k s (beyond w p) a (past (row_check i p w) p _ e)
reached_of (a_walk {i = i} {ws = ws} t k) s p a e = reached_of k s (beyond (sum ws) p) a (past (walk_check i p ws) p _ e)
reached_of (a_frame {x = x} {bytes = n} u t k) s p a e = reached_of k s (within n p) a (past (frame_check p x n) p _ e)
reached_of (a_here k) s p a e = reached_of (k p.at) s p a e

first_left : (name : ℕ) (rows more : List Row) (i : ℕ) (r : Row) → First name rows i r → First name (rows ++ more) i r
first_left n [] more i r f = absurd f
first_left n (x ∷ xs) more zero r f = f
first_left n (x ∷ xs) more (suc i) r f = (f.0, first_left n xs more i r f.1)

module _ (p : ℕ) (lt : p < 2) (s : List ℕ) (q : Spot) (a : Audio) where
  abbrev r : Result Header
  r = run header s q

  abbrev ended : End Header → Result Audio
  ended e = continue (record { rows = r.rows; spot = r.spot; end = e }) (λ h z. run (audio h) s z)

  abbrev There : List Row → Type 0
  There rows = (programmes a.header.acmod ≤ p) ⊎ Found (name p lt) rows

  by_header : (e : End Header) → r.end ≡ e → (ended e).end ≡ reached a → There (ended e).rows
  unfolding continue
  by_header (reached h) is e = more (met (name p lt) (Few p lt) s h header q (of_header p lt) is)
    where
      same : a.header ≡ h
      same = reached_of (a_audio h) s r.spot a e

      more : (Few p lt h) ⊎ Found (name p lt) r.rows → There (ended (reached h)).rows
      more (inl few) = inl (subst (λ (h : Header). Few p lt h) (sym same) few)
      more (inr (i, x, f, w)) = inr (i, x, first_left (name p lt) r.rows (run (audio h) s r.spot).rows i x f, w)
  by_header (refused y) is e = let z : ◌≡◌ {A = ℕ} 0 1 = cc in absurd (omega arith)

  in_frame : (run syncframe s q).end ≡ reached a → There (run syncframe s q).rows
  unfolding syncframe
  in_frame e =
      let same = run_bind audio s header q in
      subst (λ (r : Result Audio). There r.rows) (sym same) (by_header r.end refl (ap (λ r. r.end) (sym same) ∙ e))

pub found : (c : Call) → Accepted c → (p : ℕ) → p < 2 → p < programmes (answer_to c).0.summary.header.acmod → Found (Name.dialnorm + 8 * p) (listed c)
found c ok p lt present = go (in_frame p lt (input c) (start (length (input c)) (room_for c)) taken.answer taken.accepted)
  where
    taken : Reaches c
    taken = reaches c ok

    told : (answer_to c).0.summary.header ≡ taken.answer.header
    told = ap (λ s. s.header) ((promised c refl).summary taken)

    go : (programmes taken.answer.header.acmod ≤ p) ⊎ Found (Name.dialnorm + 8 * p) (listed c) → Found (Name.dialnorm + 8 * p) (listed c)
    go (inl few) = absurd (omega (arith, few, subst (λ (h : Header). p < programmes h.acmod) told present))
    go (inr f) = f

-- ---- a frame has whole words

abbrev pub Even : ℕ → Type 0
Even bytes = (words : ℕ) × (bytes ≡ 2 * words)

by_table : (fscod code : ℕ) → Even (frame_bytes fscod code)
unfolding frame_bytes
by_table zero code = (get_or words48 (code / 2) 0, refl)
by_table (suc zero) code = (get_or words44 code 0, refl)
by_table (suc (suc zero)) code = (get_or words32 (code / 2) 0, refl)
by_table (suc (suc (suc fscod))) code = (0, refl)

sync_even : AtMost true (λ (x : ℕ × ℕ). Even x.1) 4 syncinfo
unfolding syncinfo
sync_even =
    bounds.next 0 (search bounds.few) tt λ _. bounds.next 1 (search bounds.few) tt λ _. bounds.next 0 (search bounds.few) tt λ _. bounds.next 1 (search bounds.few) tt λ _.
    bounds.next 1 (search bounds.few) tt λ fscod. bounds.next 1 (search bounds.few) tt λ code. bounds.next 0 (search bounds.few) tt λ _. bounds.next 0 (search bounds.few) tt λ _. a_done (by_table fscod code)

frame_even : AtMost true (λ (a : Audio). Even a.header.bytes) (44 + most_rows) syncframe
unfolding syncframe header
frame_even =
    bounds.both {P = λ (h : Header). Even h.bytes} {m = 44} {k = most_rows}
    (bounds.both {P = λ (x : ℕ × ℕ). Even x.1} {m = 4} {k = 40} sync_even
    (λ x even. bounds.loosen (bounds.wider {Q = λ (h : Header). h.bytes ≡ x.1} (λ h same. subst Even (sym same) even) (omega arith) (a_bsi x.0 x.1))) (omega arith))
    (λ h even. bounds.loosen (bounds.wider {Q = λ (a : Audio). a.header ≡ h} (λ a same. subst (λ (h : Header). Even h.bytes) (sym same) even) (omega arith) (a_audio h))) (omega arith)

pub even_bytes : (c : Call) → Accepted c → Even (answer_to c).0.summary.header.bytes
even_bytes c ok =
    let taken = reaches c ok in
    subst (λ (h : Header). Even h.bytes) (sym (ap (λ s. s.header) ((promised c refl).summary taken)))
    (reached_of frame_even (input c) (start (length (input c)) (room_for c)) taken.answer taken.accepted)
