-- Every accepted frame opens with the same fields, each where the last one ends: so says the grammar. Assumes nothing.
use mathlib.Core.Bool.{Bool, true, false, not}
use mathlib.Core.List.{List, [], ◌∷◌, ◌++◌}
use mathlib.Core.Path.{◌≡◌, refl, sym, ap, subst, ◌∙◌}
use Prim.Native.Nat.{ℕ, ◌+◌}
use native.Mathlib.Omega.{arith}
use borrow.Author.Tests.{eq-eqb}
use lib.Dec.{T, eqb, ltb}
use Rattle.bits.specs.Bits.{value}
use Rattle.tables.specs.Tables.{frame_bytes}
use Rattle.syntax.specs.declared.Item.{Item}
use Rattle.syntax.specs.declared.Role.TheVariants.{Sync, Crc1, FrameSize}
use Rattle.syntax.specs.declared.Refusal.{Refusal}
use Rattle.syntax.specs.Refusals.{not_sync, no_frame_size, bad_bsid}
use Rattle.syntax.specs.Grammar.{Grammar, done, refuse, field, free, span, walk, frame, here, ◌>>=◌, plain, roled, refuse_if}
use Rattle.syntax.specs.Names as Name
use Rattle.syntax.specs.Run.{Kind, steering, unsteering, Row, row, Spot, reached, Result, Check, clear, stop, ◌after◌, unless, run, row_check, frame_check, beyond, within}
use Rattle.header.specs.Header.{syncinfo, bsi, header}
use Rattle.ac3.specs.Frame.{syncframe, audio}
use Rattle.ac3.specs.Promise.{input}
use Rattle.ac3.proofs.Promise.{reaches}
use Rattle.rows.specs.Found.{First, Opens, HeadRows}

record Laid : Type 0 where
  pub kind : Kind
  pub item : Item
  pub width : ℕ

abbrev laid : Kind → Item → ℕ → Laid
laid kind i w = record { kind = kind; item = i; width = w }

-- end to end from a bit on
abbrev rows_from : List ℕ → ℕ → List Laid → List Row
rows_from s at [] = []
rows_from s at (f ∷ fs) = row f.kind f.item at f.width (value s at f.width) ∷ rows_from s (at + f.width) fs

-- whatever is accepted reads these fields first; of an answer before the last of them this holds with those that are left
abbrev Begins : {A : Type 0} → List Laid → (A → List Laid → Type 0) → Grammar A → Type 0
Begins [] P g = Unit {0}
Begins (f ∷ fs) P (done a) = P a (f ∷ fs)
Begins (f ∷ fs) P (refuse n) = Unit {0}
Begins (f ∷ fs) P (field i w k) = (f ≡ laid steering i w) × ((v : ℕ) → Begins fs P (k v))
Begins (f ∷ fs) P (free i w k) = (f ≡ laid unsteering i w) × Begins fs P k
Begins (f ∷ fs) P (span i w k) = ⊥
Begins (f ∷ fs) P (walk i ws k) = ⊥
Begins (f ∷ fs) P (frame x n k) = Begins (f ∷ fs) P k
Begins (f ∷ fs) P (here k) = (at : ℕ) → Begins (f ∷ fs) P (k at)

module _ {A B : Type 0} (Q : A → List Laid → Type 0) (P : B → List Laid → Type 0) (h : A → Grammar B) (next : (a : A) (fs : List Laid) → Q a fs → Begins fs P (h a)) where
  bound : (fs : List Laid) (g : Grammar A) → Begins fs Q g → Begins fs P (g >>= h)
  unfolding ◌>>=◌
  bound [] g b = tt
  bound (f ∷ fs) (done a) b = next a (f ∷ fs) b
  bound (f ∷ fs) (refuse n) b = tt
  bound (f ∷ fs) (field i w k) b = (b.0, λ v. bound fs (k v) (b.1 v))
  bound (f ∷ fs) (free i w k) b = (b.0, bound fs k b.1)
  bound (f ∷ fs) (span i w k) b = absurd b
  bound (f ∷ fs) (walk i ws k) b = absurd b
  bound (f ∷ fs) (frame x n k) b = bound (f ∷ fs) k b
  bound (f ∷ fs) (here k) b = λ at. bound (f ∷ fs) (k at) (b at)

-- past a judgement
past : {B : Type 0} (f : Laid) (fs : List Laid) (P : B → List Laid → Type 0) (b : Bool) (x : Refusal) (h : Unit {0} → Grammar B) → Begins (f ∷ fs) P (h tt) → Begins (f ∷ fs) P (refuse_if b x >>= h)
unfolding ◌>>=◌
past f fs P true x h later = tt
past f fs P false x h later = later

-- ---- what is accepted

checked : {A : Type 0} (c : Check) (p : Spot) (r : Result A) {a : A} → (unless c p (λ _. r)).end ≡ reached a → unless c p (λ _. r) ≡ r
unfolding unless
checked clear p r e = refl
checked (stop why bit) p r e = let z : ◌≡◌ {A = ℕ} 0 1 = cc in absurd (omega arith)

abbrev Opened : List Row → List Row → Type 0
Opened front rows = (later : List Row) × (rows ≡ front ++ later)

module _ {A : Type 0} (s : List ℕ) (a : A) where
  one : (c : Check) (p : Spot) (x : Row) (r : Result A) (front : List Row) → (unless c p (λ _. r after x ∷ [])).end ≡ reached a → (r.end ≡ reached a → Opened front r.rows)
      → Opened (x ∷ front) (unless c p (λ _. r after x ∷ [])).rows
  one c p x r front e later =
      let is = checked c p (r after x ∷ []) e in
      let l = later (ap (λ r. r.end) (sym is) ∙ e) in
      (l.0, ap (λ r. r.rows) is ∙ ap (λ rows. x ∷ rows) l.1)

  opened : (fs : List Laid) (g : Grammar A) (p : Spot) → Begins fs (λ _ _. ⊥) g → (run g s p).end ≡ reached a → Opened (rows_from s p.at fs) (run g s p).rows
  unfolding run
  opened [] g p b e = ((run g s p).rows, refl)
  opened (f ∷ fs) (done x) p b e = absurd b
  opened (f ∷ fs) (refuse n) p b e = let z : ◌≡◌ {A = ℕ} 0 1 = cc in absurd (omega arith)
  opened (f ∷ fs) (field i w k) p b e =
      subst (λ f. Opened (rows_from s p.at (f ∷ fs)) (run (field i w k) s p).rows) (sym b.0)
      (one (row_check i p w) p _ _ (rows_from s (p.at + w) fs) e (opened fs (k (value s p.at w)) (beyond w p) (b.1 (value s p.at w))))
  opened (f ∷ fs) (free i w k) p b e =
      subst (λ f. Opened (rows_from s p.at (f ∷ fs)) (run (free i w k) s p).rows) (sym b.0)
      (one (row_check i p w) p _ _ (rows_from s (p.at + w) fs) e (opened fs k (beyond w p) b.1))
  opened (f ∷ fs) (span i w k) p b e = absurd b
  opened (f ∷ fs) (walk i ws k) p b e = absurd b
  opened (f ∷ fs) (frame x n k) p b e =
      let is = checked (frame_check p x n) p (run k s (within n p)) e in
      let l = opened (f ∷ fs) k (within n p) b (ap (λ r. r.end) (sym is) ∙ e) in
      (l.0, ap (λ r. r.rows) is ∙ l.1)
  opened (f ∷ fs) (here k) p b e = opened (f ∷ fs) (k p.at) p (b p.at) e

-- ---- the frame

abbrev bsid_field : Laid
bsid_field = laid steering (plain Name.bsid) 5

abbrev bsmod_field : Laid
bsmod_field = laid unsteering (plain Name.bsmod) 3

abbrev acmod_field : Laid
acmod_field = laid steering (plain Name.acmod) 3

abbrev bsi_fields : List Laid
bsi_fields = bsid_field ∷ bsmod_field ∷ acmod_field ∷ []

abbrev crc1_field : Laid
crc1_field = laid unsteering (roled Crc1 Name.crc1) 16

abbrev size_fields : List Laid
size_fields = laid steering (roled FrameSize Name.fscod) 2 ∷ laid steering (roled FrameSize Name.frmsizecod) 6 ∷ bsi_fields

abbrev fields : List Laid
fields =
    laid steering (roled Sync Name.syncword) 16 ∷ crc1_field ∷ size_fields

of_syncinfo : Begins fields (λ _ left. left ≡ bsi_fields) syncinfo
unfolding syncinfo ◌>>=◌
of_syncinfo = (refl, λ syncword. past crc1_field size_fields (λ _ left. left ≡ bsi_fields) (not (eqb syncword 0x0B77)) not_sync _ (refl, (refl, λ fscod. (refl, λ code. past bsid_field (bsmod_field ∷ acmod_field ∷ []) (λ _ left. left ≡ bsi_fields) (eqb (frame_bytes fscod code) 0) no_frame_size _ refl))))

of_bsi : (fscod bytes : ℕ) → Begins bsi_fields (λ _ _. ⊥) (bsi fscod bytes)
unfolding bsi ◌>>=◌
of_bsi fscod bytes = (refl, λ bsid. past bsmod_field (acmod_field ∷ []) (λ _ _. ⊥) (ltb 8 bsid) bad_bsid _ (refl, (refl, λ acmod. tt)))

of_frame_lem : Begins fields (λ _ _. ⊥) syncframe
unfolding syncframe header
of_frame_lem =
    bound (λ _ _. ⊥) (λ _ _. ⊥) audio (λ h fs never. absurd never) fields header
    (bound (λ _ left. left ≡ bsi_fields) (λ _ _. ⊥) _ (λ x fs e. subst (λ fs. Begins fs (λ _ _. ⊥) (bsi x.0 x.1)) (sym e) (of_bsi x.0 x.1)) fields syncinfo of_syncinfo)

pub opens : Opens
opens c ok = let r = reaches c ok in opened (input c) r.answer fields syncframe _ of_frame_lem r.accepted

-- names that differ
differ : {m n : ℕ} → T (not (eqb m n)) → ¬ (m ≡ n)
differ {m} {n} t e = go (eqb m n) (eq-eqb m n e) t
  where
    go : (b : Bool) → b ≡ true → ¬ T (not b)
    go true e t = t
    go false e t = let z : ◌≡◌ {A = ℕ} 0 1 = cc in absurd (omega arith)

likewise : (name i : ℕ) (r : Row) {rows others : List Row} → rows ≡ others → First name others i r → First name rows i r
likewise name i r e h = subst (λ rows. First name rows i r) (sym e) h

pub head_rows : HeadRows
head_rows c ok =
    let all = opens c ok in
    record {
      frmsizecod = likewise Name.frmsizecod 3 _ all.1 (differ tt, (differ tt, (differ tt, (refl, refl))));
      bsmod = likewise Name.bsmod 5 _ all.1 (differ tt, (differ tt, (differ tt, (differ tt, (differ tt, (refl, refl))))));
      acmod = likewise Name.acmod 6 _ all.1 (differ tt, (differ tt, (differ tt, (differ tt, (differ tt, (differ tt, (refl, refl)))))));
    }
