-- Entries as numbers of an index, and what each entry of a walk is: the entry of a frame that parsing accepts there. Assumes nothing.
use mathlib.Core.Bool.{Bool, true, false, cond, ◌&&◌}
use mathlib.Core.List.{List, [], ◌∷◌, ◌++◌, append_assoc}
use mathlib.Core.Path.{◌≡◌, refl, sym, ap, subst, ◌∙◌}
use Prim.Native.Nat.{ℕ, zero, suc, ◌+◌, ◌*◌, ◌<◌}
use native.Mathlib.Omega.{arith}
use borrow.Author.Tests.{eqb-true, eq-eqb, ne_eqb}
use lib.Dec.{eqb}
use lib.IntN.{ℤ, nat_abs}
use lib.ListN.{length, take, get_or}
use lib.Seq.{get_or-append-add, get_or-take}
use Rattle.syntax.specs.Names as Name
use Rattle.ac3.specs.Frame.{answer}
use Rattle.ac3.specs.Promise.{Call, call, listed, answer_to, Accepted}
use Rattle.rows.specs.Found.{value_of}
use Rattle.rows.specs.Look.{value_in}
use Rattle.rows.proofs.Found.{looks_up}
use Rattle.salvage.proofs.Parsed.{same_room}
use Rattle.index.specs.Index.{entry_width, numbers, numbers_of, entry_of, entry_in, same_entry, is_over, met, stride, walk}
use Rattle.index.specs.Indexes.{Right}
use Rattle.index.specs.declared.outcome.Entry.{Entry}
use Rattle.index.proofs.Answered.{both_true}
use Rattle.index.proofs.Walks.{stops_there, goes_on, same_frame, same_entry_lem}

-- ---- numbers

pub length_numbers : (es : List Entry) → length (numbers_of es) ≡ length es * entry_width
unfolding numbers_of
length_numbers [] = refl
length_numbers (e ∷ es) = omega (arith, length_numbers es)

pub numbers_append : (es fs : List Entry) → numbers_of (es ++ fs) ≡ numbers_of es ++ numbers_of fs
unfolding numbers_of
numbers_append [] fs = refl
numbers_append (e ∷ es) fs = ap (λ l. numbers e ++ l) (numbers_append es fs)

-- an entry behind some numbers
pub moved : (p l : List ℕ) (i j : ℕ) → length p + j * entry_width ≡ i * entry_width → entry_in (p ++ l) i ≡ entry_in l j
moved p l i j there = λ k.
    record {
      place = (ap (λ n. get_or (p ++ l) n 0) (sym there) ∙ get_or-append-add p l (j * entry_width) 0) k;
      size = number 1 k;
      acmod = number 2 k;
      dialnorm = number 3 k;
      second = number 4 k;
    }
  where
    number : (n : ℕ) → get_or (p ++ l) (i * entry_width + n) 0 ≡ get_or l (j * entry_width + n) 0
    number n =
        let at : i * entry_width + n ≡ length p + (j * entry_width + n) = omega arith in
        ap (λ m. get_or (p ++ l) m 0) at ∙ get_or-append-add p l (j * entry_width + n) 0

-- an entry in front of some numbers
pub unmoved : (n : ℕ) (l m : List ℕ) → take (n * entry_width) l ≡ take (n * entry_width) m → (i : ℕ) → i < n → entry_in l i ≡ entry_in m i
unmoved n l m same i h = λ k.
    record {
      place = number (i * entry_width) (omega arith) k;
      size = number (i * entry_width + 1) (omega arith) k;
      acmod = number (i * entry_width + 2) (omega arith) k;
      dialnorm = number (i * entry_width + 3) (omega arith) k;
      second = number (i * entry_width + 4) (omega arith) k;
    }
  where
    number : (at : ℕ) → at < n * entry_width → get_or l at 0 ≡ get_or m at 0
    number at inside = sym (get_or-take (n * entry_width) l at 0 inside) ∙ ap (λ x. get_or x at 0) same ∙ get_or-take (n * entry_width) m at 0 inside

abbrev pub Every : (Entry → Type 0) → List Entry → Type 0
Every P [] = Unit {0}
Every P (e ∷ es) = P e × Every P es

pub every_at : (P : Entry → Type 0) (es : List Entry) (rest : List ℕ) → Every P es → (j : ℕ) → j < length es → P (entry_in (numbers_of es ++ rest) j)
unfolding numbers_of
every_at P [] rest all j h = absurd (omega arith)
every_at P (e ∷ es) rest all zero h = all.0
every_at P (e ∷ es) rest all (suc j) h =
    subst P (sym (ap (λ l. entry_in l (suc j)) (append_assoc (numbers e) (numbers_of es) rest) ∙ moved (numbers e) (numbers_of es ++ rest) (suc j) j (omega arith)))
    (every_at P es rest all.1 j (omega arith))

pub every_append : (P : Entry → Type 0) (es fs : List Entry) → Every P es → Every P fs → Every P (es ++ fs)
every_append P [] fs a b = b
every_append P (e ∷ es) fs a b = (a.0, every_append P es fs a.1 b)

-- ---- an entry is that of its frame

abbrev pub Is : (capture : List ℕ) (rows : List ℤ) → Entry → Type 0
Is capture rows e = Accepted (call capture e.place rows) × (e ≡ entry_of (call capture e.place rows))

pub right : {capture : List ℕ} {rows : List ℤ} {e : Entry} → Is capture rows e → Right capture rows e
right {capture} {rows} {e} (ok, is) =
    let c = call capture e.place rows in
    let acmod : e.acmod ≡ (answer_to c).0.summary.header.acmod = ap (λ e. e.acmod) is in
    let second : e.second ≡ cond (eqb e.acmod 0) (value_of Name.dialnorm2 (listed c)) 0 = ap (λ e. e.second) is ∙ ap (λ n. cond (eqb n 0) (value_of Name.dialnorm2 (listed c)) 0) (sym acmod) in
    record {
      accepted = ok;
      size = ap (λ e. e.size) is;
      acmod = acmod;
      dialnorm = ap (λ e. e.dialnorm) is;
      second = λ z. second ∙ ap (λ b. cond b (value_of Name.dialnorm2 (listed c)) 0) (eq-eqb e.acmod 0 z);
      no_second = λ n. second ∙ ap (λ b. cond b (value_of Name.dialnorm2 (listed c)) 0) (ne_eqb e.acmod 0 n);
    }

-- of every walk, with any room of that length
pub all_are : (capture : List ℕ) (rows : List ℤ) (n place : ℕ) (room : List ℤ) → length room ≡ length rows → Every (Is capture rows) (walk capture n place room).entries
unfolding walk
all_are capture rows zero place room long = tt
all_are capture rows (suc n) place room long =
    go (is_over (answer capture place room).0.refusal) refl (all_are capture rows n (place + stride (call capture place room)) (answer capture place room).1 (same_room capture place room ∙ long))
  where
    c : Call
    c = call capture place room

    here : (b : Bool) → eqb (answer_to c).0.refusal 0 ≡ b → Every (Is capture rows) (cond b (entry_of c ∷ []) [])
    here true e = ((ap (λ a. a.refusal) (sym (same_frame capture place room rows long).answer) ∙ eqb-true _ 0 e, same_entry_lem capture place room rows long), tt)
    here false e = tt

    go : (b : Bool) → is_over (answer_to c).0.refusal ≡ b → Every (Is capture rows) (walk capture n (place + stride c) (answer_to c).1).entries → Every (Is capture rows) (walk capture (suc n) place room).entries
    go true e later = subst (λ w. Every (Is capture rows) w.entries) (sym (stops_there capture n place room e)) tt
    go false e later =
        subst (λ w. Every (Is capture rows) w.entries) (sym (goes_on capture n place room e))
        (every_append (Is capture rows) (met c) (walk capture n (place + stride c) (answer_to c).1).entries (here (eqb (answer_to c).0.refusal 0) refl) later)

-- the same answer is the same entry
pub by_answer : (c d : Call) → c.place ≡ d.place → answer_to c ≡ answer_to d → entry_of c ≡ entry_of d
by_answer c d place same = λ i.
    record {
      place = place i;
      size = (same i).0.summary.header.bytes;
      acmod = (same i).0.summary.header.acmod;
      dialnorm = value Name.dialnorm i;
      second = cond (eqb (same i).0.summary.header.acmod 0) (value Name.dialnorm2 i) 0;
    }
  where
    value : (name : ℕ) → value_of name (listed c) ≡ value_of name (listed d)
    value name = ap nat_abs (sym (looks_up c name).valued ∙ ap (λ x. value_in x.0.rows name x.1) same ∙ (looks_up d name).valued)

pub same_as_itself : (e f : Entry) → e ≡ f → same_entry e f ≡ true
same_as_itself e f is =
    ap (λ e. same_entry e f) is ∙ rw (eq-eqb f.size f.size refl, eq-eqb f.acmod f.acmod refl, eq-eqb f.dialnorm f.dialnorm refl, eq-eqb f.second f.second refl)

-- the same four numbers, and the place is the last entry's
pub same_numbers : (e f : Entry) → e.place ≡ f.place → same_entry e f ≡ true → e ≡ f
same_numbers e f place same =
    let (size, more) = both_true (eqb e.size f.size) (eqb e.acmod f.acmod && (eqb e.dialnorm f.dialnorm && eqb e.second f.second)) same in
    let (acmod, levels) = both_true (eqb e.acmod f.acmod) (eqb e.dialnorm f.dialnorm && eqb e.second f.second) more in
    let (dialnorm, second) = both_true (eqb e.dialnorm f.dialnorm) (eqb e.second f.second) levels in
    λ i.
    record {
      place = place i;
      size = eqb-true e.size f.size size i;
      acmod = eqb-true e.acmod f.acmod acmod i;
      dialnorm = eqb-true e.dialnorm f.dialnorm dialnorm i;
      second = eqb-true e.second f.second second i;
    }
