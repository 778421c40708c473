-- The rows of the definition's list stand in the room one after the other, so the first of a name in the one is the first in the other; and
-- every row that is no span has the value that the bits there spell, because a run makes it so. Assumes nothing.
use mathlib.Core.Bool.{Bool, true, false, cond}
use mathlib.Core.List.{List, [], ◌∷◌, ◌++◌}
use mathlib.Core.Path.{◌≡◌, refl, sym, ap, subst, ◌∙◌}
use Prim.Native.Nat.{ℕ, zero, suc, ◌+◌, ◌*◌, ◌≤◌, ◌<◌}
use native.Mathlib.Decide.{dec_le}
use native.Mathlib.Omega.{arith}
use borrow.Author.Tests.{eqb-true, eqb-false, eq-eqb, ne_eqb}
use lib.Dec.{eqb}
use lib.IntN.{ℤ, pos}
use lib.ListN.{length, get_or, take, drop, length-append}
use lib.Seq.{take_at, drop_at, drop-drop, get_or-take, get_or-drop}
use Rattle.bits.specs.Bits.{value}
use Rattle.syntax.specs.Grammar.{Grammar, done, refuse, field, free, span, walk, frame, here}
use Rattle.syntax.specs.Numbers.{row_width, numbers}
use Rattle.syntax.specs.Place.{flatten}
use Rattle.syntax.specs.Rows.{is_span}
use Rattle.syntax.specs.Run.{Row, Spot, Result, Check, clear, stop, unless, run, sum, beyond, within, start}
use Rattle.ac3.specs.Frame.{syncframe}
use Rattle.ac3.specs.Promise.{input, room_for, listed, answer_to}
use Rattle.ac3.proofs.Promise.{promised}
use Rattle.rows.specs.Look.{value_column, named, first_where, first, value_in}
use Rattle.rows.specs.Found.{index_where, index_of, value_of, First, row_at, LooksUp}
use Rattle.rows.proofs.Look.{hit, miss, value_found, value_none}

-- ---- a row at the front of a run

module _ (r : Row) (rest : List ℤ) where
  whole : row_width ≤ length (numbers r ++ rest)
  whole = omega (arith, length-append (numbers r) rest)

  behind : drop row_width (numbers r ++ rest) ≡ rest
  behind = drop_at (numbers r) rest row_width refl

  pub front : row_at 0 (numbers r ++ rest) ≡ numbers r
  front = take_at (numbers r) rest row_width refl

  pub past : (i : ℕ) → row_at (suc i) (numbers r ++ rest) ≡ row_at i rest
  past i =
      let places : suc i * row_width ≡ row_width + i * row_width = omega arith in
      ap (λ k. take row_width (drop k (numbers r ++ rest))) places
      ∙ ap (take row_width) (sym (drop-drop (i * row_width) row_width (numbers r ++ rest)) ∙ ap (drop (i * row_width)) behind)

-- ---- by any test that says the same of a row and of its numbers

module _ (test : List ℤ → Bool) (says : Row → Bool) (tells : (r : Row) (rest : List ℤ) → test (numbers r ++ rest) ≡ says r) where
  pub place : (rs : List Row) (more : List ℤ) → first_where test (length rs) (flatten rs ++ more) ≡ index_where says rs
  unfolding first_where index_where flatten
  place [] more = refl
  place (r ∷ rs) more = go (says r) refl (place rs more)
    where
      rest : List ℤ
      rest = flatten rs ++ more

      go : (b : Bool) → says r ≡ b → first_where test (length rs) rest ≡ index_where says rs
          → first_where test (suc (length rs)) ((numbers r ++ flatten rs) ++ more) ≡ cond b 0 (suc (index_where says rs))
      go true e later = hit test (length rs) (numbers r ++ rest) (whole r rest) (tells r rest ∙ e)
      go false e later =
          miss test (length rs) (numbers r ++ rest) (whole r rest) (tells r rest ∙ e) ∙ ap (λ l. suc (first_where test (length rs) l)) (behind r rest) ∙ ap suc later

-- ---- by name

module _ (name : ℕ) where
  named_place : (rs : List Row) (more : List ℤ) → first (length rs) name (flatten rs ++ more) ≡ index_of name rs
  named_place = place (named name) (λ r. eqb r.item.name name) (λ r rest. refl)

  index : (rs : List Row) (i : ℕ) (r : Row) → First name rs i r → index_of name rs ≡ i
  unfolding index_where
  index [] i r h = absurd h
  index (x ∷ xs) zero r h = rw (eq-eqb x.item.name name (ap (λ x. x.item.name) h.0 ∙ h.1))
  index (x ∷ xs) (suc i) r h = rw (ne_eqb x.item.name name h.0) (ap suc (index xs i r h.1))

  row_value : (rs : List Row) (i : ℕ) (r : Row) → First name rs i r → value_of name rs ≡ r.value
  unfolding value_of
  row_value [] i r h = absurd h
  row_value (x ∷ xs) zero r h = rw (eq-eqb x.item.name name (ap (λ x. x.item.name) h.0 ∙ h.1)) (ap (λ x. x.value) h.0)
  row_value (x ∷ xs) (suc i) r h = rw (ne_eqb x.item.name name h.0) (row_value xs i r h.1)

  row_numbers : (rs : List Row) (more : List ℤ) (i : ℕ) (r : Row) → First name rs i r → row_at i (flatten rs ++ more) ≡ numbers r
  unfolding flatten
  row_numbers [] more i r h = absurd h
  row_numbers (x ∷ xs) more zero r h = front x (flatten xs ++ more) ∙ ap numbers h.0
  row_numbers (x ∷ xs) more (suc i) r h = past x (flatten xs ++ more) i ∙ row_numbers xs more i r h.1

  found : (rs : List Row) → index_of name rs < length rs → (r : Row) × First name rs (index_of name rs) r
  unfolding index_where
  found [] h = absurd (omega (arith, h))
  found (x ∷ xs) h = go (eqb x.item.name name) refl h (found xs)
    where
      go : (b : Bool) → eqb x.item.name name ≡ b → cond b 0 (suc (index_of name xs)) < suc (length xs)
          → (index_of name xs < length xs → (r : Row) × First name xs (index_of name xs) r)
          → (r : Row) × First name (x ∷ xs) (cond b 0 (suc (index_of name xs))) r
      go true e h later = (x, (refl, eqb-true x.item.name name e))
      go false e h later = let l = later (omega arith) in (l.0, (eqb-false x.item.name name e, l.1))

  no_value : (rs : List Row) → length rs ≤ index_of name rs → value_of name rs ≡ 0
  unfolding index_where value_of
  no_value [] h = refl
  no_value (x ∷ xs) h = go (eqb x.item.name name) h (no_value xs)
    where
      go : (b : Bool) → suc (length xs) ≤ cond b 0 (suc (index_of name xs)) → (length xs ≤ index_of name xs → value_of name xs ≡ 0)
          → cond b x.value (value_of name xs) ≡ 0
      go true h later = absurd (omega (arith, h))
      go false h later = later (omega arith)

  valued : (rs : List Row) (more : List ℤ) → value_in (length rs) name (flatten rs ++ more) ≡ pos (value_of name rs)
  valued rs more = go (dec_le (length rs) (index_of name rs))
    where
      room : List ℤ
      room = flatten rs ++ more

      i : ℕ
      i = index_of name rs

      go : Dec (length rs ≤ i) → value_in (length rs) name room ≡ pos (value_of name rs)
      go (Dec.yes h) = value_none (length rs) name room (omega (arith, named_place rs more)) ∙ ap pos (sym (no_value rs h))
      go (Dec.no h) =
          let there = found rs (omega arith) in
          value_found (length rs) name room (omega (arith, named_place rs more))
          ∙ ap (λ k. get_or room (k * row_width + value_column) (pos 0)) (named_place rs more)
          ∙ sym (get_or-drop (i * row_width) room value_column (pos 0))
          ∙ sym (get_or-take row_width (drop (i * row_width) room) value_column (pos 0) (omega arith))
          ∙ ap (λ row. get_or row value_column (pos 0)) (row_numbers rs more i there.0 there.1)
          ∙ ap pos (sym (row_value rs i there.0 there.1))

-- ---- what the bits spell

abbrev Spelt : List ℕ → List Row → Type 0
Spelt s [] = Unit {0}
Spelt s (r ∷ rs) = (is_span r.kind ≡ false → r.value ≡ value s r.at r.width) × Spelt s rs

no_span : {P : Type 0} → ◌≡◌ {A = Bool} true false → P
no_span e = let z : ◌≡◌ {A = ℕ} 0 1 = cc in absurd (omega arith)

module _ (s : List ℕ) {A : Type 0} where
  spelt_unless : (c : Check) (p : Spot) (r : Result A) → Spelt s r.rows → Spelt s (unless c p (λ _. r)).rows
  unfolding unless
  spelt_unless clear p r h = h
  spelt_unless (stop why bit) p r h = tt

  spelt : (g : Grammar A) (p : Spot) → Spelt s (run g s p).rows
  unfolding run
  spelt (done a) p = tt
  spelt (refuse n) p = tt
  spelt (field i w k) p = spelt_unless _ p _ ((λ _. refl), spelt (k (value s p.at w)) (beyond w p))
  spelt (free i w k) p = spelt_unless _ p _ ((λ _. refl), spelt k (beyond w p))
  spelt (span i w k) p = spelt_unless _ p _ ((λ e. no_span e), spelt k (beyond w p))
  spelt (walk i ws k) p = spelt_unless _ p _ ((λ e. no_span e), spelt k (beyond (sum ws) p))
  spelt (frame x n k) p = spelt_unless _ p _ (spelt k (within n p))
  spelt (here k) p = spelt (k p.at) p

row_bits : (s : List ℕ) (name : ℕ) (rs : List Row) (i : ℕ) (r : Row) → Spelt s rs → First name rs i r → is_span r.kind ≡ false → r.value ≡ value s r.at r.width
row_bits s name [] i r h f = absurd f
row_bits s name (x ∷ xs) zero r h f = subst (λ r. is_span r.kind ≡ false → r.value ≡ value s r.at r.width) f.0 h.0
row_bits s name (x ∷ xs) (suc i) r h f = row_bits s name xs i r h.1 f.1

-- ---- the law

pub looks_up : LooksUp
looks_up c name =
    let kept = promised c {a = (answer_to c).0} {after = (answer_to c).1} refl in
    let rs = listed c in
    let more = drop (length rs * row_width) c.room in
    let room = kept.written in
    let count = kept.counted in
    record {
      place = (λ j. first (count j) name (room j)) ∙ named_place name rs more;
      valued = (λ j. value_in (count j) name (room j)) ∙ valued name rs more;
      found = found name rs;
      index = index name rs;
      row_numbers = λ i r h. ap (row_at i) room ∙ row_numbers name rs more i r h;
      row_value = row_value name rs;
      row_bits = λ i r h. row_bits (input c) name rs i r (spelt (input c) syncframe (start (length (input c)) (room_for c))) h;
    }
