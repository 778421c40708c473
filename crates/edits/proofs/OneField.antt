-- Where the new bits are one field's, every row but its own is read as it was, because rows lie end to end; and its own is in the capture,
-- of 1 to 16 bits, so that a value of its width is set. Assumes nothing.
use mathlib.Core.Bool.{Bool, true, false, ◌&&◌, ◌||◌}
use mathlib.Core.List.{List, [], ◌∷◌, ◌++◌, map}
use mathlib.Core.Logic.{◌⊎◌, inl, inr}
use mathlib.Core.Path.{◌≡◌, refl, ap, ap₂, sym, subst, ◌∙◌}
use Prim.Native.Nat.{ℕ, zero, suc, ◌+◌, ◌*◌, ◌^◌, ◌≤◌, ◌<◌}
use native.Mathlib.Decide.{dec_lt}
use native.Mathlib.Nat.{mod-eq_of_lt}
use native.Mathlib.Omega.{arith}
use lib.Dec.{T, leb, leb→le}
use lib.IntN.{ℤ, pos}
use lib.ListN as list
use lib.ListN.{length, length-drop}
use Rattle.bits.specs.Bits.{bit_at, value}
use Rattle.bits.specs.Put.{put}
use Rattle.bits.proofs.Determine.{value_of_bits}
use Rattle.bits.proofs.Writing.{put_count, put_drop, put_others, put_spelt}
use Rattle.syntax.specs.declared.Item.{Item}
use Rattle.syntax.specs.Names.{editable, spans}
use Rattle.syntax.specs.Numbers.{row_width, numbers}
use Rattle.syntax.specs.Place.{flatten}
use Rattle.syntax.specs.Rows.{Tiles, Holds, reread}
use Rattle.syntax.specs.Run.{Kind, steering, unsteering, spanning, Row, row}
use Rattle.syntax.proofs.Tiles.{tiles_le}
use Rattle.ac3.specs.Editing as frame
use Rattle.ac3.specs.Marked.{among, kind_fits, width_fits, KindsFit, WidthsFit}
use Rattle.ac3.specs.Promise.{Call, call, input, room_for, listed, bit_of, answer_to, Accepted}
use Rattle.ac3.specs.Rooms.{said}
use Rattle.ac3.proofs.Demand3.{ac3_cover}
use Rattle.ac3.proofs.Editing.{edit_freely}
use Rattle.ac3.proofs.Marked.{rows_marked, widths_marked}
use Rattle.ac3.proofs.Promise.{promised, reaches}
use Rattle.ac3.proofs.Within.{kept_within}
use Rattle.rows.specs.Found.{row_at}
use Rattle.rows.specs.Look.{value_column}
use Rattle.rows.proofs.Found.{front, past}
use Rattle.edits.specs.Edits.{set}
use Rattle.edits.specs.Freely.{front_is_editable, held_row, set_in, SetFreely}
use Rattle.edits.proofs.Freely.{is_free, by_kind, rest, rows_again, room_again}
use Rattle.edits.proofs.Setting.{is_set}

-- ---- one row of a list

-- row i of the list is r
abbrev Nth : ℕ → List Row → Row → Type 0
Nth i [] r = ⊥
Nth zero (x ∷ xs) r = x ≡ r
Nth (suc i) (x ∷ xs) r = Nth i xs r

nth : (rows : List Row) (i : ℕ) → i < length rows → (r : Row) × Nth i rows r
nth [] i h = absurd (omega arith)
nth (x ∷ xs) zero h = (x, refl)
nth (x ∷ xs) (suc i) h = nth xs i (omega arith)

either : (a b : Bool) → T a → T (a || b)
either true b t = tt
either false b t = absurd t

module _ (r : Row) where
  nth_held : (tail : List ℤ) (rows : List Row) (i : ℕ) → Nth i rows r → row_at i (flatten rows ++ tail) ≡ numbers r
  unfolding flatten
  nth_held tail [] i h = absurd h
  nth_held tail (x ∷ xs) zero h = front x (flatten xs ++ tail) ∙ ap numbers h
  nth_held tail (x ∷ xs) (suc i) h = past x (flatten xs ++ tail) i ∙ nth_held tail xs i h

  nth_kind : (rows : List Row) (i : ℕ) → Nth i rows r → KindsFit rows → T (kind_fits r.kind r.item.name)
  nth_kind [] i h fit = absurd h
  nth_kind (x ∷ xs) zero h fit = subst (λ (y : Row). T (kind_fits y.kind y.item.name)) h fit.0
  nth_kind (x ∷ xs) (suc i) h fit = nth_kind xs i h fit.2

  nth_width : (rows : List Row) (i : ℕ) → Nth i rows r → WidthsFit rows → T (width_fits r.kind r.width)
  nth_width [] i h fit = absurd h
  nth_width (x ∷ xs) zero h fit = subst (λ (y : Row). T (width_fits y.kind y.width)) h fit.0
  nth_width (x ∷ xs) (suc i) h fit = nth_width xs i h fit.1

  nth_outside : (rows : List Row) (i p : ℕ) → Nth i rows r → T (among r.item.name editable) → frame.OutsideEditable rows p → ¬ Holds r p
  nth_outside [] i p h t out = absurd h
  nth_outside (x ∷ xs) zero p h t out = subst (λ (y : Row). T (among y.item.name editable || among y.item.name spans) → ¬ Holds y p) h out.0 (either (among r.item.name editable) (among r.item.name spans) t)
  nth_outside (x ∷ xs) (suc i) p h t out = nth_outside xs i p h t out.1

  -- it lies between the ends of the list
  nth_from : (rows : List Row) (i from to : ℕ) → Nth i rows r → Tiles from rows to → from ≤ r.at
  nth_from [] i from to h tiles = absurd h
  nth_from (x ∷ xs) zero from to h tiles = omega (arith, ap (λ (y : Row). y.at) h)
  nth_from (x ∷ xs) (suc i) from to h tiles = omega (arith, nth_from xs i (from + x.width) to h tiles.1)

  nth_to : (rows : List Row) (i from to : ℕ) → Nth i rows r → Tiles from rows to → r.at + r.width ≤ to
  nth_to [] i from to h tiles = absurd h
  nth_to (x ∷ xs) zero from to h tiles = omega (arith, ap (λ (y : Row). y.at) h, ap (λ (y : Row). y.width) h, tiles_le xs (from + x.width) to tiles.1)
  nth_to (x ∷ xs) (suc i) from to h tiles = nth_to xs i (from + x.width) to h tiles.1

-- ---- one field

set_append_right : {A : Type 0} (xs ys : List A) (i : ℕ) (a : A) → list.set (xs ++ ys) (length xs + i) a ≡ xs ++ list.set ys i a
set_append_right [] ys i a = let same : 0 + i ≡ i = omega arith in ap (λ n. list.set ys n a) same
set_append_right (x ∷ xs) ys i a =
    let next : suc (length xs) + i ≡ suc (length xs + i) = omega arith in
    ap (λ n. list.set (x ∷ xs ++ ys) n a) next ∙ ap (λ l. x ∷ l) (set_append_right xs ys i a)

module _ (s t : List ℕ) where
  reread_same : (k : Kind) (i : Item) (at w v : ℕ) → value t at w ≡ value s at w → reread t (row k i at w v) ≡ reread s (row k i at w v)
  reread_same steering i at w v h = refl
  reread_same unsteering i at w v h = ap (row unsteering i at w) h
  reread_same spanning i at w v h = refl

  reread_set : (k : Kind) (i : Item) (at w v : ℕ) → T (is_free k) → numbers (reread t (row k i at w v)) ≡ list.set (numbers (reread s (row k i at w v))) value_column (pos (value t at w))
  reread_set steering i at w v h = absurd h
  reread_set unsteering i at w v h = refl
  reread_set spanning i at w v h = absurd h

  -- rows from a bit on, where both have the same bits
  reread_later : (rows : List Row) (from to : ℕ) → Tiles from rows to → ((p : ℕ) → from ≤ p → bit_at t p ≡ bit_at s p) → map (reread t) rows ≡ map (reread s) rows
  reread_later [] from to tiles same = refl
  reread_later (r ∷ rs) from to tiles same =
      ap₂ ◌∷◌ (reread_same r.kind r.item r.at r.width r.value (value_of_bits t s r.at r.width (λ p lo hi. same p (omega (arith, tiles.0)))))
      (reread_later rs (from + r.width) to tiles.1 (λ p lo. same p (omega arith)))

  module _ (r : Row) (v : ℕ) (tail : List ℤ) (free : T (is_free r.kind)) (new : value t r.at r.width ≡ v) (same : (p : ℕ) → ¬ Holds r p → bit_at t p ≡ bit_at s p) where
    one_changed : (rows : List Row) (i from to : ℕ) → Nth i rows r → Tiles from rows to
        → flatten (map (reread t) rows) ++ tail ≡ list.set (flatten (map (reread s) rows) ++ tail) (i * row_width + value_column) (pos v)
    unfolding flatten
    one_changed [] i from to h tiles = absurd h
    one_changed (x ∷ xs) zero from to h tiles =
        let at_x = ap (λ (y : Row). y.at) h in
        let width-x = ap (λ (y : Row). y.width) h in
        let after = reread_later xs (from + x.width) to tiles.1 (λ p lo. same p (λ inside. omega (arith, at_x, width-x, tiles.0))) in
        let value-x : value t x.at x.width ≡ v = (λ j. value t (at_x j) (width-x j)) ∙ new in
        ap₂ (λ head later. head ++ (flatten later ++ tail))
        (reread_set x.kind x.item x.at x.width x.value (subst (λ (y : Row). T (is_free y.kind)) (sym h) free)
        ∙ ap (λ u. list.set (numbers (reread s x)) value_column (pos u)) value-x)
        after
    one_changed (x ∷ xs) (suc i) from to h tiles =
        let before = nth_from r xs i (from + x.width) to h tiles.1 in
        let head = reread_same x.kind x.item x.at x.width x.value (value_of_bits t s x.at x.width (λ p lo hi. same p (λ inside. omega (arith, before, tiles.0)))) in
        let place : suc i * row_width + value_column ≡ row_width + (i * row_width + value_column) = omega arith in
        ap₂ (λ y later. numbers y ++ later) head (one_changed xs i (from + x.width) to h tiles.1)
        ∙ sym (set_append_right (numbers (reread s x)) (flatten (map (reread s) xs) ++ tail) (i * row_width + value_column) (pos v))
        ∙ ap (λ n. list.set (flatten (map (reread s) (x ∷ xs)) ++ tail) n (pos v)) (sym place)

-- ---- a value that is set

-- a call is an edit of itself, so its values are what its own bits spell
module _ (c : Call) (ok : Accepted c) where
  itself : frame.Edited c c
  itself = record { long = refl; room = refl; bits = λ p lt out. refl }

  read_so : map (reread (input c)) (listed c) ≡ listed c
  read_so = sym (rows_again c c ok itself)

  tiled : Tiles 0 (listed c) (bit_of c)
  tiled = ac3_cover (input c) (room_for c) (reaches c ok)

  ends_inside : bit_of c ≤ 8 * length (input c)
  ends_inside =
      let kept = promised c refl in
      let inside = kept_within c (answer_to c).0 (answer_to c).1 kept in
      omega (arith, kept.bit, inside.end ok, inside.frame ok)

both : (a b : Bool) → T (a && b) → T a × T b
both true b t = (tt, t)
both false b t = absurd t

module _ (c : Call) (i v : ℕ) (ok : Accepted c) (r : Row) (n : Nth i (listed c) r) (ed : T (among r.item.name editable)) (small : v < 2 ^ r.width) where
  is_free_lem : T (is_free r.kind)
  is_free_lem = subst T (by_kind r.kind r.item.name (nth_kind r (listed c) i n (rows_marked (input c) (room_for c)))) ed

  narrow : (k : Kind) (w : ℕ) → T (is_free k) → T (width_fits k w) → (1 ≤ w) × (w ≤ 16)
  narrow steering w f t = absurd f
  narrow unsteering w f t = let fits = both (leb 1 w) (leb w 16) t in (leb→le 1 w fits.0, leb→le w 16 fits.1)
  narrow spanning w f t = absurd f

  width : (1 ≤ r.width) × (r.width ≤ 16)
  width = narrow r.kind r.width is_free_lem (nth_width r (listed c) i n (widths_marked (input c) (room_for c)))

  inside : r.at + r.width ≤ length (input c) * 8
  inside = omega (arith, nth_to r (listed c) i 0 (bit_of c) n (tiled c ok), ends_inside c ok)

  within : c.place * 8 + r.at + r.width ≤ length c.capture * 8
  within = omega (arith, inside, width.0, length-drop c.place c.capture)

  abbrev changed : List ℕ
  changed = put c.capture (c.place * 8 + r.at) r.width v

  sets : set c.capture c.place r.at r.width v ≡ (0, changed)
  sets = sym (is_set c.capture c.place r.at r.width v (λ e. omega (arith, width.0)) width.1 within small)

  abbrev after : Call
  after = call changed c.place c.room

  input_after : input after ≡ put (input c) r.at r.width v
  input_after = put_drop c.capture c.place r.at r.width v

  others : (p : ℕ) → ¬ Holds r p → bit_at (input after) p ≡ bit_at (input c) p
  others p out = ap (λ l. bit_at l p) input_after ∙ put_others (input c) r.at r.width v p (beside (dec_lt p r.at))
    where
      beside : Dec (p < r.at) → (p < r.at) ⊎ (r.at + r.width ≤ p)
      beside (Dec.yes l) = inl l
      beside (Dec.no l) = inr (past_it (dec_lt p (r.at + r.width)))
        where
          past_it : Dec (p < r.at + r.width) → r.at + r.width ≤ p
          past_it (Dec.yes m) = absurd (out (omega arith, m))
          past_it (Dec.no m) = omega arith

  edit : frame.Edited c after
  edit =
      record {
        long = sym (ap length input_after ∙ put_count (input c) r.at r.width v);
        room = refl;
        bits = λ p lt out. sym (others p (nth_outside r (listed c) i p n ed out));
      }

  new_value : value (input after) r.at r.width ≡ v
  new_value =
      ap (λ l. value l r.at r.width) input_after
      ∙ put_spelt (input c) r.at r.width v inside
      ∙ mod-eq_of_lt small

  room_after : (answer_to after).1 ≡ list.set (answer_to c).1 (i * row_width + value_column) (pos v)
  room_after =
      room_again c after ok edit
      ∙ one_changed (input c) (input after) r v (rest c) is_free_lem new_value others (listed c) i 0 (bit_of c) n (tiled c ok)
      ∙ ap (λ rows. list.set (flatten rows ++ rest c) (i * row_width + value_column) (pos v)) (read_so c ok)
      ∙ ap (λ room. list.set room (i * row_width + value_column) (pos v)) (sym (promised c refl).written)

  answer_after : answer_to after ≡ ((answer_to c).0, list.set (answer_to c).1 (i * row_width + value_column) (pos v))
  answer_after = λ j. (edit_freely.answer c after ok edit j, room_after j)

pub set_freely : SetFreely
set_freely c i v ok lt ed small =
    let kept = promised c refl in
    let there = nth (listed c) i (omega (arith, kept.counted)) in
    let r = there.0 in
    let held : held_row c i ≡ numbers r = ap (row_at i) kept.written ∙ nth_held r (rest c) (listed c) i there.1 in
    let named : T (among r.item.name editable) = subst (λ (l : List ℤ). T (front_is_editable l)) held ed in
    let fits : v < 2 ^ r.width = subst (λ (l : List ℤ). v < 2 ^ said 6 l) held small in
    let is : set_in c i v ≡ (0, changed c i v ok r there.1 named fits) =
    ap (λ (l : List ℤ). set c.capture c.place (said 5 l) (said 6 l) v) held ∙ sets c i v ok r there.1 named fits in
    record {
      done = ap (λ x. x.0) is;
      answer = ap (λ x. answer_to (call x.1 c.place c.room)) is ∙ answer_after c i v ok r there.1 named fits;
    }
