-- A room's rows are the definition's, one after the other, and those of editable names are the ones whose values steer nothing. So what
-- new bits do to the definition's rows (`ac3/specs/Editing`) they do to the room. Assumes nothing.
use mathlib.Core.Bool.{Bool, true, false, not, cond, ◌||◌}
use mathlib.Core.List.{List, [], ◌∷◌, ◌++◌, map}
use mathlib.Core.Path.{◌≡◌, refl, ap, ap₂, sym, subst, ◌∙◌}
use Prim.Native.Nat.{ℕ, ◌*◌}
use native.Mathlib.Omega.{arith}
use borrow.Author.Tests.{eqb-true}
use lib.Dec.{T, eqb}
use lib.IntN.{ℤ, pos}
use lib.ListN as list
use lib.ListN.{length, drop, length-map}
use Rattle.bits.specs.Bits.{value}
use Rattle.syntax.specs.declared.Item.{Item}
use Rattle.syntax.specs.declared.Role.{Role}
use Rattle.syntax.specs.Names.{editable, spans}
use Rattle.syntax.specs.Numbers.{row_width, numbers}
use Rattle.syntax.specs.Place.{flatten}
use Rattle.syntax.specs.Rows.{reread}
use Rattle.syntax.specs.Run.{Kind, steering, unsteering, spanning, Row, row}
use Rattle.ac3.specs.Editing as frame
use Rattle.ac3.specs.Marked.{among, span_role, kind_fits, role_fits, KindsFit}
use Rattle.ac3.specs.Promise.{Call, input, room_for, listed, answer_to, Accepted}
use Rattle.ac3.specs.Rooms.{row_count}
use Rattle.ac3.proofs.Editing.{edit_freely}
use Rattle.ac3.proofs.Marked.{rows_marked}
use Rattle.ac3.proofs.Promise.{promised}
use Rattle.rows.specs.Look.{value_column}
use Rattle.edits.specs.Freely.{reread_front, OutsideEditable, reread_room, Edited, EditFreely}

-- ---- the kind of an editable name

never : (b : Bool) → T (not b) → T b → ⊥
never true t u = t
never false t u = u

or_else : (a b d : Bool) → (T b → T d) → T (a || b) → T (a || d)
or_else true b d f t = tt
or_else false b d f t = f t

first_false : (a b : Bool) → T (not (a || b)) → a ≡ false
first_false true b t = absurd t
first_false false b t = refl

is_true : (b : Bool) → T b → b ≡ true
is_true true t = refl
is_true false t = absurd t

-- none of these names is editable
abbrev Apart : List ℕ → Type 0
Apart [] = Unit {0}
Apart (m ∷ ms) = (among m editable ≡ false) × Apart ms

apart : (names : List ℕ) → Apart names → (name : ℕ) → T (among name names) → among name editable ≡ false
apart [] a name t = absurd t
apart (m ∷ ms) a name t = go (eqb name m) refl t (apart ms a.1 name)
  where
    go : (b : Bool) → eqb name m ≡ b → T (b || among name ms) → (T (among name ms) → among name editable ≡ false) → among name editable ≡ false
    go true e t later = ap (λ n. among n editable) (eqb-true name m e) ∙ a.0
    go false e t later = later t

abbrev pub is_free : Kind → Bool
is_free steering = false
is_free unsteering = true
is_free spanning = false

pub by_kind : (k : Kind) (name : ℕ) → T (kind_fits k name) → among name editable ≡ is_free k
by_kind steering name t = first_false (among name editable) (among name spans) t
by_kind unsteering name t = is_true (among name editable) t
by_kind spanning name t = apart spans (refl, (refl, (refl, tt))) name t

-- ---- the room after other bits

module _ (t : List ℕ) where
  front_held : (k : Kind) (i : Item) (at w v : ℕ) → T (kind_fits k i.name)
      → reread_front t (numbers (row k i at w v)) ≡ numbers (reread t (row k i at w v))
  front_held k i at w v h = ap chosen (by_kind k i.name h) ∙ go k
    where
      chosen : Bool → List ℤ
      chosen b = cond b (list.set (numbers (row k i at w v)) value_column (pos (value t at w))) (numbers (row k i at w v))

      go : (k : Kind) → cond (is_free k) (list.set (numbers (row k i at w v)) value_column (pos (value t at w))) (numbers (row k i at w v)) ≡ numbers (reread t (row k i at w v))
      go steering = refl
      go unsteering = refl
      go spanning = refl

  room_held : (tail : List ℤ) (rows : List Row) → KindsFit rows → reread_room t (length rows) (flatten rows ++ tail) ≡ flatten (map (reread t) rows) ++ tail
  unfolding flatten reread_room
  room_held tail [] fit = refl
  room_held tail (r ∷ rs) fit = ap₂ ◌++◌ (front_held r.kind r.item r.at r.width r.value fit.0) (room_held tail rs fit.2)

module _ (name : ℕ) (role : Role) where
  span_name : (k : Kind) → T (kind_fits k name) → T (role_fits k role) → T (span_role role) → T (among name spans)
  span_name steering t r u = absurd (never (span_role role) r u)
  span_name unsteering t r u = absurd (never (span_role role) r u)
  span_name spanning t r u = t

outside_held : (tail : List ℤ) (rows : List Row) (p : ℕ) → KindsFit rows → frame.OutsideEditable rows p → OutsideEditable (length rows) (flatten rows ++ tail) p
unfolding flatten
outside_held tail [] p fit out = tt
outside_held tail (r ∷ rs) p fit out = (
  λ u. out.0 (or_else (among r.item.name editable) _ _ (span_name r.item.name r.item.role r.kind fit.0 fit.1) u),
  outside_held tail rs p fit.2 out.1,
)

-- what no call writes
abbrev pub rest : Call → List ℤ
rest c = drop (length (listed c) * row_width) c.room

module _ (c d : Call) (ok : Accepted c) (e : frame.Edited c d) where
  pub rows_again : listed d ≡ map (reread (input d)) (listed c)
  rows_again = ap (λ r. r.rows) (edit_freely.rows c d ok e)

  pub room_again : (answer_to d).1 ≡ flatten (map (reread (input d)) (listed c)) ++ rest c
  room_again =
      (promised d refl).written
      ∙ ap (λ rows. flatten rows ++ drop (length rows * row_width) d.room) rows_again
      ∙ ap₂ (λ n room. flatten (map (reread (input d)) (listed c)) ++ drop (n * row_width) room) (length-map (listed c) (reread (input d))) (sym e.room)

module _ (c d : Call) (ok : Accepted c) (e : Edited c d) where
  fits : KindsFit (listed c)
  fits = rows_marked (input c) (room_for c)

  by_rows : frame.Edited c d
  by_rows =
      record {
        long = e.long;
        room = e.room;
        bits = λ p lt out.
            let kept = promised c refl in
            e.bits p (omega (arith, kept.bit))
            (subst (λ (n : ℕ). OutsideEditable n (answer_to c).1 p) (sym kept.counted)
            (subst (λ (room : List ℤ). OutsideEditable (length (listed c)) room p) (sym kept.written) (outside_held (rest c) (listed c) p fits out)));
      }

  room_is : (answer_to d).1 ≡ reread_room (input d) (row_count c) (answer_to c).1
  room_is =
      let kept = promised c refl in
      room_again c d ok by_rows
      ∙ sym (room_held (input d) (rest c) (listed c) fits)
      ∙ ap₂ (reread_room (input d)) (sym kept.counted) (sym kept.written)

pub edit_room_freely : EditFreely
edit_room_freely c d ok e = λ j. (edit_freely.answer c d ok (by_rows c d ok e) j, room_is c d ok e j)
