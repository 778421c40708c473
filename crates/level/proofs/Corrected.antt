-- A correction that is not refused writes into dialnorm's row, which lies between crc1 and crcrsv, and mends the frame. So what holds of a
-- mended frame holds of it. Before the end of the audio only the values of dialnorm and crc1 are other ones, and these steer nothing: the
-- frame is accepted as before. Assumes nothing.
use mathlib.Core.Bool.{Bool, true, false, cond, ◌&&◌}
use mathlib.Core.List.{List, [], ◌∷◌, ◌++◌}
use mathlib.Core.Path.{◌≡◌, refl, ap, sym, subst, ◌∙◌}
use Prim.Native.Nat.{ℕ, zero, suc, ◌+◌, ◌-◌, ◌*◌, ◌/◌, ◌^◌, ◌≤◌, ◌<◌}
use native.Mathlib.Nat.{mod-eq_of_lt}
use native.Mathlib.Omega.{arith}
use borrow.Author.Tests.{lt-ltb}
use lib.Dec.{T, leb, ltb}
use lib.IntN.{ℤ, pos}
use lib.ListN as list
use lib.ListN.{length, get_or, take, drop, length-append, length-drop, length-set, take-append-drop}
use lib.Seq.{sets, length-take-le, take_at, drop_at, drop-set-lt, drop-set-add, get_or-set_other, get_or-take, get_or-drop}
use Rattle.bits.specs.Bits.{bit_at, value}
use Rattle.bits.specs.Put.{put}
use Rattle.bits.proofs.Window.{value_lt}
use Rattle.bits.proofs.Writing.{put_count, put_drop}
use Rattle.syntax.specs.declared.Role.TheVariants.{Sync, Crc1}
use Rattle.syntax.specs.Grammar.{roled}
use Rattle.syntax.specs.Names as Name
use Rattle.syntax.specs.Names.{editable}
use Rattle.syntax.specs.Numbers.{row_width, numbers}
use Rattle.syntax.specs.Rows.{Tiles}
use Rattle.syntax.specs.Run.{Row, row, steering, unsteering}
use Rattle.syntax.proofs.Tiles.{tiles_le}
use Rattle.header.specs.Header.{programmes}
use Rattle.ac3.specs.Marked.{among}
use Rattle.ac3.specs.Promise.{Call, call, input, listed, answer_to, Accepted, Promised}
use Rattle.ac3.specs.Rooms.{natural, said, row_count, end_bit}
use Rattle.ac3.specs.Within.{Within}
use Rattle.ac3.proofs.Promise.{promised}
use Rattle.ac3.proofs.Rooms.{rooms_demand3}
use Rattle.ac3.proofs.Within.{kept_within}
use Rattle.rows.specs.Found.{First, opening}
use Rattle.rows.specs.Framed.{SameFrame}
use Rattle.rows.specs.Look.{name_column, is_name, named, first, first_where}
use Rattle.rows.proofs.Found.{looks_up}
use Rattle.rows.proofs.Framed.{rows_count}
use Rattle.rows.proofs.Opening.{opens}
use Rattle.edits.specs.Edits.{set, no_width}
use Rattle.edits.specs.Freely.{front_is_editable, held_row, set_in, Sets}
use Rattle.edits.proofs.OneField.{set_freely}
use Rattle.mend.specs.Changes as mend
use Rattle.mend.specs.Mend.{FirstIsZero, WholeIsZero, mended, after_mend}
use Rattle.mend.specs.Mends.{Field, Mended}
use Rattle.mend.proofs.Frames.{in_frame}
use Rattle.mend.proofs.Listing.{unchanged, four_changes}
use Rattle.mend.proofs.Mends.{mends, one_crc1, front}
use Rattle.level.specs.Level.{from_zero, words_of, check, refusal_for, dialnorm_of, dialnorm_width, position_column, position_in, levelled, left_by, correct, numbered, correct_to}
use Rattle.level.specs.Corrected.{left, answer_in, changes_in, capture_in, afterwards, level_row, level_at, frame_words, crc1_row, value_of_row, Corrected, CorrectsLevel, RefusesUntouched}
use Rattle.level.specs.Level.{Left}
use Rattle.level.specs.Refusals.{number_of}
use Rattle.level.specs.declared.outcome.Refusal.{Refusal}
use Rattle.std.specs.Prelude.{Result, Ok, Err}
use Rattle.level.proofs.Refusing.{Fits, fits, passes}
use Rattle.level.proofs.Where.{found, even_bytes}

-- ---- the first row of a name

module _ (name : ℕ) (r : Row) where
  first_named : (rows : List Row) (i : ℕ) → First name rows i r → r.item.name ≡ name
  first_named [] i f = absurd f
  first_named (x ∷ xs) zero f = f.1
  first_named (x ∷ xs) (suc i) f = first_named xs i f.1

  first_lt : (rows : List Row) (i : ℕ) → First name rows i r → i < length rows
  first_lt [] i f = absurd f
  first_lt (x ∷ xs) zero f = omega arith
  first_lt (x ∷ xs) (suc i) f = omega (arith, first_lt xs i f.1)

  -- it lies between the ends of the rows
  first_within : (rows : List Row) (i from to : ℕ) → Tiles from rows to → First name rows i r → (from ≤ r.at) × (r.at + r.width ≤ to)
  first_within [] i from to tiles f = absurd f
  first_within (x ∷ xs) zero from to tiles f =
      let at_x = ap (λ (y : Row). y.at) f.0 in
      let width-x = ap (λ (y : Row). y.width) f.0 in
      let rest = tiles_le xs (from + x.width) to tiles.1 in
      (omega (arith, at_x, tiles.0), omega (arith, at_x, width-x, tiles.0, rest))
  first_within (x ∷ xs) (suc i) from to tiles f =
      let later = first_within xs i (from + x.width) to tiles.1 f.1 in
      (omega (arith, later.0), later.1)

  -- from the third row on
  third_on : (x y : Row) (rest : List Row) (i to : ℕ) → ¬ (x.item.name ≡ name) → ¬ (y.item.name ≡ name) → Tiles 0 (x ∷ y ∷ rest) to → First name (x ∷ y ∷ rest) i r
      → 0 + x.width + y.width ≤ r.at
  third_on x y rest zero to not-x not-y tiles f = absurd (not-x (ap (λ (z : Row). z.item.name) f.0 ∙ f.1))
  third_on x y rest (suc zero) to not-x not-y tiles f = absurd (not-y (ap (λ (z : Row). z.item.name) f.1.0 ∙ f.1.1))
  third_on x y rest (suc (suc i)) to not-x not-y tiles f = (first_within rest i (0 + x.width + y.width) to tiles.1.1 f.1.1).0

  -- where it stands in the room, and what it says there
  module _ (c : Call) (i : ℕ) (f : First name (listed c) i r) where
    row_is : first (row_count c) name (answer_to c).1 ≡ i
    row_is = (looks_up c name).place ∙ (looks_up c name).index i r f

    row_inside : i < row_count c
    row_inside = omega (arith, (promised c refl).counted, first_lt (listed c) i f)

    position_is : position_in (row_count c) name (answer_to c).1 ≡ r.at
    unfolding position_in
    position_is =
        let room = (answer_to c).1 in
        ap (λ k. cond (ltb k (row_count c)) (said (k * row_width + position_column) room) 0) row_is
        ∙ ap (λ b. cond b (said (i * row_width + position_column) room) 0) (lt-ltb i (row_count c) row_inside)
        ∙ ap natural (sym (get_or-drop (i * row_width) room position_column (pos 0)) ∙ sym (get_or-take row_width (drop (i * row_width) room) position_column (pos 0) (omega arith))
        ∙ ap (λ l. get_or l position_column (pos 0)) ((looks_up c name).row_numbers i r f))

-- a row's value is not where its name and its position are
module _ (name : ℕ) (z : ℤ) where
  behind : (n j : ℕ) (l : List ℤ) → first_where (named name) n (drop row_width (list.set l (value_of_row j) z)) ≡ first_where (named name) n (drop row_width l)
      → first (suc n) name (list.set l (value_of_row j) z) ≡ first (suc n) name l
  unfolding first_where
  behind n j l later =
      let same = ap (is_name name) (get_or-set_other l (value_of_row j) name_column z (pos 0) (λ e. omega (arith, e))) in
      λ k. cond (leb row_width (length-set l (value_of_row j) z k) && same k) 0 (suc (later k))

  first_set : (n j : ℕ) (l : List ℤ) → first n name (list.set l (value_of_row j) z) ≡ first n name l
  unfolding first_where
  first_set zero j l = refl
  first_set (suc n) zero l = behind n 0 l (ap (first_where (named name) n) (drop-set-lt row_width l (value_of_row 0) z (omega arith)))
  first_set (suc n) (suc j) l =
      let next : value_of_row (suc j) ≡ row_width + value_of_row j = omega arith in
      behind n (suc j) l
      (ap (λ m. first_where (named name) n (drop row_width (list.set l m z))) next ∙ ap (first_where (named name) n) (drop-set-add row_width l (value_of_row j) z) ∙ first_set n j (drop row_width l))

  position_set : (n j : ℕ) (l : List ℤ) → position_in n name (list.set l (value_of_row j) z) ≡ position_in n name l
  unfolding position_in
  position_set n j l =
      ap (λ i. cond (ltb i n) (said (i * row_width + position_column) (list.set l (value_of_row j) z)) 0) (first_set n j l)
      ∙ ap (λ x. cond (ltb (first n name l) n) (natural x) 0)
      (get_or-set_other l (value_of_row j) (first n name l * row_width + position_column) z (pos 0) (λ e. omega (arith, e)))

-- ---- what was set

written_so : (capture : List ℕ) (place position width v : ℕ) → (set capture place position width v).0 ≡ 0 → (set capture place position width v).1 ≡ put capture (place * 8 + position) width v
unfolding set
written_so capture place position width v = go (no_width width) (ltb (length capture * 8) (place * 8 + position + width)) (leb (2 ^ width) v)
  where
    outcome : Bool → Bool → Bool → ℕ × List ℕ
    outcome a b c = cond a (57, capture) (cond b (58, capture) (cond c (59, capture) (0, put capture (place * 8 + position) width v)))

    go : (a b c : Bool) → (outcome a b c).0 ≡ 0 → (outcome a b c).1 ≡ put capture (place * 8 + position) width v
    go true b c e = absurd (omega (arith, e))
    go false true c e = absurd (omega (arith, e))
    go false false true e = absurd (omega (arith, e))
    go false false false e = refl

set_input : (c : Call) (i v : ℕ) {at w : ℕ} → said 5 (held_row c i) ≡ at → said 6 (held_row c i) ≡ w → (set_in c i v).0 ≡ 0 → drop c.place (set_in c i v).1 ≡ put (input c) at w v
set_input c i v position width done =
    ap (drop c.place) (written_so c.capture c.place (said 5 (held_row c i)) (said 6 (held_row c i)) v done)
    ∙ put_drop c.capture c.place (said 5 (held_row c i)) (said 6 (held_row c i)) v ∙ (λ j. put (input c) (position j) (width j) v)

dialnorm_editable : (p : ℕ) → p < 2 → T (among (Name.dialnorm + 8 * p) editable)
dialnorm_editable zero lt = tt
dialnorm_editable (suc zero) lt = tt
dialnorm_editable (suc (suc p)) lt = absurd (omega (arith, lt))

-- the first two rows of a frame
abbrev sync_of : List ℕ → Row
sync_of s = row steering (roled Sync Name.syncword) 0 16 (value s 0 16)

abbrev crc1_of : List ℕ → Row
crc1_of s = row unsteering (roled Crc1 Name.crc1) 16 16 (value s 16 16)

-- ---- a correction that is not refused

module _ (c : Call) (programme level : ℕ) (changes : List ℤ) (free : check (answer_to c).0 programme level ≡ Ok tt) where
  fit : Fits (answer_to c).0 programme level
  fit = fits (answer_to c).0 programme level free

  ok : Accepted c
  ok = fit.accepted

  kept : Promised c (answer_to c).0 (answer_to c).1
  kept = promised c refl

  lies : Within c (answer_to c).0 (answer_to c).1
  lies = kept_within c (answer_to c).0 (answer_to c).1 kept

  abbrev name : ℕ
  name = dialnorm_of programme

  one_of_two : from_zero programme < 2
  one_of_two = omega (arith, fit.counted, fit.few)

  abbrev words : ℕ
  words = frame_words c

  abbrev at : ℕ
  at = level_at c programme

  abbrev at_row : ℕ
  at_row = level_row c programme

  -- dialnorm's row
  abbrev r : Row
  r = (found c ok (from_zero programme) one_of_two fit.present).1

  is_first : First name (listed c) at_row r
  is_first =
      let there = found c ok (from_zero programme) one_of_two fit.present in
      subst (λ i. First name (listed c) i r) (sym (row_is name r c there.0 there.2)) there.2

  width_is : r.width ≡ dialnorm_width
  width_is = (found c ok (from_zero programme) one_of_two fit.present).3

  at_is : at ≡ r.at
  at_is = position_is name r c at_row is_first

  -- after crc1, since no row before is dialnorm's
  after_crc1 : 32 ≤ r.at
  after_crc1 =
      let all = opens c ok in
      let tiled = subst (λ rows. Tiles 0 rows (answer_to c).0.bit) all.1 (kept.tiles ok) in
      third_on name r (sync_of (input c)) (crc1_of (input c)) (drop 2 (opening (input c)) ++ all.0) at_row (answer_to c).0.bit (λ e. omega (arith, e)) (λ e. omega (arith, e))
      tiled (subst (λ rows. First name rows at_row r) all.1 is_first)

  -- before crcrsv, since the audio ends in time
  field : Field words (input c) at dialnorm_width
  field =
      let ends = (first_within name r (listed c) at_row 0 (answer_to c).0.bit (kept.tiles ok) is_first).1 in
      record {
        whole = omega (arith, lies.frame ok);
        after = omega (arith, at_is, after_crc1);
        before = omega (arith, at_is, width_is, ends, kept.audio_end ok, fit.in_time);
      }

  some_words : 4 ≤ words
  some_words = omega (arith, field.after, field.before)

  abbrev new : List ℕ
  new = mended words (input c) at dialnorm_width level

  good : Mended words (input c) at dialnorm_width level
  good = mends words (input c) at dialnorm_width level field

  small : level < 2 ^ dialnorm_width
  small = omega (arith, fit.most)

  in_capture : c.place ≤ length c.capture
  in_capture = omega (arith, field.whole, some_words, length-drop c.place c.capture)

  left_is : left c programme level changes ≡ numbered (levelled c (answer_to c) programme level changes)
  unfolding correct_to correct
  left_is = ap (λ r. numbered (left_by c (answer_to c) programme level changes r)) free

  after_is : after_mend words (input c) at dialnorm_width level ≡ new
  after_is = in_frame words (input c) at dialnorm_width level some_words field.whole

  abbrev d : Call
  d = afterwards c programme level changes

  capture_is : d.capture ≡ take c.place c.capture ++ new
  capture_is = ap capture_in left_is ∙ ap (λ l. take c.place c.capture ++ l) after_is

  front_long : length (take c.place c.capture) ≡ c.place
  front_long = length-take-le c.place c.capture in_capture

  input_is : input d ≡ new
  input_is = ap (drop c.place) capture_is ∙ drop_at (take c.place c.capture) new c.place front_long

  as_long : length (input d) ≡ length (input c)
  as_long = ap length input_is ∙ good.count

  -- ---- the parse afterwards

  abbrev crc1 : ℕ
  crc1 = value (input d) 16 16

  held : held_row c at_row ≡ numbers r
  held = (looks_up c name).row_numbers at_row r is_first

  level_set : Sets c at_row level
  level_set =
      set_freely c at_row level ok (row_inside name r c at_row is_first)
      (subst (λ (l : List ℤ). T (front_is_editable l)) (sym held)
      (subst (λ n. T (among n editable)) (sym (first_named name r (listed c) at_row is_first)) (dialnorm_editable (from_zero programme) one_of_two)))
      (subst (λ (l : List ℤ). level < 2 ^ said 6 l) (sym held) (subst (λ w. level < 2 ^ w) (sym width_is) small))

  abbrev c1 : Call
  c1 = call (set_in c at_row level).1 c.place c.room

  ok1 : Accepted c1
  ok1 = ap (λ x. x.0.refusal) level_set.answer ∙ ok

  input1 : input c1 ≡ put (input c) at dialnorm_width level
  input1 = set_input c at_row level (ap (said 5) held ∙ sym at_is) (ap (said 6) held ∙ width_is) level_set.done

  crc1_first : First Name.crc1 (listed c1) crc1_row (crc1_of (input c1))
  crc1_first = subst (λ rows. First Name.crc1 rows crc1_row (crc1_of (input c1))) (sym (opens c1 ok1).1) ((λ e. omega (arith, e)), (refl, refl))

  held1 : held_row c1 crc1_row ≡ numbers (crc1_of (input c1))
  held1 = (looks_up c1 Name.crc1).row_numbers crc1_row (crc1_of (input c1)) crc1_first

  crc1_set : Sets c1 crc1_row crc1
  crc1_set =
      set_freely c1 crc1_row crc1 ok1 (row_inside Name.crc1 (crc1_of (input c1)) c1 crc1_row crc1_first)
      (subst (λ (l : List ℤ). T (front_is_editable l)) (sym held1) tt) (subst (λ (l : List ℤ). crc1 < 2 ^ said 6 l) (sym held1) (value_lt (input d) 16 16))

  abbrev c2 : Call
  c2 = call (set_in c1 crc1_row crc1).1 c.place c.room

  answer2 : answer_to c2 ≡ ((answer_to c).0, list.set (list.set (answer_to c).1 (value_of_row at_row) (pos level)) (value_of_row crc1_row) (pos crc1))
  answer2 = crc1_set.answer ∙ ap (λ x. (x.0, list.set x.1 (value_of_row crc1_row) (pos crc1))) level_set.answer

  input2 : input c2 ≡ put (put (input c) at dialnorm_width level) 16 16 crc1
  input2 = set_input c1 crc1_row crc1 (ap (said 5) held1) (ap (said 6) held1) crc1_set.done ∙ ap (λ s. put s 16 16 crc1) input1

  alike : (p : ℕ) → p < end_bit c2 → bit_at (input c2) p ≡ bit_at (input d) p
  alike p lt =
      let ends : p < words * 16 - 17 = omega (arith, lt, ap (λ x. x.0.bit) answer2, kept.audio_end ok, fit.in_time) in
      ap (λ s. bit_at s p) input2 ∙ ap (λ s. bit_at (put (put (input c) at dialnorm_width level) 16 16 (value s 16 16)) p) input_is
      ∙ sym (front words (input c) at dialnorm_width level field p ends) ∙ ap (λ s. bit_at s p) (sym input_is)

  answer_after : answer_to d ≡ ((answer_to c).0, list.set (list.set (answer_to c).1 (value_of_row at_row) (pos level)) (value_of_row crc1_row) (pos crc1))
  answer_after =
      let long2 : length (input c2) ≡ length (input d)
      = ap length input2 ∙ put_count (put (input c) at dialnorm_width level) 16 16 crc1 ∙ put_count (input c) at dialnorm_width level ∙ sym as_long in
      rooms_demand3.rooms_same c2 d (ap (λ x. x.0.refusal) answer2 ∙ ok) long2 refl (λ p lt out. alike p lt) ∙ answer2

  -- ---- the list

  listed_so : mend.changes name words (input c) at dialnorm_width level ≡ mend.changes_of name (mend.fields_of words (input c) at dialnorm_width) (mend.fields_of words (input d) at dialnorm_width)
  unfolding mend.changes
  listed_so = ap (λ t. mend.changes_of name (mend.fields_of words (input c) at dialnorm_width) (mend.fields_of words t at dialnorm_width)) (after_is ∙ sym input_is)

  counted_so : length (mend.changes name words (input c) at dialnorm_width level) / 3 * 3 ≡ length (mend.changes_of name (mend.fields_of words (input c) at dialnorm_width) (mend.fields_of words (input d) at dialnorm_width))
  counted_so =
      let all = four_changes name (mend.fields_of words (input c) at dialnorm_width) (mend.fields_of words (input d) at dialnorm_width) in
      ap (λ l. length l / 3 * 3) listed_so ∙ omega (arith, all.2)

  -- ---- a second identical call

  module _ (room noted : List ℤ) (same_room : length room ≡ length c.room) where
    abbrev e : Call
    e = call d.capture c.place room

    same : SameFrame d e
    same = rows_count d e refl (ap (λ n. n / row_width) same_room)

    answer_same : (answer_to e).0 ≡ (answer_to c).0
    answer_same = same.answer ∙ ap (λ x. x.0) answer_after

    free_again : check (answer_to e).0 programme level ≡ Ok tt
    free_again = ap (λ a. check a programme level) answer_same ∙ free

    -- dialnorm is where it was: its row's position is no value
    at_again : level_at e programme ≡ at
    at_again =
        let okd : Accepted d = ap (λ x. x.0.refusal) answer_after ∙ ok in
        let present : from_zero programme < programmes (answer_to d).0.summary.header.acmod
        = subst (λ x. from_zero programme < programmes x.0.summary.header.acmod) (sym answer_after) fit.present in
        let there = found d okd (from_zero programme) one_of_two present in
        position_is name there.1 e there.0 (subst (λ rows. First name rows there.0 there.1) (sym same.rows) there.2)
        ∙ sym (position_is name there.1 d there.0 there.2)
        ∙ ap (λ x. position_in x.0.rows name x.1) answer_after
        ∙ position_set name (pos crc1) (row_count c) crc1_row (list.set (answer_to c).1 (value_of_row at_row) (pos level))
        ∙ position_set name (pos level) (row_count c) at_row (answer_to c).1

    still : after_mend words (input d) at dialnorm_width level ≡ input d
    still =
        ap (λ s. after_mend words s at dialnorm_width level) input_is
        ∙ in_frame words new at dialnorm_width level some_words (omega (arith, good.count, field.whole)) ∙ good.again ∙ sym input_is

    as_before : after_mend (words_of (answer_to e).0) (input d) (level_at e programme) dialnorm_width level ≡ input d
    as_before = (λ j. after_mend (words_of (answer_same j)) (input d) (at_again j) dialnorm_width level) ∙ still

    nothing : mend.changes name (words_of (answer_to e).0) (input d) (level_at e programme) dialnorm_width level ≡ []
    nothing = unchanged name (words_of (answer_to e).0) (input d) (level_at e programme) dialnorm_width level as_before

    second_is : left e programme level noted ≡ numbered (levelled e (answer_to e) programme level noted)
    unfolding correct_to correct
    second_is = ap (λ r. numbered (left_by e (answer_to e) programme level noted r)) free_again

    again : left e programme level noted ≡ (record { refusal = 0; rows = row_count c; changes = 0 }, (noted, ((answer_to e).1, d.capture)))
    again =
        let capture = ap (λ l. take c.place d.capture ++ l) as_before ∙ take-append-drop c.place d.capture in
        second_is
        ∙ (λ j. (record { refusal = 0; rows = (answer_same j).rows; changes = length (nothing j) / 3 }, (sets noted 0 (nothing j), ((answer_to e).1, capture j))))

  corrected : Corrected c programme level changes d words at
  corrected =
      record {
        whole_words = omega (arith, (even_bytes c ok).1);
        written = ap (λ s. value s at dialnorm_width) input_is ∙ good.written ∙ mod-eq_of_lt small;
        others = λ p out. ap (λ s. bit_at s p) input_is ∙ good.others p out;
        before = ap (take c.place) capture_is ∙ take_at (take c.place c.capture) new c.place front_long;
        long = ap length capture_is ∙ omega (arith, length-append (take c.place c.capture) new, front_long, good.count, length-drop c.place c.capture, in_capture);
        accepted = answer_after;
        first_zero = subst (FirstIsZero words) (sym input_is) good.first;
        whole_zero = subst (WholeIsZero words) (sym input_is) good.whole;
        one_crc1 = λ w lt. one_crc1 words (input d) w some_words (omega (arith, as_long, field.whole)) (subst (FirstIsZero words) (sym input_is) good.first) lt;
        no_sync = λ is. good.no_sync (ap (λ s. value s ((words - 1) * 16) 16) (sym input_is) ∙ is);
        listed = ap changes_in left_is ∙ ap (sets changes 0) listed_so;
        counted = ap (λ x. (answer_in x).changes * 3) left_is ∙ counted_so;
        again = again;
      }

-- ---- the statements

module _ (c : Call) (programme level : ℕ) (changes : List ℤ) where
  abbrev after : Result (Unit {0}) Refusal → Left
  after r = numbered (left_by c (answer_to c) programme level changes r)

  told : (r : Result (Unit {0}) Refusal) → (answer_in (after r)).refusal ≡ number_of r
  told (Ok fine) = refl
  told (Err refusal) = refl

  refusal_is : (answer_in (left c programme level changes)).refusal ≡ refusal_for (answer_to c).0 programme level
  unfolding correct_to correct
  refusal_is = told (check (answer_to c).0 programme level)

  as_it_was : (r : Result (Unit {0}) Refusal) → ¬ ((answer_in (after r)).refusal ≡ 0) → (capture_in (after r) ≡ c.capture) × (changes_in (after r) ≡ changes)
  as_it_was (Ok fine) refused = absurd (refused refl)
  as_it_was (Err refusal) refused = (refl, refl)

  left_as_it_was : ¬ ((answer_in (left c programme level changes)).refusal ≡ 0) → (capture_in (left c programme level changes) ≡ c.capture) × (changes_in (left c programme level changes) ≡ changes)
  unfolding correct_to correct
  left_as_it_was refused = as_it_was (check (answer_to c).0 programme level) refused

pub corrects_level : CorrectsLevel
corrects_level c programme level changes free =
    corrected c programme level changes (passes (answer_to c).0 programme level (sym (refusal_is c programme level changes) ∙ free))

pub refuses_untouched : RefusesUntouched
refuses_untouched = left_as_it_was
