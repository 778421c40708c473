-- A frame's rows in a room of zeros, offered over a run, are the definition's records: no more rows are written than there is room for, so
-- all of them are offered; and where more records are lent than a frame has rows, more room would change nothing. Assumes nothing.
use mathlib.Core.Bool.{Bool, true, false}
use mathlib.Core.List.{List, [], ◌∷◌, ◌++◌, map}
use mathlib.Core.Path.{◌≡◌, refl, sym, ap, subst, ◌∙◌}
use Prim.Native.Nat.{ℕ, zero, suc, ◌*◌, ◌/◌, ◌≤◌, min}
use native.Mathlib.Omega.{arith}
use lib.Dec.{ltb}
use lib.IntN.{ℤ, pos}
use lib.ListN.{length, take, drop, replicate, length-replicate}
use borrow.Author.Tests.{ltb-true, ltb-false}
use Rattle.syntax.specs.Numbers.{row_width}
use Rattle.syntax.specs.Place.{flatten}
use Rattle.syntax.specs.Run.{Row, start}
use Rattle.syntax.proofs.Agreement.{rows_fit}
use Rattle.ac3.specs.Frame.{syncframe, answer}
use Rattle.ac3.specs.Promise.{Call, input, room_for, listed, answer_to}
use Rattle.ac3.specs.MoreRoom.{SameAnswer}
use Rattle.ac3.specs.RowBound.{most_rows}
use Rattle.ac3.specs.declared.Answer.{Answer}
use Rattle.ac3.proofs.MoreRoom.{more_room}
use Rattle.ac3.proofs.Promise.{promised}
use Rattle.fields.specs.Fields.{field_at, record_of, filled, fitting, offered, answer_within, call_for, parsed}
use Rattle.fields.specs.declared.Field.{Field}
use Rattle.fields.proofs.Filled.{filled_listed}

take_replicate : (k n : ℕ) (z : ℤ) → k ≤ n → take k (replicate n z) ≡ replicate k z
take_replicate zero n z h = refl
take_replicate (suc k) zero z h = absurd (omega (arith, h))
take_replicate (suc k) (suc n) z h = ap (λ (l : List ℤ). z ∷ l) (take_replicate k n z (omega (arith, h)))

append_assoc : {A : Type 0} (a b c : List A) → (a ++ b) ++ c ≡ a ++ (b ++ c)
append_assoc [] b c = refl
append_assoc (x ∷ a) b c = ap (λ l. x ∷ l) (append_assoc a b c)

-- the definition's list has no more rows than there is room for
listed_fits : (c : Call) → length (listed c) ≤ room_for c
listed_fits c = rows_fit (input c) syncframe (start (length (input c)) (room_for c))

-- room for as many rows as records are lent, up to the most that a frame has, is as good as room for all of them
same_call : (capture : List ℕ) (place records : ℕ) → SameAnswer (call_for capture place records) (call_for capture place (min records most_rows))
same_call capture place records = go (ltb most_rows records) refl
  where
    few : Call
    few = call_for capture place (min records most_rows)

    many : List ℤ
    many = replicate (records * row_width) (pos 0)

    room_of : (n : ℕ) → length (replicate (n * row_width) (pos 0)) / row_width ≡ n
    room_of n = omega (arith, length-replicate (n * row_width) (pos 0))

    go : (b : Bool) → ltb most_rows records ≡ b → SameAnswer (call_for capture place records) few
    go true e =
        let more = ltb-true most_rows records e in
        more_room.enough few many (omega (arith, room_of (min records most_rows))) (omega (arith, room_of records))
    go false e =
        let all : records ≡ min records most_rows = let le = ltb-false most_rows records e in omega arith in
        subst (λ n. SameAnswer (call_for capture place records) (call_for capture place n)) all (record { answer = refl; list = refl; rows = refl })

module _ (capture : List ℕ) (place : ℕ) (run : List Field) (rows after : List ℤ) (zeros : rows ≡ replicate (most_rows * row_width) (pos 0)) (same_length : length after ≡ length rows) where
  -- the rows that may be used, and the call that uses them
  abbrev n : ℕ
  n = min (length run) (length rows / row_width)

  abbrev m : ℕ
  m = min (length run) most_rows

  abbrev c : Call
  c = call_for capture place m

  long : length rows ≡ most_rows * row_width
  long = ap length zeros ∙ length-replicate (most_rows * row_width) (pos 0)

  n_is : n ≡ m
  n_is = omega (arith, long)

  front : take (n * row_width) rows ≡ c.room
  front =
      ap (take (n * row_width)) zeros
      ∙ take_replicate (n * row_width) (most_rows * row_width) (pos 0) (omega (arith, n_is))
      ∙ ap (λ (k : ℕ). replicate (k * row_width) (pos 0)) n_is

  few : length (listed c) ≤ m
  few = omega (arith, listed_fits c, length-replicate (m * row_width) (pos 0))

  -- what stands in the room behind the rows
  abbrev behind : List ℤ
  behind = drop (length (listed c) * row_width) c.room ++ drop (n * row_width) rows

  pub parsed_is : {a : Answer} {k : ℕ} {fields : List Field}
      → (a, after) ≡ answer_within n capture place rows → (k, fields) ≡ offered after a.rows run → (a, fields) ≡ parsed capture place run
  parsed_is {a} {k} {fields} said told =
      let there = said ∙ ap (λ (room : List ℤ). let t = answer capture place room in (t.0, t.1 ++ drop (n * row_width) rows)) front in
      let kept = promised c {a = (answer_to c).0} {after = (answer_to c).1} refl in
      let same : a ≡ (answer_to c).0 = ap (λ x. x.0) there in
      let count : a.rows ≡ length (listed c) = ap (λ x. x.rows) same ∙ kept.counted in
      let room : after ≡ flatten (listed c) ++ behind =
      ap (λ x. x.1) there ∙ ap (λ (l : List ℤ). l ++ drop (n * row_width) rows) kept.written ∙ append_assoc (flatten (listed c)) _ _ in
      let all : fitting (length after) a.rows (length run) ≡ length (listed c) = omega (arith, count, same_length, long, few) in
      let offers : fields ≡ map record_of (listed c) ++ drop (length (listed c)) run =
      ap (λ x. x.1) told
      ∙ ap (λ (i : ℕ). filled (field_at after) i run) all
      ∙ ap (λ (l : List ℤ). filled (field_at l) (length (listed c)) run) room
      ∙ filled_listed (listed c) behind run (omega (arith, few)) in
      let whole = same_call capture place (length run) in
      λ j. ((same ∙ sym whole.answer) j, (offers ∙ ap (λ (l : List Row). map record_of l ++ drop (length l) run) (sym whole.list)) j)
