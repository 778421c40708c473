-- What a walk that was filled in answers: with room for all it is the answer to the call, and with no room it counts. Assumes nothing.
use mathlib.Core.Bool.{Bool, true, false, cond, ◌&&◌}
use mathlib.Core.List.{List, [], ◌∷◌}
use mathlib.Core.Path.{◌≡◌, refl, sym, ap, ◌∙◌}
use Rattle.std.specs.Prelude.{Result, Ok, Err}
use Prim.Native.Nat.{ℕ, ◌+◌, ◌-◌, ◌*◌, ◌/◌, ◌≤◌, ◌<◌}
use native.Mathlib.Omega.{arith}
use borrow.Author.Tests.{lt-ltb, le-ltb, le-leb, lt-leb, eqb-true, eqb-false, eq-eqb, ne_eqb}
use lib.Dec.{eqb}
use lib.IntN.{ℤ}
use lib.ListN.{length}
use lib.Seq.{sets, length-sets}
use Rattle.naturals.proofs.Stored.{sets_append}
use Rattle.syntax.specs.Numbers.{row_width}
use Rattle.ac3.specs.RowBound.{most_rows}
use Rattle.rows.specs.Framed.{shortest}
use Rattle.index.specs.Filled.{put, puts, counts, filled}
use Rattle.index.specs.Index.{entry_width, numbers, numbers_of, room_in, no_room, Walk, walk_from, Start, start, begin, refused, extended, answered_by, indexed}
use Rattle.index.specs.Refusals.{number, Answer, as_numbers}
use Rattle.index.specs.declared.outcome.Entry.{Entry}
use Rattle.index.specs.declared.outcome.Refusal.{Refusal}
use Rattle.index.specs.declared.outcome.Refusal.TheVariants.{NoFields, NoRoom, NotThere}
use Rattle.index.proofs.Walks.{counted, unstopped, stop_number, again}

-- ---- entries that are written

puts_all : (es : List Entry) (index : List ℕ) (entries : ℕ) → entries + length es ≤ room_in index → puts index entries es ≡ sets index (entries * entry_width) (numbers_of es)
unfolding puts put numbers_of
puts_all [] index entries h = refl
puts_all (e ∷ es) index entries h =
    let at = entries * entry_width in
    let one = sets index at (numbers e) in
    rw (lt-ltb entries (room_in index) (omega arith))
    (puts_all es one (entries + 1) (omega (arith, length-sets index at (numbers e)))
    ∙ sym (sets_append (numbers e) (numbers_of es) index at ((entries + 1) * entry_width) (omega arith)))

puts_none : (es : List Entry) (index : List ℕ) (entries : ℕ) → room_in index ≤ entries → puts index entries es ≡ index
unfolding puts put
puts_none [] index entries h = refl
puts_none (e ∷ es) index entries h = rw (le-ltb entries (room_in index) h) (puts_none es index (entries + 1) (omega arith))

-- ---- the three answers

-- what is told of a call with so many entries, beside the index and the field room
abbrev shown : (entries : ℕ) → (Result ℕ Refusal × List ℕ) × List ℤ → (Answer × List ℕ) × List ℤ
shown entries x = ((as_numbers entries x.0.0, x.0.1), x.1)

-- no refusal has the number that tells of none
pub not_none : (r : Refusal) → ¬ (number r ≡ 0)
not_none NoFields z = absurd (omega (arith, z))
not_none NoRoom z = absurd (omega (arith, z))
not_none NotThere z = absurd (omega (arith, z))

module _ (index : List ℕ) (entries : ℕ) (w : Walk) where
  stopped : ¬ (w.refusal ≡ 0) → ((record { refusal = w.refusal; entries = entries }, index), w.room) ≡ answered_by index entries w
  unfolding extended
  stopped not-zero = rw (ne_eqb w.refusal 0 not-zero)

  too_many : w.refusal ≡ 0 → room_in index < entries + length w.entries → ((record { refusal = no_room; entries = entries }, index), w.room) ≡ answered_by index entries w
  unfolding extended
  too_many going many = rw (eq-eqb w.refusal 0 going, lt-leb (entries + length w.entries) (room_in index) many)

  all_fit : w.refusal ≡ 0 → entries + length w.entries ≤ room_in index → shown entries (filled index entries w) ≡ answered_by index entries w
  unfolding extended filled
  all_fit going fit =
      (λ i. ((as_numbers entries (cond (eqb (going i) 0) (Ok (entries + length w.entries)) (Err NoFields)), puts_all w.entries index entries fit i), w.room))
      ∙ rw (eq-eqb w.refusal 0 going, le-leb (entries + length w.entries) (room_in index) fit)

-- ---- the first walk counts, and the second finds what it found

pub both_true : (a b : Bool) → a && b ≡ true → (a ≡ true) × (b ≡ true)
both_true true b e = (refl, e)
both_true false b e = let z : ◌≡◌ {A = ℕ} 0 1 = cc in absurd (omega arith)

module _ (capture : List ℕ) (rows : List ℤ) (index : List ℕ) (entries from : ℕ) where
  abbrev w : Walk
  w = walk_from capture from rows

  pub ample : from ≤ length capture → entries ≤ room_in index
      → most_rows ≤ length rows / row_width → (length capture - from) / shortest ≤ room_in index - entries
      → {told : (Result ℕ Refusal × List ℕ) × List ℤ} → told ≡ filled index entries w → shown entries told ≡ answered_by index entries w
  ample inside old fields room is =
      ap (shown entries) is
      ∙ all_fit index entries w (unstopped capture (length capture) from rows fields) (omega (arith, counted capture (length capture) from rows inside, room))

  -- the number that is told of a walk is its own
  number_is : (n : ℕ) → (as_numbers entries (counts n w)).refusal ≡ w.refusal
  number_is n = go (eqb w.refusal 0) refl
    where
      go : (b : Bool) → eqb w.refusal 0 ≡ b → (as_numbers entries (cond b (Ok (n + length w.entries)) (Err NoFields))).refusal ≡ w.refusal
      go true e = sym (eqb-true w.refusal 0 e)
      go false e = sym (stop_number capture (length capture) from rows (eqb-false w.refusal 0 e))

  module _ {told : Result ℕ Refusal} {index' : List ℕ} {rows' : List ℤ} (is : ((told, index'), rows') ≡ filled index (room_in index) w) where
    told_is : told ≡ counts (room_in index) w
    unfolding filled
    told_is = ap (λ x. x.0.0) is

    index_is : index' ≡ index
    unfolding filled
    index_is = ap (λ x. x.0.1) is ∙ puts_none w.entries index (room_in index) (omega arith)

    rows_are : rows' ≡ w.room
    unfolding filled
    rows_are = ap (λ x. x.1) is

    pub no_fields_lem : {refusal : Refusal} → told ≡ Err refusal → shown entries ((Err refusal, index'), rows') ≡ answered_by index entries w
    no_fields_lem {refusal} err =
        let which : number refusal ≡ w.refusal = ap (λ x. (as_numbers entries x).refusal) (sym err ∙ told_is) ∙ number_is (room_in index) in
        (λ i. ((record { refusal = which i; entries = entries }, index_is i), rows_are i))
        ∙ stopped index entries w (λ z. not_none refusal (which ∙ z))

    module _ {met : ℕ} (ok : told ≡ Ok met) where
      going : w.refusal ≡ 0
      going = sym (ap (λ x. (as_numbers entries x).refusal) (sym ok ∙ told_is) ∙ number_is (room_in index))

      pub entries_are : met ≡ room_in index + length w.entries
      entries_are =
          ap (λ x. (as_numbers 0 x).entries) (sym ok ∙ told_is)
          ∙ ap (λ n. (as_numbers 0 (cond (eqb n 0) (Ok (room_in index + length w.entries)) (Err NoFields))).entries) going

      pub no_room_lem : room_in index - entries < met - room_in index → shown entries ((Err NoRoom, index'), rows') ≡ answered_by index entries w
      no_room_lem many =
          (λ i. ((record { refusal = no_room; entries = entries }, index_is i), rows_are i))
          ∙ too_many index entries w going (omega (arith, entries_are))

      pub second : entries ≤ room_in index → met - room_in index ≤ room_in index - entries
          → {again : (Result ℕ Refusal × List ℕ) × List ℤ} → again ≡ filled index' entries (walk_from capture from rows') → shown entries again ≡ answered_by index entries w
      second old fit twice =
          ap (shown entries) (twice
          ∙ (λ i. filled (index_is i) entries (walk_from capture from (rows_are i)))
          ∙ ap (filled index entries) (again capture (length capture) from rows))
          ∙ all_fit index entries w going (omega (arith, entries_are))

-- ---- the whole call

module _ (capture : List ℕ) (rows : List ℤ) (index : List ℕ) (entries : ℕ) {refusal place : ℕ} {rows' : List ℤ}
    (begun : start refusal place rows' ≡ begin capture rows index entries) where
  abbrev answer_of : Start → (Answer × List ℕ) × List ℤ
  answer_of s = cond (eqb s.refusal 0) (answered_by index entries (walk_from capture s.place s.room)) (refused s.refusal entries index, s.room)

  pub not_begun : ¬ (refusal ≡ 0) → ((record { refusal = refusal; entries = entries }, index), rows') ≡ indexed capture rows index entries
  unfolding indexed
  not_begun not-zero =
      sym (ap (λ b. cond b (answered_by index entries (walk_from capture place rows')) (refused refusal entries index, rows')) (ne_eqb refusal 0 not-zero)) ∙ ap answer_of begun

  pub walked : refusal ≡ 0 → {told : (Answer × List ℕ) × List ℤ} → told ≡ answered_by index entries (walk_from capture place rows') → told ≡ indexed capture rows index entries
  unfolding indexed
  walked going is =
      is ∙ sym (ap (λ b. cond b (answered_by index entries (walk_from capture place rows')) (refused refusal entries index, rows')) (eq-eqb refusal 0 going)) ∙ ap answer_of begun
