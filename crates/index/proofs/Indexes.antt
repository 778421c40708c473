-- What holds of every call: its answer is one of four, and each is looked at by itself. Assumes nothing.
use mathlib.Core.Bool.{Bool, true, false, cond, ◌&&◌}
use mathlib.Core.List.{List, ◌++◌, append_assoc}
use mathlib.Core.Path.{◌≡◌, refl, sym, ap, subst, ◌∙◌}
use Prim.Native.Nat.{ℕ, zero, suc, ◌+◌, ◌-◌, ◌*◌, ◌/◌, ◌≤◌, ◌<◌}
use native.Mathlib.Decide.{dec_le}
use native.Mathlib.Omega.{arith}
use borrow.Author.Tests.{eqb-true, eqb-false, ltb-true, leb-true}
use lib.Dec.{eqb, leb, ltb}
use lib.IntN.{ℤ}
use lib.ListN.{length, take, drop, length-append}
use lib.Seq.{sets, sets-eq, length-sets, length-take-le, take_at, drop_at}
use Rattle.ac3.specs.Promise.{Call, call, answer_to}
use Rattle.ac3.specs.RowBound.{most_rows}
use Rattle.syntax.specs.Numbers.{row_width}
use Rattle.salvage.specs.Walk.{no_fields}
use Rattle.salvage.proofs.Parsed.{same_room}
use Rattle.index.specs.Index.{entry_width, numbers_of, entry_of, entry_in, same_entry, Walk, walk_from, room_in, not_there, no_room, Start, start, ends_at, after, begin, refused, entered, extended, answered_by, indexed}
use Rattle.index.specs.Indexes.{is_number, Holds, Indexes}
use Rattle.index.specs.Refusals.{Answer}
use Rattle.index.specs.declared.outcome.Entry.{Entry}
use Rattle.index.proofs.Entries.{Every, every_at, Is, right, all_are, moved, unmoved, length_numbers, same_numbers}
use Rattle.index.proofs.Walks.{room_long, unstopped, stop_number}

-- ---- where the walk begins

module _ (capture : List ℕ) (rows : List ℤ) (index : List ℕ) where
  record Begun (entries : ℕ) (s : Start) : Type 0 where
    pub numbered : ¬ (s.refusal ≡ 0) → s.refusal ≡ not_there
    pub room : s.refusal ≡ 0 → entries ≤ room_in index
    pub last : s.refusal ≡ 0 → (n : ℕ) → entries ≡ suc n → Is capture rows (entry_in index n)
    pub long : length s.room ≡ length rows

  none : (entries : ℕ) (room : List ℤ) → length room ≡ length rows → Begun entries (start not_there 0 room)
  none entries room long = record { numbered = λ _. refl; room = λ z. absurd (omega arith); last = λ z. absurd (omega arith); long = long }

  begun : (entries : ℕ) → Begun entries (begin capture rows index entries)
  unfolding begin
  begun zero = record { numbered = λ n. absurd (n refl); room = λ _. omega arith; last = λ _ n e. absurd (omega arith); long = refl }
  begun (suc n) = go (ltb n (room_in index)) refl
    where
      last : Entry
      last = entry_in index n

      c : Call
      c = call capture last.place rows

      there : n < room_in index → (a b : Bool) → eqb (answer_to c).0.refusal 0 ≡ a → same_entry (entry_of c) last ≡ b
          → Begun (suc n) (cond (a && b) (start 0 (ends_at c) (answer_to c).1) (start not_there 0 (answer_to c).1))
      there inside true true ok same = record {
        numbered = λ n. absurd (n refl);
        room = λ _. omega arith;
        last = λ _ m e. subst (λ k. Is capture rows (entry_in index k)) (let k : n ≡ m = omega arith in k) (eqb-true (answer_to c).0.refusal 0 ok, sym (same_numbers (entry_of c) last refl same));
        long = same_room capture last.place rows;
      }
      there inside true false ok other = none (suc n) (answer_to c).1 (same_room capture last.place rows)
      there inside false b other same = none (suc n) (answer_to c).1 (same_room capture last.place rows)

      go : (b : Bool) → ltb n (room_in index) ≡ b → Begun (suc n) (cond b (after c last) (start not_there 0 rows))
      go true e = there (ltb-true n (room_in index) e) (eqb (answer_to c).0.refusal 0) (same_entry (entry_of c) last) refl refl
      go false e = none (suc n) rows refl

-- ---- the four answers

module _ (capture : List ℕ) (rows : List ℤ) (index : List ℕ) (entries : ℕ) where
  abbrev HoldsOf : (Answer × List ℕ) × List ℤ → Type 0
  HoldsOf x = Holds capture rows index entries x.0.0 x.0.1 x.1

  unchanged : (n : ℕ) (room : List ℤ) → is_number n ≡ true → ¬ (n ≡ 0) → (most_rows ≤ length rows / row_width → ¬ (n ≡ no_fields)) → length room ≡ length rows
      → HoldsOf (refused n entries index, room)
  unchanged n room numbered not-zero fields long = record {
    numbered = numbered;
    refused = λ _. (refl, refl);
    more = λ z. absurd (not-zero z);
    old = λ z. absurd (not-zero z);
    rest = λ z. absurd (not-zero z);
    right = λ z. absurd (not-zero z);
    enough_fields = fields;
    long = refl;
    rows_long = long;
  }

  module _ (es : List Entry) (room : List ℤ) (old : entries ≤ room_in index) (fit : entries + length es ≤ room_in index) (long : length room ≡ length rows)
      (last : (n : ℕ) → entries ≡ suc n → Is capture rows (entry_in index n)) (all : Every (Is capture rows) es) where
    parts : sets index (entries * entry_width) (numbers_of es) ≡ (take (entries * entry_width) index ++ numbers_of es) ++ drop (entries * entry_width + length (numbers_of es)) index
    parts = sets-eq (numbers_of es) index (entries * entry_width) (omega (arith, length_numbers es))

    laid : sets index (entries * entry_width) (numbers_of es) ≡ take (entries * entry_width) index ++ (numbers_of es ++ drop (entries * entry_width + length (numbers_of es)) index)
    laid = parts ∙ append_assoc (take (entries * entry_width) index) (numbers_of es) _

    front_long : length (take (entries * entry_width) index) ≡ entries * entry_width
    front_long = length-take-le (entries * entry_width) index (omega arith)

    front : take (entries * entry_width) (sets index (entries * entry_width) (numbers_of es)) ≡ take (entries * entry_width) index
    front = ap (take (entries * entry_width)) laid ∙ take_at (take (entries * entry_width) index) _ (entries * entry_width) front_long

    frames : (i : ℕ) → entries ≤ i + 1 → i < entries + length es → (d : Dec (entries ≤ i)) → Is capture rows (entry_in (sets index (entries * entry_width) (numbers_of es)) i)
    frames i h k (Dec.yes new) =
        let there : entry_in (sets index (entries * entry_width) (numbers_of es)) i ≡ entry_in (numbers_of es ++ drop (entries * entry_width + length (numbers_of es)) index) (i - entries) =
        ap (λ l. entry_in l i) laid ∙ moved (take (entries * entry_width) index) _ i (i - entries) (omega (arith, front_long)) in
        subst (Is capture rows) (sym there) (every_at (Is capture rows) es (drop (entries * entry_width + length (numbers_of es)) index) all (i - entries) (omega arith))
    frames i h k (Dec.no old-one) =
        let is : entries ≡ suc i = omega arith in
        subst (Is capture rows) (sym (unmoved entries (sets index (entries * entry_width) (numbers_of es)) index front i (omega arith))) (last i is)

    extends_it : HoldsOf (entered index entries es, room)
    extends_it = record {
      numbered = refl;
      refused = λ n. absurd (n refl);
      more = λ _. (omega arith, fit);
      old = λ _. front;
      rest = λ _.
          let end : (entries + length es) * entry_width ≡ length (take (entries * entry_width) index ++ numbers_of es) =
          omega (arith, front_long, length_numbers es, length-append (take (entries * entry_width) index) (numbers_of es)) in
          let count : entries * entry_width + length (numbers_of es) ≡ (entries + length es) * entry_width = omega (arith, length_numbers es) in
          ap (drop ((entries + length es) * entry_width)) parts
          ∙ drop_at (take (entries * entry_width) index ++ numbers_of es) _ ((entries + length es) * entry_width) (sym end)
          ∙ ap (λ n. drop n index) count;
      right = λ _ i h k. right (frames i h k (dec_le entries i));
      enough_fields = λ _ z. absurd (omega arith);
      long = length-sets index (entries * entry_width) (numbers_of es);
      rows_long = long;
    }

  by_walk : (s : Start) → Begun capture rows index entries s → s.refusal ≡ 0 → HoldsOf (answered_by index entries (walk_from capture s.place s.room))
  unfolding extended
  by_walk s b going = go (eqb w.refusal 0) refl
    where
      w : Walk
      w = walk_from capture s.place s.room

      long : length w.room ≡ length rows
      long = room_long capture (length capture) s.place s.room ∙ b.long

      fits : (c : Bool) → leb (entries + length w.entries) (room_in index) ≡ c → HoldsOf (cond c (entered index entries w.entries) (refused no_room entries index), w.room)
      fits true e = extends_it w.entries w.room (b.room going) (leb-true _ _ e) long (b.last going) (all_are capture rows (length capture) s.place s.room b.long)
      fits false e = unchanged no_room w.room refl (λ z. omega arith) (λ _ z. omega arith) long

      go : (c : Bool) → eqb w.refusal 0 ≡ c
          → HoldsOf (cond c (cond (leb (entries + length w.entries) (room_in index)) (entered index entries w.entries) (refused no_room entries index)) (refused w.refusal entries index), w.room)
      go true e = fits (leb (entries + length w.entries) (room_in index)) refl
      go false e =
          let not-zero = eqb-false w.refusal 0 e in
          unchanged w.refusal w.room (ap is_number (stop_number capture (length capture) s.place s.room not-zero)) not-zero
          (λ enough z. not-zero (unstopped capture (length capture) s.place s.room (rw b.long enough))) long

pub indexes : Indexes
unfolding indexed
indexes capture rows index entries = go (eqb s.refusal 0) refl
  where
    s : Start
    s = begin capture rows index entries

    b : Begun capture rows index entries s
    b = begun capture rows index entries

    go : (c : Bool) → eqb s.refusal 0 ≡ c
        → HoldsOf capture rows index entries (cond c (answered_by index entries (walk_from capture s.place s.room)) (refused s.refusal entries index, s.room))
    go true e = by_walk capture rows index entries s b (eqb-true s.refusal 0 e)
    go false e =
        let not-zero = eqb-false s.refusal 0 e in
        let is = b.numbered not-zero in
        unchanged capture rows index entries s.refusal s.room (ap is_number is) not-zero (λ _ z. omega (arith, is, z)) b.long
