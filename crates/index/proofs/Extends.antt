-- Extending an index equals making it afresh: at each place that the shorter capture's walk passes, the longer one's does the same, and from
-- the last frame's end on it steps over what was no frame before. Assumes nothing.
use mathlib.Core.Bool.{Bool, true, false, cond, ◌&&◌}
use mathlib.Core.List.{List, [], ◌∷◌, ◌++◌, append-nil}
use mathlib.Core.Path.{◌≡◌, refl, sym, ap, subst, ◌∙◌}
use Prim.Native.Nat.{ℕ, zero, suc, ◌+◌, ◌*◌, ◌≤◌}
use native.Mathlib.Omega.{arith}
use borrow.Author.Tests.{eqb-true, eqb-false, eq-eqb, lt-ltb, leb-true}
use lib.Dec.{eqb, leb}
use lib.IntN.{ℤ}
use lib.ListN.{length, take, drop, length-append, take-append-drop}
use lib.Seq.{sets, take_all, take_at}
use Rattle.naturals.proofs.Stored.{sets_append}
use Rattle.writer.proofs.Written.{in_front_lem}
use Rattle.ac3.specs.Frame.{answer}
use Rattle.ac3.specs.Later.{is_short}
use Rattle.ac3.specs.Promise.{Call, call, answer_to}
use Rattle.ac3.proofs.Later.{later_bytes}
use Rattle.salvage.proofs.Parsed.{same_room}
use Rattle.index.specs.Index.{entry_width, numbers, numbers_of, entry_of, entry_in, same_entry, is_over, ◌before◌, met, stride, Walk, walk, walk_from, room_in, no_room, not_there, start, after, begin, refused, entered, extended, answered_by, indexed}
use Rattle.index.specs.Indexes.{told, Made, Extends, ListsThem}
use Rattle.index.specs.Refusals.{Answer}
use Rattle.index.specs.declared.outcome.Entry.{Entry}
use Rattle.index.proofs.Answered.{walked}
use Rattle.index.proofs.Entries.{Every, every_at, Is, all_are, unmoved, length_numbers, numbers_append, moved, by_answer, same_as_itself}
use Rattle.index.proofs.Indexes.{indexes}
use Rattle.index.proofs.Walks.{never, not_short, stops_there, goes_on, at_end, strides, stays_inside, enough, bare, same_frame, same_entry_lem, same_walk}

-- the end of the last frame, or the given place
abbrev end_of : (place : ℕ) → List Entry → ℕ
end_of place [] = place
end_of place (e ∷ es) = end_of (e.place + e.size) es

module _ (capture more : List ℕ) where
  abbrev longer : List ℕ
  longer = capture ++ more

  longer_length : length longer ≡ length capture + length more
  longer_length = length-append capture more

  -- what does not end the walk does not change when bytes come
  stays : (place : ℕ) (room : List ℤ) → is_over (answer capture place room).0.refusal ≡ false → answer longer place room ≡ answer capture place room
  stays place room on =
      later_bytes.stays (call capture place room) more
      (λ one. never (sym (ap is_short one) ∙ not_short (answer capture place room).0.refusal on)) (λ four. never (sym (ap is_short four) ∙ not_short (answer capture place room).0.refusal on))

  -- and so with another room of that length
  module _ (place : ℕ) (room other : List ℤ) (long : length other ≡ length room) (on : is_over (answer capture place room).0.refusal ≡ false) where
    abbrev c : Call
    c = call capture place room

    abbrev d : Call
    d = call longer place other

    same_answer : (answer_to d).0 ≡ (answer_to c).0
    same_answer = (same_frame longer place other room long).answer ∙ ap (λ x. x.0) (stays place room on)

    same : entry_of d ≡ entry_of c
    same = same_entry_lem longer place other room long ∙ by_answer (call longer place room) c refl (stays place room on)

    -- the longer one's step
    longer_step : (m : ℕ) → bare (walk longer (suc m) place other) ≡ met c before bare (walk longer m (place + stride c) (answer_to d).1)
    longer_step m =
        ap bare (goes_on longer m place other (ap (λ a. is_over a.refusal) same_answer ∙ on))
        ∙ (λ i.
        cond (eqb (same_answer i).refusal 0) (same i ∷ []) []
        before bare (walk longer m (place + cond (eqb (same_answer i).refusal 0) (same_answer i).summary.header.bytes 1) (answer_to d).1))

  -- ---- the longer walk from a place on: what the shorter one met, and then a walk from where that ends

  abbrev Longer : (m place : ℕ) (other : List ℤ) → List Entry → Type 0
  Longer m place other es = bare (walk longer m place other) ≡ es before bare (walk_from longer (end_of place es) other)

  nothing_yet : (m place : ℕ) (other : List ℤ) → length longer ≤ place + m → Longer m place other []
  nothing_yet m place other h = ap bare (enough longer m (length longer) place other h (omega arith))

  -- a place that was passed over: where no entry comes after it, the walk may as well begin there
  on_from : (place : ℕ) (other : List ℤ) (es : List Entry) → bare (walk_from longer (place + 1) other) ≡ bare (walk_from longer place other)
      → es before bare (walk_from longer (end_of (place + 1) es) other) ≡ es before bare (walk_from longer (end_of place es) other)
  on_from place other [] e = e
  on_from place other (x ∷ es) e = refl

  extend : (n m place : ℕ) (room other : List ℤ) → length other ≡ length room → place ≤ length capture → length capture ≤ place + n → length longer ≤ place + m
      → (walk capture n place room).refusal ≡ 0 → Longer m place other (walk capture n place room).entries
  unfolding walk
  extend zero m place room other long inside h k going = nothing_yet m place other k
  extend (suc n) zero place room other long inside h k going =
      subst (λ w. Longer 0 place other w.entries) (sym (at_end capture (suc n) place room (omega (arith, longer_length)))) (nothing_yet 0 place other k)
  extend (suc n) (suc m) place room other long inside h k going =
      go (is_over (answer capture place room).0.refusal) refl
      (λ on.
      let some = strides capture place room on in
      extend n m (place + stride (call capture place room)) (answer capture place room).1 (answer longer place other).1
      (same_room longer place other ∙ long ∙ sym (same_room capture place room)) (stays_inside capture place room on) (omega (arith, some)) (omega (arith, some))
      (ap (λ w. w.refusal) (sym (goes_on capture n place room on)) ∙ going))
    where
      here : Call
      here = call capture place room

      rest : Walk
      rest = walk capture n (place + stride here) (answer_to here).1

      room_after : List ℤ
      room_after = (answer longer place other).1

      back : (p : ℕ) → bare (walk_from longer p room_after) ≡ bare (walk_from longer p other)
      back p = same_walk longer (length longer) p room_after other (same_room longer place other)

      -- where this place was passed over the walk may as well begin at the next one
      passed_over : is_over (answer_to here).0.refusal ≡ false → eqb (answer_to here).0.refusal 0 ≡ false → bare (walk_from longer (place + 1) other) ≡ bare (walk_from longer place other)
      passed_over is not-zero =
          sym
          (ap bare (enough longer (length longer) (suc (length longer)) place other (omega arith) (omega arith))
          ∙ longer_step place room other long is (length longer)
          ∙ ap (λ b. cond b (entry_of here ∷ []) [] before bare (walk longer (length longer) (place + cond b (answer_to here).0.summary.header.bytes 1) room_after)) not-zero
          ∙ back (place + 1))

      joined : (b : Bool) → (b ≡ false → bare (walk_from longer (place + 1) other) ≡ bare (walk_from longer place other))
          → let es = cond b (entry_of here ∷ []) [] in
          es before (rest.entries before bare (walk_from longer (end_of (place + cond b (answer_to here).0.summary.header.bytes 1) rest.entries) other))
          ≡ (es ++ rest.entries) before bare (walk_from longer (end_of place (es ++ rest.entries)) other)
      joined true next = refl
      joined false next = on_from place other rest.entries (next refl)

      go : (b : Bool) → is_over (answer_to here).0.refusal ≡ b → (is_over (answer_to here).0.refusal ≡ false → Longer m (place + stride here) room_after rest.entries)
          → Longer (suc m) place other (walk capture (suc n) place room).entries
      go true is later = subst (λ w. Longer (suc m) place other w.entries) (sym (stops_there capture n place room is)) (nothing_yet (suc m) place other k)
      go false is later =
          subst (λ w. Longer (suc m) place other w.entries) (sym (goes_on capture n place room is))
          (longer_step place room other long is m
          ∙ ap (λ w. met here before w) (later is ∙ ap (λ w. rest.entries before w) (back (end_of (place + stride here) rest.entries)))
          ∙ joined (eqb (answer_to here).0.refusal 0) (passed_over is))

-- ---- where the extension begins

-- the end of the last entry
end_last : (es : List Entry) (k place : ℕ) → length es ≡ suc k → end_of place es ≡ (let last = entry_in (numbers_of es) k in last.place + last.size)
unfolding numbers_of
end_last [] k place h = absurd (omega arith)
end_last (e ∷ []) zero place h = refl
end_last (e ∷ []) (suc k) place h = absurd (omega arith)
end_last (e ∷ f ∷ es) zero place h = absurd (omega arith)
end_last (e ∷ f ∷ es) (suc k) place h =
    let there : entry_in (numbers e ++ numbers_of (f ∷ es)) (suc k) ≡ entry_in (numbers_of (f ∷ es)) k = moved (numbers e) (numbers_of (f ∷ es)) (suc k) k (omega arith) in
    end_last (f ∷ es) k (e.place + e.size) (omega arith) ∙ ap (λ (l : Entry). l.place + l.size) (sym there)

-- these entries are in front of an index
record Front (index : List ℕ) (n : ℕ) (es : List Entry) : Type 0 where
  pub count : n ≡ length es
  pub fits : n ≤ room_in index
  pub same : take (n * entry_width) index ≡ numbers_of es

module _ (capture more : List ℕ) (rows later : List ℤ) (index : List ℕ) (long : length later ≡ length rows) (es : List Entry) (all : Every (Is capture rows) es) where
  record Begins (n : ℕ) : Type 0 where
    pub room : List ℤ
    pub room_long : length room ≡ length later
    pub begins : start 0 (end_of 0 es) room ≡ begin (capture ++ more) later index n

  begins_there : (n : ℕ) → Front index n es → Begins n
  unfolding begin
  begins_there zero f = record { room = later; room_long = refl; begins = ap (λ es. start 0 (end_of 0 es) later) (empty es f.count) }
    where
      empty : (es : List Entry) → 0 ≡ length es → es ≡ []
      empty [] e = refl
      empty (x ∷ es) e = absurd (omega arith)
  begins_there (suc k) f = record { room = (answer_to d).1; room_long = same_room (capture ++ more) last.place later; begins = begins }
    where
      last : Entry
      last = entry_in index k

      whole : take (suc k * entry_width) index ≡ take (suc k * entry_width) (numbers_of es)
      whole = f.same ∙ sym (take_all (suc k * entry_width) (numbers_of es) (omega (arith, length_numbers es, f.count)))

      last_is : last ≡ entry_in (numbers_of es) k
      last_is = unmoved (suc k) index (numbers_of es) whole k (omega arith)

      there : Is capture rows last
      there = subst (Is capture rows) (ap (λ l. entry_in l k) (append-nil (numbers_of es)) ∙ sym last_is) (every_at (Is capture rows) es [] all k (omega (arith, f.count)))

      d : Call
      d = call (capture ++ more) last.place later

      on : is_over (answer capture last.place rows).0.refusal ≡ false
      on = ap is_over there.0

      accepted : (answer_to d).0.refusal ≡ 0
      accepted = ap (λ a. a.refusal) (same_answer capture more last.place rows later long on) ∙ there.0

      entry_is : entry_of d ≡ last
      entry_is = same capture more last.place rows later long on ∙ sym there.1

      begins : start 0 (end_of 0 es) (answer_to d).1 ≡ begin (capture ++ more) later index (suc k)
      begins =
          ap (λ p. start 0 p (answer_to d).1) (end_last es k 0 (sym f.count) ∙ ap (λ (l : Entry). l.place + l.size) (sym last_is) ∙ ap (λ (l : Entry). last.place + l.size) (sym entry_is))
          ∙ sym
          (ap (λ b. cond b (after d last) (start not_there 0 later)) (lt-ltb k (room_in index) (omega (arith, f.fits)))
          ∙ ap (λ b. cond (b && same_entry (entry_of d) last) (start 0 (last.place + (entry_of d).size) (answer_to d).1) (start not_there 0 (answer_to d).1)) (eq-eqb (answer_to d).0.refusal 0 accepted)
          ∙ ap (λ b. cond b (start 0 (last.place + (entry_of d).size) (answer_to d).1) (start not_there 0 (answer_to d).1)) (same_as_itself (entry_of d) last entry_is))

-- ---- the two answers

record Alike (x y : Answer × List ℕ) : Type 0 where
  pub refusal : x.0.refusal ≡ y.0.refusal
  pub index : x.1 ≡ y.1
  pub answer : x.0.refusal ≡ 0 → x.0 ≡ y.0

-- behind entries that are there, or all anew
alike : (index : List ℕ) (n : ℕ) (es : List Entry) (w : Walk) → Front index n es → Alike (extended index n w) (extended index 0 (es before w))
unfolding extended
alike index n es w f = go (eqb w.refusal 0) refl
  where
    count : n + length w.entries ≡ 0 + length (es ++ w.entries)
    count = omega (arith, f.count, length-append es w.entries)

    there : sets index (0 * entry_width) (numbers_of es) ≡ index
    there =
        in_front_lem (numbers_of es) index (omega (arith, length_numbers es, f.count, f.fits))
        ∙ (λ i. sym f.same i ++ drop ((length_numbers es ∙ ap (λ n. n * entry_width) (sym f.count)) i) index)
        ∙ take-append-drop (n * entry_width) index

    written : sets index (n * entry_width) (numbers_of w.entries) ≡ sets index (0 * entry_width) (numbers_of (es ++ w.entries))
    written =
        ap (λ l. sets l (n * entry_width) (numbers_of w.entries)) (sym there)
        ∙ sym (sets_append (numbers_of es) (numbers_of w.entries) index (0 * entry_width) (n * entry_width) (omega (arith, length_numbers es, f.count)))
        ∙ ap (sets index (0 * entry_width)) (sym (numbers_append es w.entries))

    fitting : (b : Bool) → Alike (cond b (entered index n w.entries) (refused no_room n index)) (cond b (entered index 0 (es ++ w.entries)) (refused no_room 0 index))
    fitting true = record { refusal = refl; index = written; answer = λ _. ap (λ k. record { refusal = 0; entries = k }) count }
    fitting false = record { refusal = refl; index = refl; answer = λ z. absurd (omega arith) }

    go : (b : Bool) → eqb w.refusal 0 ≡ b
        → Alike (cond b (cond (leb (n + length w.entries) (room_in index)) (entered index n w.entries) (refused no_room n index)) (refused w.refusal n index))
        (cond b (cond (leb (0 + length (es ++ w.entries)) (room_in index)) (entered index 0 (es ++ w.entries)) (refused no_room 0 index)) (refused w.refusal 0 index))
    go true e =
        subst (λ m. Alike (cond (leb (n + length w.entries) (room_in index)) (entered index n w.entries) (refused no_room n index)) (cond (leb m (room_in index)) (entered index 0 (es ++ w.entries)) (refused no_room 0 index)))
        count (fitting (leb (n + length w.entries) (room_in index)))
    go false e = record { refusal = refl; index = refl; answer = λ z. absurd (eqb-false w.refusal 0 e z) }

-- the room makes no difference
without_room : (index : List ℕ) (k : ℕ) (w : Walk) → extended index k w ≡ extended index k (bare w)
unfolding extended
without_room index k w = refl

-- what was not refused
record Entered (index : List ℕ) (n : ℕ) (w : Walk) : Type 0 where
  pub going : w.refusal ≡ 0
  pub fits : n + length w.entries ≤ room_in index
  pub is : extended index n w ≡ entered index n w.entries

was_entered : (index : List ℕ) (n : ℕ) (w : Walk) → (extended index n w).0.refusal ≡ 0 → Entered index n w
unfolding extended
was_entered index n w ok = go (eqb w.refusal 0) (leb (n + length w.entries) (room_in index)) refl refl ok
  where
    go : (b c : Bool) → eqb w.refusal 0 ≡ b → leb (n + length w.entries) (room_in index) ≡ c
        → (cond b (cond c (entered index n w.entries) (refused no_room n index)) (refused w.refusal n index)).0.refusal ≡ 0 → Entered index n w
    go true true e f z = record {
      going = eqb-true w.refusal 0 e;
      fits = leb-true (n + length w.entries) (room_in index) f;
      is = λ i. cond (e i) (cond (f i) (entered index n w.entries) (refused no_room n index)) (refused w.refusal n index);
    }
    go true false e f z = absurd (omega (arith, z))
    go false c e f z = absurd (eqb-false w.refusal 0 e z)

-- ---- the theorem

afresh : (capture : List ℕ) (rows : List ℤ) (index : List ℕ) → indexed capture rows index 0 ≡ answered_by index 0 (walk_from capture 0 rows)
unfolding begin
afresh capture rows index = sym (walked capture rows index 0 {refusal = 0} {place = 0} {rows' = rows} refl refl refl)

-- the entries of an index that was made afresh
front : {capture : List ℕ} {rows : List ℤ} {index : List ℕ} {n : ℕ} → Made capture rows index n → ((walk_from capture 0 rows).refusal ≡ 0) × Front index n (walk_from capture 0 rows).entries
front {capture} {rows} {index} {n} m = (was.going, record { count = count; fits = m.fits; same = m.same ∙ ap (take (n * entry_width)) (ap (λ x. x.0.1) first ∙ ap (λ x. x.1) was.is) ∙ numbers_there })
  where
    w : Walk
    w = walk_from capture 0 rows

    first : indexed capture rows m.lent 0 ≡ answered_by m.lent 0 w
    first = afresh capture rows m.lent

    was : Entered m.lent 0 w
    was = was_entered m.lent 0 w (ap (λ x. x.0.0.refusal) (sym first) ∙ ap (λ a. a.refusal) m.answered)

    count : n ≡ length w.entries
    count =
        let told = ap (λ a. a.entries) (sym m.answered) ∙ ap (λ x. x.0.0.entries) first ∙ ap (λ x. x.0.entries) was.is in
        omega (arith, told)

    numbers_there : take (n * entry_width) (sets m.lent (0 * entry_width) (numbers_of w.entries)) ≡ numbers_of w.entries
    numbers_there =
        ap (take (n * entry_width)) (in_front_lem (numbers_of w.entries) m.lent (omega (arith, length_numbers w.entries, was.fits)))
        ∙ take_at (numbers_of w.entries) _ (n * entry_width) (omega (arith, length_numbers w.entries, count))

pub lists_them : ListsThem
lists_them capture rows index n m = let (going, there) = front m in (going, there.same)

pub extends : Extends
extends capture more rows later index n long m = record {
  same_refusal = both.refusal;
  same_index = both.index;
  same_answer = both.answer;
  made_again = λ ok.
      let holds = indexes (capture ++ more) later index n in
      record {
        lent = index;
        answered = sym (both.answer ok) ∙ (λ i. record { refusal = ok i; entries = (told (capture ++ more) later index n).entries });
        fits = omega (arith, (holds.more ok).1, holds.long);
        same = ap (take ((told (capture ++ more) later index n).entries * entry_width)) both.index;
      };
}
  where
    w : Walk
    w = walk_from capture 0 rows

    es : List Entry
    es = w.entries

    was : (w.refusal ≡ 0) × Front index n es
    was = front m

    there : Begins capture more rows later index long es (all_are capture rows (length capture) 0 rows refl) n
    there = begins_there capture more rows later index long es (all_are capture rows (length capture) 0 rows refl) n was.1

    v : Walk
    v = walk_from (capture ++ more) (end_of 0 es) there.room

    u : Walk
    u = walk_from (capture ++ more) 0 later

    whole : bare u ≡ es before bare v
    whole =
        extend capture more (length capture) (length (capture ++ more)) 0 rows later long (omega arith) (omega arith) (omega arith) was.0
        ∙ ap (λ w. es before w) (same_walk (capture ++ more) (length (capture ++ more)) (end_of 0 es) later there.room (sym there.room_long))

    longer_told : (indexed (capture ++ more) later index n).0 ≡ extended index n v
    longer_told = ap (λ x. x.0) (sym (walked (capture ++ more) later index n there.begins refl refl))

    afresh_told : (indexed (capture ++ more) later index 0).0 ≡ extended index 0 (es before bare v)
    afresh_told = ap (λ x. x.0) (afresh (capture ++ more) later index) ∙ without_room index 0 u ∙ ap (extended index 0) whole

    both : Alike (indexed (capture ++ more) later index n).0 (indexed (capture ++ more) later index 0).0
    both = subst (λ x. Alike x (indexed (capture ++ more) later index 0).0) (sym (longer_told ∙ without_room index n v)) (subst (Alike (extended index n (bare v))) (sym afresh_told) (alike index n es (bare v) was.1))
