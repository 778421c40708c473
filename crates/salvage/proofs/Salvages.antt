-- Every salvage is whole, and one that was not refused is complete: each step of the walk keeps it so. Assumes nothing.
use mathlib.Core.Bool.{Bool, true, false, cond, ◌&&◌}
use mathlib.Core.List.{List, [], ◌∷◌, ◌++◌, append_assoc, append-nil}
use mathlib.Core.Path.{◌≡◌, refl, sym, ap, subst, ◌∙◌}
use Prim.Native.Nat.{ℕ, zero, suc, ◌+◌, ◌-◌, ◌≤◌, ◌<◌}
use native.Mathlib.Omega.{arith}
use borrow.Author.Tests.{ltb-true, ltb-false, leb-true, leb-false, eqb-true, eqb-false, eq-eqb}
use lib.Dec.{eqb, ltb, leb}
use lib.IntN.{ℤ}
use lib.ListN.{length, take, drop, get_or, length-append, length-drop}
use lib.Seq.{length-take-le, take_all, take-add, drop_at, drop-drop}
use Rattle.ac3.specs.Frame.{answer}
use Rattle.ac3.specs.Promise.{call}
use Rattle.ac3.specs.declared.Answer as parse
use Rattle.ac3.proofs.RowBound.{row_bound}
use Rattle.salvage.specs.Walk.{Entry, frame, gap, Rooms, Kept, no_output, no_entry, no_fields, refuse, with, bytes_at, close_gap, keep_frame, is_full, is_met, Walk, begun, meet, onward, step, walk, walked, salvage}
use Rattle.salvage.specs.Salvages.{answer_at, size_at, Each, IsFrame, Tiles, Covers, InOne, GapsApart, frames_in, Right, is_number, Entered, Whole, Salvages, Rest, Untouched}
use Rattle.salvage.specs.Lent.{in_front, numbers, rooms_in}
use Rattle.salvage.proofs.Lent.{length_in_front, length_numbers}
use Rattle.salvage.proofs.Loop.{unmet_at_seven, accepted_there}
use Rattle.salvage.proofs.Parsed.{moves, ends_inside, same_answer, same_room}

-- ---- one more entry at the end

module _ (P : Entry → Type 0) where
  pub each_more : (es : List Entry) (e : Entry) → Each P es → P e → Each P (es ++ (e ∷ []))
  each_more [] e all h = (h, tt)
  each_more (x ∷ es) e all h = (all.0, each_more es e all.1 h)

tiles_more : (es : List Entry) (from to : ℕ) (e : Entry) → Tiles from es to → e.place ≡ to → 0 < e.size → Tiles from (es ++ (e ∷ [])) (to + e.size)
tiles_more [] from to e t place some = (place ∙ sym t, some, ap (λ n. n + e.size) t)
tiles_more (x ∷ es) from to e t place some = (t.0, t.1, tiles_more es _ to e t.2 place some)

apart_frame : (es : List Entry) (e : Entry) → GapsApart es → IsFrame e → GapsApart (es ++ (e ∷ []))
apart_frame [] e a h = tt
apart_frame (x ∷ []) e a h = ((λ both. omega (arith, both.1)), tt)
apart_frame (x ∷ y ∷ es) e a h = (a.0, apart_frame (y ∷ es) e a.1 h)

abbrev EndsInFrame : List Entry → Type 0
EndsInFrame [] = Unit {0}
EndsInFrame (e ∷ []) = e.kind ≡ 0
EndsInFrame (e ∷ f ∷ es) = EndsInFrame (f ∷ es)

apart_gap : (es : List Entry) (e : Entry) → GapsApart es → EndsInFrame es → GapsApart (es ++ (e ∷ []))
apart_gap [] e a last = tt
apart_gap (x ∷ []) e a last = ((λ both. omega (arith, both.0)), tt)
apart_gap (x ∷ y ∷ es) e a last = (a.0, apart_gap (y ∷ es) e a.1 last)

ends_in_frame : (es : List Entry) (e : Entry) → e.kind ≡ 0 → EndsInFrame (es ++ (e ∷ []))
ends_in_frame [] e h = h
ends_in_frame (x ∷ []) e h = h
ends_in_frame (x ∷ y ∷ es) e h = ends_in_frame (y ∷ es) e h

frames_more : (capture : List ℕ) (es : List Entry) (e : Entry) → frames_in capture (es ++ (e ∷ [])) ≡ frames_in capture es ++ frames_in capture (e ∷ [])
unfolding frames_in
frames_more capture [] e = refl
frames_more capture (x ∷ es) e = rw (frames_more capture es e) (sym (append_assoc (cond (eqb x.kind 0) (bytes_at capture x.place x.size) []) (frames_in capture es) (frames_in capture (e ∷ []))))

frames_of_frame : (capture : List ℕ) (place size : ℕ) → frames_in capture (frame place size ∷ []) ≡ bytes_at capture place size
unfolding frames_in
frames_of_frame capture place size = append-nil _

frames_of_gap : (capture : List ℕ) (from to : ℕ) → frames_in capture (gap from to ∷ []) ≡ []
unfolding frames_in
frames_of_gap capture from to = refl

-- ---- the steps

module _ (capture : List ℕ) (rooms : Rooms) (rows : List ℤ) where
  refused : {k : Kept} {reach : ℕ} (n : ℕ) → Entered capture rooms rows k reach → Entered capture rooms rows (refuse n k) reach
  refused n s = record { inside = s.inside; tiles = s.tiles; right = s.right; apart = s.apart; output = s.output; listed = s.listed; written = s.written }

  abbrev Unmet : (from to : ℕ) → Type 0
  Unmet from to = (place : ℕ) → from ≤ place → place < to → is_met (answer_at capture rows place).refusal ≡ false

  with_gap : {k : Kept} {from to : ℕ} → Entered capture rooms rows k from → EndsInFrame k.entries → from < to → to ≤ length capture → Unmet from to
      → length k.entries < rooms.entries → Entered capture rooms rows (with (gap from to) [] k) to
  with_gap {k} {from} {to} s last some inside unmet left = record {
    inside = inside;
    tiles = subst (λ n. Tiles 0 (k.entries ++ (gap from to ∷ [])) n) there (tiles_more k.entries 0 from (gap from to) s.tiles refl (omega arith));
    right = each_more (Right capture rows) k.entries (gap from to) s.right (record { kinds = omega arith; accepted = λ z. absurd (omega arith); unmet = λ _ place p q. unmet place p (omega arith) });
    apart = apart_gap k.entries (gap from to) s.apart last;
    output = append-nil k.output ∙ s.output ∙ sym (append-nil _) ∙ ap (λ l. frames_in capture k.entries ++ l) (sym (frames_of_gap capture from to)) ∙ sym (frames_more capture k.entries (gap from to));
    listed = omega (arith, left, length-append k.entries (gap from to ∷ []));
    written = rw append-nil s.written;
  }
    where
      there : from + (to - from) ≡ to
      there = omega arith

  module _ (place : ℕ) where
    abbrev size : ℕ
    size = size_at capture rows place

    bytes_long : place + size ≤ length capture → length (bytes_at capture place size) ≡ size
    bytes_long inside = length-take-le size (drop place capture) (omega (arith, length-drop place capture))

    with_frame : {k : Kept} → Entered capture rooms rows k place → (answer_at capture rows place).refusal ≡ 0 → 0 < size → place + size ≤ length capture
        → length k.entries < rooms.entries → length k.output + size ≤ rooms.bytes
        → Entered capture rooms rows (with (frame place size) (bytes_at capture place size) k) (place + size)
    with_frame {k} s ok some inside left space = record {
      inside = inside;
      tiles = tiles_more k.entries 0 place (frame place size) s.tiles refl some;
      right = each_more (Right capture rows) k.entries (frame place size) s.right (record { kinds = omega arith; accepted = λ _. (ok, refl); unmet = λ z. absurd (omega arith) });
      apart = apart_frame k.entries (frame place size) s.apart refl;
      output = ap (λ l. l ++ bytes_at capture place size) s.output ∙ ap (λ l. frames_in capture k.entries ++ l) (sym (frames_of_frame capture place size)) ∙ sym (frames_more capture k.entries (frame place size));
      listed = omega (arith, left, length-append k.entries (frame place size ∷ []));
      written = omega (arith, space, length-append k.output (bytes_at capture place size), bytes_long inside);
    }

  -- ---- where a step leaves what is kept: going on, or at one of three refusals

  goes_on : {k : Kept} {reach : ℕ} → k.refusal ≡ 0 → Entered capture rooms rows k reach → Whole capture rooms rows k
  goes_on {reach = reach} going s = record {
    reach = reach;
    entered = s;
    numbered = ap is_number going;
    lacks_output = λ z. absurd (omega (arith, going));
    lacks_entry = λ z. absurd (omega (arith, going));
    lacks_fields = λ z. absurd (omega (arith, going));
  }

  module _ {k : Kept} {reach : ℕ} (s : Entered capture rooms rows k reach) where
    without_output : (answer_at capture rows reach).refusal ≡ 0 → rooms.bytes < length k.output + size_at capture rows reach → Whole capture rooms rows (refuse no_output k)
    without_output ok small = record {
      reach = reach;
      entered = refused no_output s;
      numbered = refl;
      lacks_output = λ _. (ok, small);
      lacks_entry = λ z. absurd (omega arith);
      lacks_fields = λ z. absurd (omega arith);
    }

    without_entry : rooms.entries ≤ length k.entries → Whole capture rooms rows (refuse no_entry k)
    without_entry full = record {
      reach = reach;
      entered = refused no_entry s;
      numbered = refl;
      lacks_output = λ z. absurd (omega arith);
      lacks_entry = λ _. omega (arith, full, s.listed);
      lacks_fields = λ z. absurd (omega arith);
    }

    without_fields : (answer_at capture rows reach).refusal ≡ 7 → Whole capture rooms rows (refuse no_fields k)
    without_fields seven = record {
      reach = reach;
      entered = refused no_fields s;
      numbered = refl;
      lacks_output = λ z. absurd (omega arith);
      lacks_entry = λ z. absurd (omega arith);
      lacks_fields = λ _. seven;
    }

  -- a gap is closed, or refused
  record Closed (to : ℕ) (k : Kept) : Type 0 where
    pub whole : Whole capture rooms rows k
    pub there : k.refusal ≡ 0 → whole.reach ≡ to

  module _ {k : Kept} {from to : ℕ} (s : Entered capture rooms rows k from) (going : k.refusal ≡ 0) (last : EndsInFrame k.entries) (ordered : from ≤ to)
      (inside : to ≤ length capture) (unmet : Unmet from to) where
    closed : Closed to (close_gap rooms from to k)
    unfolding close_gap goes_on
    closed = go (ltb from to) refl
      where
        enter : from < to → (c : Bool) → ltb (length k.entries) rooms.entries ≡ c → Closed to (cond c (with (gap from to) [] k) (refuse no_entry k))
        enter some true e = record { whole = goes_on refl (with_gap s last some inside unmet (ltb-true _ _ e)); there = λ _. refl }
        enter some false e = record { whole = without_entry s (ltb-false _ _ e); there = λ z. absurd (omega arith) }

        go : (b : Bool) → ltb from to ≡ b
            → Closed to (cond b (cond (ltb (length k.entries) rooms.entries) (with (gap from to) [] k) (refuse no_entry k)) k)
        go true e = enter (ltb-true from to e) (ltb (length k.entries) rooms.entries) refl
        go false e = record { whole = goes_on going s; there = λ _. omega (arith, ltb-false from to e) }

  -- a frame is kept, or refused
  record Framed (to : ℕ) (k : Kept) : Type 0 where
    pub whole : Whole capture rooms rows k
    pub there : k.refusal ≡ 0 → (whole.reach ≡ to) × EndsInFrame k.entries

  module _ {k : Kept} {place : ℕ} (s : Entered capture rooms rows k place) (ok : (answer_at capture rows place).refusal ≡ 0)
      (some : 0 < size_at capture rows place) (inside : place + size_at capture rows place ≤ length capture) where
    abbrev here : ℕ
    here = size_at capture rows place

    kept : Framed (place + here) (keep_frame rooms place (bytes_at capture place here) k)
    unfolding keep_frame goes_on
    kept = rw (bytes_long place inside) (go (ltb (length k.entries) rooms.entries) (leb (length k.output + here) rooms.bytes) refl refl)
      where
        go : (b c : Bool) → ltb (length k.entries) rooms.entries ≡ b → leb (length k.output + here) rooms.bytes ≡ c
            → Framed (place + here) (cond b (cond c (with (frame place here) (bytes_at capture place here) k) (refuse no_output k)) (refuse no_entry k))
        go true true e f = record {
          whole = goes_on refl (with_frame place s ok some inside (ltb-true _ _ e) (leb-true _ _ f));
          there = λ _. (refl, ends_in_frame k.entries (frame place here) refl);
        }
        go true false e f = record { whole = without_output s ok (leb-false _ _ f); there = λ z. absurd (omega arith) }
        go false c e f = record { whole = without_entry s (ltb-false _ _ e); there = λ z. absurd (omega arith) }

  -- ---- the walk

  record Open (w : Walk) (reach : ℕ) : Type 0 where
    pub here : w.from ≡ reach
    pub ordered : w.from ≤ w.place
    pub inside : w.place ≤ length capture
    pub last : EndsInFrame w.kept.entries
    pub unmet : Unmet w.from w.place

  record Good (w : Walk) : Type 0 where
    pub whole : Whole capture rooms rows w.kept
    pub going : w.kept.refusal ≡ 0 → Open w whole.reach
    pub long : length w.room ≡ length rows

  module _ (w : Walk) (g : Good w) (going : w.kept.refusal ≡ 0) (more : w.place < length capture) where
    abbrev a : parse.Answer
    a = (answer capture w.place w.room).0

    abbrev after : List ℤ
    after = (answer capture w.place w.room).1

    abbrev after_frame : ℕ
    after_frame = w.place + a.summary.header.bytes

    abbrev stand : Open w g.whole.reach
    stand = g.going going

    same : a ≡ answer_at capture rows w.place
    same = same_answer capture w.place w.room rows g.long

    entered : Entered capture rooms rows w.kept w.from
    entered = subst (Entered capture rooms rows w.kept) (sym stand.here) g.whole.entered

    passed : (place : ℕ) → w.from ≤ place → place < w.place + 1 → (b : Bool) → ltb place w.place ≡ b
        → is_met (answer_at capture rows w.place).refusal ≡ false → is_met (answer_at capture rows place).refusal ≡ false
    passed place p q true e here = stand.unmet place p (ltb-true place w.place e)
    passed place p q false e here =
        let at : w.place ≡ place = omega (arith, ltb-false place w.place e) in
        subst (λ n. is_met (answer_at capture rows n).refusal ≡ false) at here

    met : is_met a.refusal ≡ true → Framed after_frame (meet capture rooms a w.from w.place w.kept)
    unfolding meet
    met is = first (eqb k.refusal 0) refl
      where
        k : Kept
        k = close_gap rooms w.from w.place w.kept

        c : Closed w.place k
        c = closed entered going stand.last stand.ordered stand.inside stand.unmet

        -- as parsing answers with the room as it was lent
        here : a.refusal ≡ (answer_at capture rows w.place).refusal
        here = ap (λ x. x.refusal) same

        after_is : w.place + size_at capture rows w.place ≡ after_frame
        after_is = ap (λ x. w.place + x.summary.header.bytes) (sym same)

        frame_kept : Entered capture rooms rows k w.place → a.refusal ≡ 0 → Framed after_frame (keep_frame rooms w.place (bytes_at capture w.place a.summary.header.bytes) k)
        frame_kept s ok =
            subst (λ (x : parse.Answer). Framed (w.place + x.summary.header.bytes) (keep_frame rooms w.place (bytes_at capture w.place x.summary.header.bytes) k)) (sym same)
            (kept s (sym here ∙ ok) (moves capture w.place rows (sym here ∙ ok)) (ends_inside capture w.place rows stand.inside))

        second : k.refusal ≡ 0 → (b : Bool) → is_full a.refusal ≡ b
            → Framed after_frame (cond b (refuse no_fields k) (keep_frame rooms w.place (bytes_at capture w.place a.summary.header.bytes) k))
        second z b e = go b e (subst (Entered capture rooms rows k) (c.there z) c.whole.entered)
          where
            go : (b : Bool) → is_full a.refusal ≡ b → Entered capture rooms rows k w.place
                → Framed after_frame (cond b (refuse no_fields k) (keep_frame rooms w.place (bytes_at capture w.place a.summary.header.bytes) k))
            go true e s = record { whole = without_fields s (sym here ∙ eqb-true a.refusal 7 e); there = λ z. absurd (omega arith) }
            go false e s = frame_kept s (accepted_there a.refusal is (eqb-false a.refusal 7 e))

        first : (b : Bool) → eqb k.refusal 0 ≡ b
            → Framed after_frame (cond b (cond (is_full a.refusal) (refuse no_fields k) (keep_frame rooms w.place (bytes_at capture w.place a.summary.header.bytes) k)) k)
        first true e = second (eqb-true k.refusal 0 e) (is_full a.refusal) refl
        first false e = record { whole = c.whole; there = λ z. absurd (eqb-false k.refusal 0 e z) }

    good_onward : Good (onward capture rooms (answer capture w.place w.room) w)
    unfolding onward
    good_onward = go (is_met a.refusal) refl
      where
        go : (b : Bool) → is_met a.refusal ≡ b
            → Good (cond b
            (record { from = after_frame; place = after_frame; kept = meet capture rooms a w.from w.place w.kept; room = after })
            (record { from = w.from; place = w.place + 1; kept = w.kept; room = after }))
        go true e = record {
          whole = (met e).whole;
          going = λ z.
              let there = (met e).there z in
              record { here = sym there.0; ordered = omega arith; inside = ends_inside capture w.place w.room stand.inside; last = there.1; unmet = λ place p q. absurd (omega arith) };
          long = same_room capture w.place w.room ∙ g.long;
        }
        go false e = record {
          whole = g.whole;
          going = λ _. record {
            here = stand.here;
            ordered = omega (arith, stand.ordered);
            inside = omega arith;
            last = stand.last;
            unmet = λ place p q. passed place p q (ltb place w.place) refl (ap (λ x. is_met x.refusal) (sym same) ∙ e);
          };
          long = same_room capture w.place w.room ∙ g.long;
        }

  good_step : (w : Walk) → Good w → Good (step capture rooms w)
  unfolding step
  good_step w g = go (eqb w.kept.refusal 0) (ltb w.place (length capture)) refl refl
    where
      go : (b c : Bool) → eqb w.kept.refusal 0 ≡ b → ltb w.place (length capture) ≡ c
          → Good (cond (b && c) (onward capture rooms (answer capture w.place w.room) w) w)
      go true true e f = good_onward w g (eqb-true _ 0 e) (ltb-true _ _ f)
      go true false e f = g
      go false c e f = g

  good_walk : (n : ℕ) (w : Walk) → Good w → Good (walk capture rooms n w)
  unfolding walk
  good_walk zero w g = g
  good_walk (suc n) w g = good_walk n (step capture rooms w) (good_step w g)

  -- ---- the walk has steps enough

  farther : (n : ℕ) (w : Walk) → (w.kept.refusal ≡ 0 → length capture ≤ w.place + suc n)
      → (step capture rooms w).kept.refusal ≡ 0 → length capture ≤ (step capture rooms w).place + n
  unfolding step onward
  farther n w enough = go (eqb w.kept.refusal 0) (ltb w.place (length capture)) refl refl
    where
      a : parse.Answer
      a = (answer capture w.place w.room).0

      on : w.kept.refusal ≡ 0 → (b : Bool) → is_met a.refusal ≡ b
          → let v : Walk = cond b
          (record { from = w.place + a.summary.header.bytes; place = w.place + a.summary.header.bytes; kept = meet capture rooms a w.from w.place w.kept; room = (answer capture w.place w.room).1 })
          (record { from = w.from; place = w.place + 1; kept = w.kept; room = (answer capture w.place w.room).1 }) in
          v.kept.refusal ≡ 0 → length capture ≤ v.place + n
      on z true is going =
          omega (arith, enough z, moves capture w.place w.room (accepted_there a.refusal is (λ seven. unmet_at_seven capture rooms a seven w.from w.place w.kept going)))
      on z false is going = omega (arith, enough z)

      go : (b c : Bool) → eqb w.kept.refusal 0 ≡ b → ltb w.place (length capture) ≡ c
          → let v : Walk = cond (b && c) (onward capture rooms (answer capture w.place w.room) w) w in
          v.kept.refusal ≡ 0 → length capture ≤ v.place + n
      go true true e f = on (eqb-true w.kept.refusal 0 e) (is_met a.refusal) refl
      go true false e f = λ z. omega (arith, ltb-false w.place (length capture) f)
      go false c e f = λ z. absurd (eqb-false w.kept.refusal 0 e z)

  arrives : (n : ℕ) (w : Walk) → (w.kept.refusal ≡ 0 → length capture ≤ w.place + n)
      → (walk capture rooms n w).kept.refusal ≡ 0 → length capture ≤ (walk capture rooms n w).place
  unfolding walk
  arrives zero w enough = λ z. omega (arith, enough z)
  arrives (suc n) w enough = arrives n (step capture rooms w) (farther n w enough)

  -- ---- the whole of it

  good_start : Good (begun rows)
  unfolding frames_in goes_on
  good_start = record {
    whole = goes_on refl (record { inside = omega arith; tiles = refl; right = tt; apart = tt; output = refl; listed = omega arith; written = omega arith });
    going = λ _. record { here = refl; ordered = omega arith; inside = omega arith; last = tt; unmet = λ place p q. absurd (omega arith) };
    long = refl;
  }

  -- what is kept at the end reaches the capture's end, unless it is refused
  ended : Closed (length capture) (salvage capture rooms rows)
  unfolding salvage walked
  ended = go (eqb w.kept.refusal 0) refl
    where
      w : Walk
      w = walk capture rooms (length capture) (begun rows)

      good : Good w
      good = good_walk (length capture) (begun rows) good_start

      go : (b : Bool) → eqb w.kept.refusal 0 ≡ b → Closed (length capture) (cond b (close_gap rooms w.from w.place w.kept) w.kept)
      go true e =
          let z = eqb-true w.kept.refusal 0 e in
          let o = good.going z in
          let end : w.place ≡ length capture = omega (arith, arrives (length capture) (begun rows) (λ _. omega arith) z, o.inside) in
          let c = closed (subst (Entered capture rooms rows w.kept) (sym o.here) good.whole.entered) z o.last o.ordered o.inside o.unmet in
          record { whole = c.whole; there = λ z. c.there z ∙ end }
      go false e = record { whole = good.whole; there = λ z. absurd (eqb-false w.kept.refusal 0 e z) }

  pub room_long : length (walked capture rooms rows).room ≡ length rows
  unfolding walked
  room_long = (good_walk (length capture) (begun rows) good_start).long

-- ---- entries that tile

tiles_le : (es : List Entry) (from to : ℕ) → Tiles from es to → from ≤ to
tiles_le [] from to t = omega arith
tiles_le (e ∷ es) from to t = omega (arith, tiles_le es (from + e.size) to t.2)

-- an entry does not begin before the first
later : (es : List Entry) (from to : ℕ) → Tiles from es to → (i : ℕ) → i < length es → from ≤ (get_or es i (frame 0 0)).place
later [] from to t i h = absurd (omega arith)
later (e ∷ es) from to t zero h = omega (arith, t.0)
later (e ∷ es) from to t (suc i) h = omega (arith, later es (from + e.size) to t.2 i (omega arith))

-- a byte that the first entry covers is in no other, and one past it is in one of the others
module _ (byte : ℕ) (e : Entry) (es : List Entry) (from to : ℕ) (t : Tiles from (e ∷ es) to) (h : from ≤ byte) where
  in_first : byte < from + e.size → InOne byte (e ∷ es)
  in_first before = record { index = 0; listed = omega arith; covers = (omega (arith, t.0), omega (arith, t.0)); only = only }
    where
      only : (other : ℕ) → other < length (e ∷ es) → Covers byte (get_or (e ∷ es) other (frame 0 0)) → other ≡ 0
      only zero h c = refl
      only (suc i) h c = absurd (omega (arith, later es (from + e.size) to t.2 i (omega arith), c.0))

  in_others : from + e.size ≤ byte → InOne byte es → InOne byte (e ∷ es)
  in_others past rest = record { index = suc rest.index; listed = omega (arith, rest.listed); covers = rest.covers; only = only }
    where
      only : (other : ℕ) → other < length (e ∷ es) → Covers byte (get_or (e ∷ es) other (frame 0 0)) → other ≡ suc rest.index
      only zero h c = absurd (omega (arith, t.0, c.1))
      only (suc i) h c = ap suc (rest.only i (omega arith) c)

  either : (b : Bool) → ltb byte (from + e.size) ≡ b → (from + e.size ≤ byte → InOne byte es) → InOne byte (e ∷ es)
  either true first rest = in_first (ltb-true byte (from + e.size) first)
  either false first rest = let past = ltb-false byte (from + e.size) first in in_others past (rest past)

in_one : (byte : ℕ) (es : List Entry) (from to : ℕ) → Tiles from es to → from ≤ byte → byte < to → InOne byte es
in_one byte [] from to t h k = absurd (omega arith)
in_one byte (e ∷ es) from to t h k = either byte e es from to t h (ltb byte (from + e.size)) refl (λ past. in_one byte es (from + e.size) to t.2 past k)

-- frames that tile are the bytes from the first to the last
tiled : (capture : List ℕ) (es : List Entry) (from to : ℕ) → Tiles from es to → Each IsFrame es → frames_in capture es ≡ bytes_at capture from (to - from)
unfolding frames_in
tiled capture [] from to t all = let nothing_left : to - from ≡ 0 = omega arith in rw nothing_left
tiled capture (e ∷ es) from to t all =
    let sizes : to - from ≡ e.size + (to - (from + e.size)) = omega (arith, tiles_le es (from + e.size) to t.2) in
    rw (eq-eqb e.kind 0 all.0, tiled capture es (from + e.size) to t.2 all.1, t.0, sizes)
    (ap (λ l. bytes_at capture from e.size ++ take (to - (from + e.size)) l) (sym (drop-drop e.size from capture))
    ∙ sym (take-add e.size (to - (from + e.size)) (drop from capture)))

pub salvages : (capture : List ℕ) (rooms : Rooms) (rows : List ℤ) → Salvages capture rooms rows
salvages capture rooms rows =
    let end = ended capture rooms rows in
    let k = salvage capture rooms rows in
    let tiles : k.refusal ≡ 0 → Tiles 0 k.entries (length capture) = λ z. subst (λ n. Tiles 0 k.entries n) (end.there z) end.whole.entered.tiles in
    record {
      whole = end.whole;
      all = end.there;
      each_byte = λ z byte h. in_one byte k.entries 0 (length capture) (tiles z) (omega arith) h;
      same = λ z frames. end.whole.entered.output ∙ tiled capture k.entries 0 (length capture) (tiles z) frames ∙ take_all (length capture - 0) capture (omega arith);
      enough_fields = λ enough z. row_bound.never_seven (call capture end.whole.reach rows) enough (end.whole.lacks_fields z);
    }

-- ---- what was lent

at_front : (xs run : List ℕ) {used : ℕ} → length xs ≡ used → used ≤ length run → Rest run (in_front xs run) used
at_front xs run {used} long fits = record {
  within = fits;
  long = length_in_front xs run (omega (arith, long, fits));
  rest = drop_at xs (drop (length xs) run) used long ∙ ap (λ n. drop n run) long;
}

pub untouched : (capture : List ℕ) (rows : List ℤ) (list out : List ℕ) → Untouched capture rows list out
untouched capture rows list out =
    let rooms = rooms_in list out in
    let k = salvage capture rooms rows in
    let entered = (salvages capture rooms rows).whole.entered in
    record {
      list_rest = at_front (numbers k.entries) list (length_numbers k.entries) (omega (arith, entered.listed));
      out_rest = at_front k.output out refl entered.written;
      rows_long = room_long capture rooms rows;
    }
