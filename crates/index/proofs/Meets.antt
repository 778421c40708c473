-- The entries are the frames that a salvage meets before the first place that is refused with 1 or 4: until there both walks stand at the same
-- places with rooms of the same length. Assumes nothing.
use mathlib.Core.Bool.{Bool, true, false, cond, ◌||◌}
use mathlib.Core.List.{List, [], ◌∷◌, ◌++◌, map, append_assoc, append-nil}
use mathlib.Core.Path.{◌≡◌, refl, sym, ap, subst, ◌∙◌}
use Prim.Native.Nat.{ℕ, zero, suc, ◌+◌, ◌≤◌, ◌<◌}
use native.Mathlib.Decide.{dec_le}
use native.Mathlib.Omega.{arith}
use borrow.Author.Tests.{eqb-true, eqb-false, eq-eqb, lt-ltb}
use lib.Dec.{eqb, leb, ltb}
use lib.IntN.{ℤ}
use lib.ListN.{length, drop, get_or, length-drop}
use lib.Seq.{length-take-le}
use Rattle.ac3.specs.Frame.{answer}
use Rattle.ac3.specs.Later.{is_short}
use Rattle.ac3.specs.Promise.{Call, call, answer_to}
use Rattle.ac3.specs.declared.Answer as parse
use Rattle.salvage.specs.Salvages.{answer_at, Each}
use Rattle.salvage.specs.Walk.{frame, gap, Rooms, Kept, no_output, no_entry, no_fields, refuse, with, close_gap, keep_frame, is_full, is_met, bytes_at, begun, meet, onward, step, salvage, walked}
use Rattle.salvage.specs.Walk as salvage
use Rattle.salvage.proofs.Loop.{stays, refused_over, ended_over, unmet_at_seven, accepted_there}
use Rattle.salvage.proofs.Parsed.{ends_inside, same_answer, same_room}
use Rattle.index.specs.Index.{entry_of, is_over, ◌before◌, met, stride, Walk, walk, walk_from}
use Rattle.index.specs.Indexes.{frames_in, Inside, MeetsFrames}
use Rattle.index.specs.declared.outcome.Entry.{Entry}
use Rattle.index.proofs.Walks.{never, not_short, stops_there, goes_on, nothing_there, inside_there, strides}

over_of : (n : ℕ) → is_over n ≡ true → ¬ (n ≡ 7) → is_short n ≡ true
over_of n is not_full = go (is_short n) is
  where
    go : (b : Bool) → b || is_full n ≡ true → b ≡ true
    go true e = refl
    go false e = absurd (not_full (eqb-true n 7 e))

unmet_zero : (n : ℕ) → is_met n ≡ false → eqb n 0 ≡ false
unmet_zero n un = go (eqb n 0) un
  where
    go : (b : Bool) → b || is_full n ≡ false → b ≡ false
    go true e = e
    go false e = refl

-- ---- the frames of a list

abbrev as_frame : Entry → salvage.Entry
as_frame e = frame e.place e.size

frames_more : (es : List salvage.Entry) (e : salvage.Entry) → frames_in (es ++ (e ∷ [])) ≡ frames_in es ++ frames_in (e ∷ [])
unfolding frames_in
frames_more [] e = refl
frames_more (x ∷ es) e = ap (λ l. cond (eqb x.kind 0) (x ∷ []) [] ++ l) (frames_more es e) ∙ sym (append_assoc (cond (eqb x.kind 0) (x ∷ []) []) (frames_in es) (frames_in (e ∷ [])))

each_append : (P : salvage.Entry → Type 0) (es fs : List salvage.Entry) → Each P es → Each P fs → Each P (es ++ fs)
each_append P [] fs a b = b
each_append P (e ∷ es) fs a b = (a.0, each_append P es fs a.1 b)

each_map : (P Q : salvage.Entry → Type 0) (es : List salvage.Entry) → ((e : salvage.Entry) → P e → Q e) → Each P es → Each Q es
each_map P Q [] f a = tt
each_map P Q (e ∷ es) f a = (f e a.0, each_map P Q es f a.1)

module _ (capture : List ℕ) (rooms : Rooms) where
  gap_closed : (from to : ℕ) (k : Kept) → frames_in (close_gap rooms from to k).entries ≡ frames_in k.entries
  unfolding close_gap frames_in
  gap_closed from to k = go (ltb from to) (ltb (length k.entries) rooms.entries)
    where
      go : (b c : Bool) → frames_in (cond b (cond c (with (gap from to) [] k) (refuse no_entry k)) k).entries ≡ frames_in k.entries
      go true true = frames_more k.entries (gap from to) ∙ append-nil (frames_in k.entries)
      go true false = refl
      go false c = refl

  frame_kept : (place : ℕ) (bytes : List ℕ) (k : Kept) → (keep_frame rooms place bytes k).refusal ≡ 0
      → frames_in (keep_frame rooms place bytes k).entries ≡ frames_in k.entries ++ (frame place (length bytes) ∷ [])
  unfolding keep_frame frames_in
  frame_kept place bytes k = go (ltb (length k.entries) rooms.entries) (leb (length k.output + length bytes) rooms.bytes)
    where
      go : (b c : Bool) → let r = cond b (cond c (with (frame place (length bytes)) bytes k) (refuse no_output k)) (refuse no_entry k) in
          r.refusal ≡ 0 → frames_in r.entries ≡ frames_in k.entries ++ (frame place (length bytes) ∷ [])
      go true true z = frames_more k.entries (frame place (length bytes))
      go true false z = absurd (omega (arith, z))
      go false c z = absurd (omega (arith, z))

  frame_met : (a : parse.Answer) (from place : ℕ) (k : Kept) → a.refusal ≡ 0 → place + a.summary.header.bytes ≤ length capture
      → (meet capture rooms a from place k).refusal ≡ 0
      → frames_in (meet capture rooms a from place k).entries ≡ frames_in k.entries ++ (frame place a.summary.header.bytes ∷ [])
  unfolding meet
  frame_met a from place k ok inside = go (eqb closed.refusal 0) refl (is_full a.refusal) (ap is_full ok)
    where
      closed : Kept
      closed = close_gap rooms from place k

      size : ℕ
      size = a.summary.header.bytes

      long : length (bytes_at capture place size) ≡ size
      long = length-take-le size (drop place capture) (omega (arith, inside, length-drop place capture))

      go : (b : Bool) → eqb closed.refusal 0 ≡ b → (c : Bool) → c ≡ false
          → let r = cond b (cond c (refuse no_fields closed) (keep_frame rooms place (bytes_at capture place size) closed)) closed in
          r.refusal ≡ 0 → frames_in r.entries ≡ frames_in k.entries ++ (frame place size ∷ [])
      go true e true f z = never f
      go true e false f z =
          frame_kept place (bytes_at capture place size) closed z
          ∙ (λ i. gap_closed from place k i ++ (frame place (long i) ∷ []))
      go false e c f z = absurd (eqb-false closed.refusal 0 e z)

  -- ---- the salvage's walk, as long as it is not refused

  abbrev sails : ℕ → salvage.Walk → salvage.Walk
  sails = salvage.walk capture rooms

  -- one that is not refused at the end was not refused before
  unrefused : (n : ℕ) (w : salvage.Walk) → (sails n w).kept.refusal ≡ 0 → w.kept.refusal ≡ 0
  unrefused n w z = go (eqb w.kept.refusal 0) refl
    where
      go : (b : Bool) → eqb w.kept.refusal 0 ≡ b → w.kept.refusal ≡ 0
      go true e = eqb-true w.kept.refusal 0 e
      go false e =
          let stop = eqb-false w.kept.refusal 0 e in
          sym (ap (λ w. w.kept.refusal) (stays capture rooms w (refused_over capture rooms w stop) n)) ∙ z

  next : (n : ℕ) (w : salvage.Walk) → w.kept.refusal ≡ 0 → w.place < length capture → sails (suc n) w ≡ sails n (onward capture rooms (answer capture w.place w.room) w)
  unfolding salvage.walk step
  next n w going inside = rw (eq-eqb w.kept.refusal 0 going, lt-ltb w.place (length capture) inside)

  module _ (w : salvage.Walk) where
    abbrev a : parse.Answer
    a = (answer capture w.place w.room).0

    abbrev left : List ℤ
    left = (answer capture w.place w.room).1

    abbrev past : salvage.Walk
    past = record { from = w.place + a.summary.header.bytes; place = w.place + a.summary.header.bytes; kept = meet capture rooms a w.from w.place w.kept; room = left }

    abbrev by_one : salvage.Walk
    by_one = record { from = w.from; place = w.place + 1; kept = w.kept; room = left }

    meets_there : is_met a.refusal ≡ true → onward capture rooms (a, left) w ≡ past
    unfolding onward
    meets_there is = rw is

    passes_there : is_met a.refusal ≡ false → onward capture rooms (a, left) w ≡ by_one
    unfolding onward
    passes_there is = rw is

  -- what it lists from a place on
  record Later (w : salvage.Walk) (place : ℕ) (ahead : List salvage.Entry) (end : salvage.Walk) : Type 0 where
    pub later : List salvage.Entry
    pub frames : frames_in end.kept.entries ≡ frames_in w.kept.entries ++ (ahead ++ later)
    pub behind : Each (λ e. place ≤ e.place) later

  none_yet : (w : salvage.Walk) (place : ℕ) {end : salvage.Walk} → end ≡ w → Later w place [] end
  none_yet w place is = record { later = []; frames = ap (λ w. frames_in w.kept.entries) is ∙ sym (append-nil (frames_in w.kept.entries)); behind = tt }

  -- a step of it
  data Stepped (n : ℕ) (w : salvage.Walk) : Type 0 where
    ended_there : length capture ≤ w.place → sails (suc n) w ≡ w → Stepped n w
    met_there : w.place < length capture → (a w).refusal ≡ 0 → (meet capture rooms (a w) w.from w.place w.kept).refusal ≡ 0 → sails (suc n) w ≡ sails n (past w) → Stepped n w
    passed_there : w.place < length capture → is_met (a w).refusal ≡ false → sails (suc n) w ≡ sails n (by_one w) → Stepped n w

  stepped : (n : ℕ) (w : salvage.Walk) → (sails (suc n) w).kept.refusal ≡ 0 → Stepped n w
  stepped n w z = go (dec_le (length capture) w.place)
    where
      going : w.kept.refusal ≡ 0
      going = unrefused (suc n) w z

      here : w.place < length capture → (b : Bool) → is_met (a w).refusal ≡ b → Stepped n w
      here inside true is =
          let there = next n w going inside ∙ ap (sails n) (meets_there w is) in
          let kept = unrefused n (past w) (ap (λ w. w.kept.refusal) (sym there) ∙ z) in
          met_there inside (accepted_there (a w).refusal is (λ seven. unmet_at_seven capture rooms (a w) seven w.from w.place w.kept kept)) kept there
      here inside false is = passed_there inside is (next n w going inside ∙ ap (sails n) (passes_there w is))

      go : Dec (length capture ≤ w.place) → Stepped n w
      go (Dec.yes h) = ended_there h (stays capture rooms w (ended_over capture rooms w h) (suc n))
      go (Dec.no h) = here (omega arith) (is_met (a w).refusal) refl

  -- the frame that was met comes first
  first_met : (w : salvage.Walk) {reach : ℕ} {ahead : List salvage.Entry} {end end' : salvage.Walk} → w.place ≤ length capture → (a w).refusal ≡ 0
      → (meet capture rooms (a w) w.from w.place w.kept).refusal ≡ 0 → end' ≡ end → Later (past w) reach ahead end
      → Later w reach (frame w.place (a w).summary.header.bytes ∷ ahead) end'
  first_met w {reach} {ahead} {end} {end'} inside ok kept is l = record {
    later = l.later;
    frames = ap (λ w. frames_in w.kept.entries) is ∙ l.frames
        ∙ ap (λ es. es ++ (ahead ++ l.later)) (frame_met (a w) w.from w.place w.kept ok (ends_inside capture w.place w.room inside) kept)
        ∙ append_assoc (frames_in w.kept.entries) (frame w.place (a w).summary.header.bytes ∷ []) (ahead ++ l.later);
    behind = l.behind;
  }

  onwards : (w : salvage.Walk) {reach : ℕ} {ahead : List salvage.Entry} {end end' : salvage.Walk} → end' ≡ end → Later (by_one w) reach ahead end → Later w reach ahead end'
  onwards w is l = record { later = l.later; frames = ap (λ w. frames_in w.kept.entries) is ∙ l.frames; behind = l.behind }

  -- nothing is listed that lies before
  all_later : (w : salvage.Walk) {reach from : ℕ} {ahead : List salvage.Entry} {end : salvage.Walk} → from ≤ reach → Each (λ e. from ≤ e.place) ahead → Later w reach ahead end → Later w from [] end
  all_later w {reach} {from} {ahead} less front l = record {
    later = ahead ++ l.later;
    frames = l.frames;
    behind = each_append (λ e. from ≤ e.place) ahead l.later front (each_map (λ e. reach ≤ e.place) (λ e. from ≤ e.place) l.later (λ e h. omega (arith, h, less)) l.behind);
  }

  grows : (n : ℕ) (w : salvage.Walk) → w.place ≤ length capture → (sails n w).kept.refusal ≡ 0 → Later w w.place [] (sails n w)
  unfolding salvage.walk
  grows zero w inside z = none_yet w w.place refl
  grows (suc n) w inside z =
      go (stepped n w z) (grows n (past w) (ends_inside capture w.place w.room inside)) (λ more. grows n (by_one w) (omega (arith, more)))
    where
      go : Stepped n w → ((sails n (past w)).kept.refusal ≡ 0 → Later (past w) (past w).place [] (sails n (past w)))
          → (w.place < length capture → (sails n (by_one w)).kept.refusal ≡ 0 → Later (by_one w) (by_one w).place [] (sails n (by_one w)))
          → Later w w.place [] (sails (suc n) w)
      go (ended_there h is) met on = none_yet w w.place is
      go (met_there more ok kept is) met on =
          all_later w (omega arith) (omega arith, tt) (first_met w inside ok kept is (met (ap (λ w. w.kept.refusal) (sym is) ∙ z)))
      go (passed_there more un is) met on = all_later w (omega arith) tt (onwards w is (on more (ap (λ w. w.kept.refusal) (sym is) ∙ z)))

  -- until the index's walk ends both stand at the same places
  together : (n : ℕ) (w : salvage.Walk) → w.place ≤ length capture → (sails n w).kept.refusal ≡ 0
      → Later w (walk capture n w.place w.room).reach (map as_frame (walk capture n w.place w.room).entries) (sails n w)
  unfolding salvage.walk walk
  together zero w inside z = none_yet w w.place refl
  together (suc n) w inside z =
      go (is_over (a w).refusal) refl (stepped n w z) (together n (past w) (ends_inside capture w.place w.room inside)) (λ more. together n (by_one w) (omega (arith, more)))
    where
      Both : (end : salvage.Walk) (v : Walk) → Type 0
      Both end v = Later w v.reach (map as_frame v.entries) end

      rest : ℕ → Walk
      rest p = walk capture n p (left w)

      step_is : is_over (a w).refusal ≡ false → (b : Bool) → eqb (a w).refusal 0 ≡ b
          → walk capture (suc n) w.place w.room ≡ cond b (entry_of (call capture w.place w.room) ∷ []) [] before rest (w.place + cond b (a w).summary.header.bytes 1)
      step_is on b e = goes_on capture n w.place w.room on ∙ (λ i. cond (e i) (entry_of (call capture w.place w.room) ∷ []) [] before rest (w.place + cond (e i) (a w).summary.header.bytes 1))

      go : (b : Bool) → is_over (a w).refusal ≡ b → Stepped n w
          → ((sails n (past w)).kept.refusal ≡ 0 → Later (past w) (rest (w.place + (a w).summary.header.bytes)).reach (map as_frame (rest (w.place + (a w).summary.header.bytes)).entries) (sails n (past w)))
          → (w.place < length capture → (sails n (by_one w)).kept.refusal ≡ 0 → Later (by_one w) (rest (w.place + 1)).reach (map as_frame (rest (w.place + 1)).entries) (sails n (by_one w)))
          → Both (sails (suc n) w) (walk capture (suc n) w.place w.room)
      go true is s met on = subst (Both (sails (suc n) w)) (sym (stops_there capture n w.place w.room is)) (grows (suc n) w inside z)
      go false is (ended_there h end) met on = absurd (omega (arith, inside_there capture w.place w.room is, h))
      go false is (met_there more ok kept end) met on =
          subst (Both (sails (suc n) w)) (sym (step_is is true (eq-eqb (a w).refusal 0 ok)))
          (first_met w inside ok kept end (met (ap (λ w. w.kept.refusal) (sym end) ∙ z)))
      go false is (passed_there more un end) met on =
          subst (Both (sails (suc n) w)) (sym (step_is is false (unmet_zero (a w).refusal un)))
          (onwards w end (on more (ap (λ w. w.kept.refusal) (sym end) ∙ z)))

  -- the last gap is no frame
  whole : (rows : List ℤ) → (salvage capture rooms rows).refusal ≡ 0
      → (later : List salvage.Entry)
      × (frames_in (salvage capture rooms rows).entries ≡ map as_frame (walk_from capture 0 rows).entries ++ later)
      × Each (λ e. (walk_from capture 0 rows).reach ≤ e.place) later
  unfolding salvage walked frames_in
  whole rows z = go (eqb w.kept.refusal 0) refl z
    where
      w : salvage.Walk
      w = sails (length capture) (begun rows)

      go : (b : Bool) → eqb w.kept.refusal 0 ≡ b → let r = cond b (close_gap rooms w.from w.place w.kept) w.kept in
          r.refusal ≡ 0
          → (later : List salvage.Entry) × (frames_in r.entries ≡ map as_frame (walk_from capture 0 rows).entries ++ later) × Each (λ e. (walk_from capture 0 rows).reach ≤ e.place) later
      go true e z =
          let l = together (length capture) (begun rows) (omega arith) (eqb-true w.kept.refusal 0 e) in
          (l.later, gap_closed w.from w.place w.kept ∙ l.frames, l.behind)
      go false e z = absurd (eqb-false w.kept.refusal 0 e z)

-- ---- where the index's walk ends

module _ (capture : List ℕ) (rows : List ℤ) where
  abbrev short_at : ℕ → Bool
  short_at place = is_short (answer_at capture rows place).refusal

  alike : (place : ℕ) (room : List ℤ) → length room ≡ length rows → (answer capture place room).0.refusal ≡ (answer_at capture rows place).refusal
  alike place room long = ap (λ a. a.refusal) (same_answer capture place room rows long)

  ended : (n place : ℕ) (room : List ℤ) → length room ≡ length rows → length capture ≤ place + n → (walk capture n place room).refusal ≡ 0 → short_at (walk capture n place room).reach ≡ true
  unfolding walk
  ended zero place room long h z = ap is_short (nothing_there capture place rows (omega arith)).0
  ended (suc n) place room long h z =
      go (is_over (answer capture place room).0.refusal) refl
      (λ on.
      let some = strides capture place room on in
      ended n (place + stride (call capture place room)) (answer capture place room).1 (same_room capture place room ∙ long) (omega (arith, some))
      (ap (λ w. w.refusal) (sym (goes_on capture n place room on)) ∙ z))
    where
      c : Call
      c = call capture place room

      full : (b : Bool) → eqb (answer_to c).0.refusal 7 ≡ b → cond b no_fields 0 ≡ 0 → ¬ ((answer_to c).0.refusal ≡ 7)
      full true e z = absurd (omega (arith, z))
      full false e z = eqb-false (answer_to c).0.refusal 7 e

      go : (b : Bool) → is_over (answer_to c).0.refusal ≡ b → (is_over (answer_to c).0.refusal ≡ false → short_at (walk capture n (place + stride c) (answer_to c).1).reach ≡ true)
          → short_at (walk capture (suc n) place room).reach ≡ true
      go true is later =
          let stop = stops_there capture n place room is in
          ap (λ w. short_at w.reach) stop ∙ ap is_short (sym (alike place room long))
          ∙ over_of (answer_to c).0.refusal is (full (eqb (answer_to c).0.refusal 7) refl (ap (λ w. w.refusal) (sym stop) ∙ z))
      go false is later = ap (λ w. short_at w.reach) (goes_on capture n place room is) ∙ later is

  -- a place before, which is too short, lies inside a frame that was met
  abbrev none : Entry
  none = record { place = 0; size = 0; acmod = 0; dialnorm = 0; second = 0 }

  abbrev Within : (q : ℕ) → List Entry → Type 0
  Within q es = (i : ℕ) × (i < length es) × Inside q (get_or es i none)

  within_later : (q : ℕ) (es fs : List Entry) → Within q fs → Within q (es ++ fs)
  within_later q [] fs w = w
  within_later q (e ∷ es) fs w = let (i, less, inside) = within_later q es fs w in (suc i, omega arith, inside)

  first : (n place : ℕ) (room : List ℤ) → length room ≡ length rows → (q : ℕ) → place ≤ q → q < (walk capture n place room).reach → short_at q ≡ true
      → Within q (walk capture n place room).entries
  unfolding walk
  first zero place room long q h k short = absurd (omega arith)
  first (suc n) place room long q h k short =
      go (is_over (answer capture place room).0.refusal) refl (first n (place + stride (call capture place room)) (answer capture place room).1 (same_room capture place room ∙ long) q)
    where
      c : Call
      c = call capture place room

      rest : Walk
      rest = walk capture n (place + stride c) (answer_to c).1

      -- it is not this place
      beyond : is_over (answer_to c).0.refusal ≡ false → place < q
      beyond is = go (dec_le q place)
        where
          go : Dec (q ≤ place) → place < q
          go (Dec.yes same) =
              let here : q ≡ place = omega arith in
              never (sym short ∙ ap short_at here ∙ ap is_short (sym (alike place room long)) ∙ not_short (answer_to c).0.refusal is)
          go (Dec.no later) = omega arith

      inside : place < q → q < place + stride c → (b : Bool) → eqb (answer_to c).0.refusal 0 ≡ b → Within q (cond b (entry_of c ∷ []) [] ++ rest.entries)
      inside past less true e = (0, omega arith, (past, subst (λ n. q < place + n) (ap (λ b. cond b (answer_to c).0.summary.header.bytes 1) e) less))
      inside past less false e = absurd (omega (arith, past, less, ap (λ b. cond b (answer_to c).0.summary.header.bytes 1) e))

      go : (b : Bool) → is_over (answer_to c).0.refusal ≡ b → (place + stride c ≤ q → q < rest.reach → short_at q ≡ true → Within q rest.entries)
          → Within q (walk capture (suc n) place room).entries
      go true is later = absurd (omega (arith, h, subst (λ w. q < w.reach) (stops_there capture n place room is) k))
      go false is later = subst (λ w. Within q w.entries) (sym (goes_on capture n place room is)) (either (dec_le (place + stride c) q))
        where
          either : Dec (place + stride c ≤ q) → Within q (met c ++ rest.entries)
          either (Dec.yes past) = within_later q (met c) rest.entries (later past (subst (λ w. q < w.reach) (goes_on capture n place room is) k) short)
          either (Dec.no less) = inside (beyond is) (omega arith) (eqb (answer_to c).0.refusal 0) refl

pub meets_frames : MeetsFrames
meets_frames capture rows going = record {
  ended = ended capture rows (length capture) 0 rows refl (omega arith) going;
  first = λ place h short. first capture rows (length capture) 0 rows refl place (omega arith) h short;
  frames = λ rooms z. whole capture rooms rows z;
}
