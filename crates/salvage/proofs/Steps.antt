-- What each way through the code makes of what is kept: one law for each `return`. Assumes nothing.
use mathlib.Core.Bool.{cond}
use mathlib.Core.List.{List, [], ◌∷◌, ◌++◌}
use mathlib.Core.Path.{◌≡◌, sym, ◌∙◌}
use Prim.Native.Nat.{ℕ, ◌+◌, ◌*◌, ◌/◌, ◌≤◌, ◌<◌}
use native.Mathlib.Nat.{add-zero}
use native.Mathlib.Omega.{arith}
use borrow.Author.Tests.{lt-ltb, le-ltb, le-leb, lt-leb, eq-eqb, ne_eqb}
use lib.ListN.{length, take, drop, take-append-drop}
use lib.Seq.{sets}
use Rattle.ac3.specs.declared.Answer as parse
use Rattle.salvage.specs.Walk.{entry_width, Rooms, Kept, no_output, no_entry, no_fields, refuse, frame, gap, ◌then◌, close_gap, keep_frame, is_full, bytes_at, meet}
use Rattle.salvage.specs.Lent.{in_front, rooms_in, Holds, Does}
use Rattle.salvage.specs.Refusals.{number, Answer}
use Rattle.salvage.specs.declared.outcome.Refusal.{Refusal}
use Rattle.salvage.specs.declared.outcome.Refusal.TheVariants.{NoOutput, NoEntry, NoFields}
use Rattle.salvage.proofs.Lent.{entries_of, bytes_of, refusal_of_lem, list_length, out_length, stops, goes_on}

-- no refusal has the number that tells of none
pub not_none : (r : Refusal) → ¬ (number r ≡ 0)
not_none NoOutput z = absurd (omega (arith, z))
not_none NoEntry z = absurd (omega (arith, z))
not_none NoFields z = absurd (omega (arith, z))

abbrev told : ℕ → Answer → Answer
told n d = record { refusal = n; entries = d.entries; bytes = d.bytes }

module _ {done : Answer} {l o : List ℕ} where
  -- an entry of the list that is there, and one that is not
  row_left : {list out : List ℕ} {k : Kept} → Holds list out (done, (l, o)) k → done.entries < length l / entry_width → length k.entries < length list / entry_width
  row_left h left = rw (← entries_of h, ← list_length h) left

  no_row_left : {list out : List ℕ} {k : Kept} → Holds list out (done, (l, o)) k → length l / entry_width ≤ done.entries → length list / entry_width ≤ length k.entries
  no_row_left h left = rw (← entries_of h, ← list_length h) left

  module _ {from to : ℕ} where
    pub no_gap : to ≤ from → Does (λ rooms. close_gap rooms from to) (done, (l, o)) (done, (l, o))
    unfolding close_gap
    no_gap none = record { does = λ list out k h. rw (le-ltb from to none) h }

    pub gap_refused : from < to → length l / entry_width ≤ done.entries → Does (λ rooms. close_gap rooms from to) (done, (l, o)) (told no_entry done, (l, o))
    unfolding close_gap
    gap_refused some full = record { does = λ list out k h. rw (lt-ltb from to some, le-ltb _ _ (no_row_left h full)) (stops h no_entry) }

    pub gap_entered : {l' : List ℕ} → from < to → done.entries < length l / entry_width
        → l' ≡ sets l (done.entries * entry_width) ((gap from to).kind ∷ from ∷ (gap from to).size ∷ [])
        → Does (λ rooms. close_gap rooms from to) (done, (l, o)) (record { refusal = 0; entries = done.entries + 1; bytes = done.bytes }, (l', o))
    unfolding close_gap
    gap_entered some left stores = record {
      does = λ list out k h.
          rw (lt-ltb from to some, lt-ltb _ _ (row_left h left))
          (goes_on h (gap from to) [] (row_left h left) (omega (arith, h.written)) (sym (add-zero done.bytes)) stores (sym (take-append-drop done.bytes o)));
    }

  module _ (place : ℕ) (bytes : List ℕ) where
    pub frame_unlisted : length l / entry_width ≤ done.entries → Does (λ rooms. keep_frame rooms place bytes) (done, (l, o)) (told no_entry done, (l, o))
    unfolding keep_frame
    frame_unlisted full = record { does = λ list out k h. rw (le-ltb _ _ (no_row_left h full)) (stops h no_entry) }

    pub frame_unwritten : done.entries < length l / entry_width → length o < done.bytes + length bytes
        → Does (λ rooms. keep_frame rooms place bytes) (done, (l, o)) (told no_output done, (l, o))
    unfolding keep_frame
    frame_unwritten left small = record {
      does = λ list out k h. rw (lt-ltb _ _ (row_left h left), lt-leb (length k.output + length bytes) (length out) (omega (arith, bytes_of h, out_length h, small))) (stops h no_output);
    }

    pub frame_kept : {b : ℕ} {l' o' : List ℕ} → done.entries < length l / entry_width → done.bytes + length bytes ≤ length o
        → b ≡ done.bytes + length bytes
        → l' ≡ sets l (done.entries * entry_width) (0 ∷ place ∷ length bytes ∷ [])
        → o' ≡ take done.bytes o ++ in_front bytes (drop done.bytes o)
        → Does (λ rooms. keep_frame rooms place bytes) (done, (l, o)) (record { refusal = 0; entries = done.entries + 1; bytes = b }, (l', o'))
    unfolding keep_frame
    frame_kept left fits size stores writes = record {
      does = λ list out k h.
          let space : length k.output + length bytes ≤ length out = omega (arith, bytes_of h, out_length h, fits) in
          rw (lt-ltb _ _ (row_left h left), le-leb _ _ space)
          (goes_on h (frame place (length bytes)) bytes (row_left h left) space size stores writes);
    }

-- ---- one step after the other

module _ {f : Rooms → Kept → Kept} (g : Rooms → Kept → Kept) {a : Answer × (List ℕ × List ℕ)} {d : Answer} {l o : List ℕ} where
  pub stopped : ¬ (d.refusal ≡ 0) → Does f a (d, (l, o)) → Does (λ rooms k. f rooms k then g rooms) a (d, (l, o))
  stopped not-Going first = record {
    does = λ list out k h.
        let after = first.does list out k h in
        rw (ne_eqb (f (rooms_in list out) k).refusal 0 (λ z. not-Going (refusal_of_lem after ∙ z))) after;
  }

  pub followed : {b : Answer × (List ℕ × List ℕ)} → d.refusal ≡ 0 → Does f a (d, (l, o)) → Does g (d, (l, o)) b → Does (λ rooms k. f rooms k then g rooms) a b
  followed going first second = record {
    does = λ list out k h.
        let after = first.does list out k h in
        rw (eq-eqb (f (rooms_in list out) k).refusal 0 (sym (refusal_of_lem after) ∙ going)) (second.does list out _ after);
  }

-- ---- a frame is met

-- what is done once the gap before it is entered
abbrev kept : (capture : List ℕ) (a : parse.Answer) (place : ℕ) → Rooms → Kept → Kept
kept capture a place rooms k = cond (is_full a.refusal) (refuse no_fields k) (keep_frame rooms place (bytes_at capture place a.summary.header.bytes) k)

module _ (capture : List ℕ) (a : parse.Answer) (from place : ℕ) {before : Answer × (List ℕ × List ℕ)} {d : Answer} {l o : List ℕ}
    (closed : Does (λ rooms. close_gap rooms from place) before (d, (l, o))) where
  pub met_stopped : ¬ (d.refusal ≡ 0) → Does (λ rooms. meet capture rooms a from place) before (d, (l, o))
  unfolding meet
  met_stopped not-Going = stopped (kept capture a place) not-Going closed

  pub met_without_rows : d.refusal ≡ 0 → a.refusal ≡ 7 → Does (λ rooms. meet capture rooms a from place) before (told no_fields d, (l, o))
  unfolding meet
  met_without_rows going seven = followed (kept capture a place) going closed (record { does = λ list out k h. rw (eq-eqb a.refusal 7 seven) (stops h no_fields) })

  pub met_kept : {after : Answer × (List ℕ × List ℕ)} {bytes : List ℕ} → d.refusal ≡ 0 → ¬ (a.refusal ≡ 7)
      → bytes ≡ bytes_at capture place a.summary.header.bytes
      → Does (λ rooms. keep_frame rooms place bytes) (d, (l, o)) after
      → Does (λ rooms. meet capture rooms a from place) before after
  unfolding meet
  met_kept going not_seven same keeps =
      followed (kept capture a place) going closed (record { does = λ list out k h. rw (ne_eqb a.refusal 7 not_seven, ← same) (keeps.does list out k h) })
