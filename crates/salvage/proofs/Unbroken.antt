-- A capture of frames end to end comes out the same: every step keeps the frame at its place, and no gap opens. Assumes nothing.
use mathlib.Core.List.{List, [], ◌∷◌}
use mathlib.Core.Path.{◌≡◌, refl, sym, ap, subst, ◌∙◌}
use Prim.Native.Nat.{ℕ, zero, suc, ◌+◌, ◌≤◌, ◌<◌}
use native.Mathlib.Omega.{arith}
use borrow.Author.Tests.{lt-ltb, le-ltb, le-leb, eq-eqb, ne_eqb}
use lib.IntN.{ℤ}
use lib.ListN.{length, drop, length-append, length-drop}
use lib.Seq.{length-take-le}
use Rattle.ac3.specs.Frame.{answer}
use Rattle.ac3.specs.declared.Answer as parse
use Rattle.salvage.specs.Walk.{frame, Rooms, Kept, with, bytes_at, close_gap, keep_frame, Walk, begun, meet, onward, step, walk, walked, salvage}
use Rattle.salvage.specs.Salvages.{answer_at, Each, IsFrame, Frames, ComesOutTheSame}
use Rattle.salvage.proofs.Loop.{stays, ended_over}
use Rattle.salvage.proofs.Salvages.{each_more, salvages}
use Rattle.salvage.proofs.Parsed.{moves, ends_inside, same_answer, same_room}

module _ (capture : List ℕ) (rooms : Rooms) (rows : List ℤ) where
  -- the walk has kept frames alone, as far as its place
  record Framed (w : Walk) : Type 0 where
    pub going : w.kept.refusal ≡ 0
    pub here : w.from ≡ w.place
    pub inside : w.place ≤ length capture
    pub frames : Each IsFrame w.kept.entries
    pub written : length w.kept.output ≡ w.place
    pub long : length w.room ≡ length rows

  no_gap : (place : ℕ) (k : Kept) → close_gap rooms place place k ≡ k
  unfolding close_gap
  no_gap place k = rw (le-ltb place place (omega arith))

  module _ (w : Walk) (f : Framed w) (ok : (answer_at capture rows w.place).refusal ≡ 0) (more : length w.kept.entries < rooms.entries)
      (space : length capture ≤ rooms.bytes) where
    abbrev a : parse.Answer
    a = (answer capture w.place w.room).0

    abbrev size : ℕ
    size = a.summary.header.bytes

    abbrev bytes : List ℕ
    bytes = bytes_at capture w.place size

    taken : a.refusal ≡ 0
    taken = ap (λ x. x.refusal) (same_answer capture w.place w.room rows f.long) ∙ ok

    some : 0 < size
    some = moves capture w.place w.room taken

    fits : w.place + size ≤ length capture
    fits = ends_inside capture w.place w.room f.inside

    size_is : length bytes ≡ size
    size_is = length-take-le size (drop w.place capture) (omega (arith, fits, length-drop w.place capture))

    kept : meet capture rooms a w.from w.place w.kept ≡ with (frame w.place (length bytes)) bytes w.kept
    unfolding meet keep_frame
    kept =
        let seven : ¬ (a.refusal ≡ 7) = λ e. omega (arith, taken, e) in
        let room : length w.kept.output + length bytes ≤ rooms.bytes = omega (arith, size_is, fits, f.written) in
        rw (f.here, no_gap w.place w.kept, eq-eqb w.kept.refusal 0 f.going, ne_eqb a.refusal 7 seven, lt-ltb _ _ more, le-leb _ _ room)

    next : Walk
    next = record { from = w.place + size; place = w.place + size; kept = with (frame w.place (length bytes)) bytes w.kept; room = (answer capture w.place w.room).1 }

    steps : step capture rooms w ≡ next
    unfolding step onward next
    steps = rw (eq-eqb w.kept.refusal 0 f.going, lt-ltb w.place (length capture) (omega (arith, some, fits)), eq-eqb a.refusal 0 taken, kept)

    framed : Framed next
    unfolding next
    framed = record {
      going = refl;
      here = refl;
      inside = fits;
      frames = each_more IsFrame w.kept.entries (frame w.place (length bytes)) f.frames refl;
      written = length-append w.kept.output bytes ∙ omega (arith, size_is, f.written);
      long = same_room capture w.place w.room ∙ f.long;
    }

    -- the frames that follow stand where the walk goes on
    onto : (n : ℕ) → Frames capture rows n (w.place + (answer_at capture rows w.place).summary.header.bytes) → Frames capture rows n next.place
    unfolding next
    onto n frames = subst (λ x. Frames capture rows n (w.place + x.summary.header.bytes)) (sym (same_answer capture w.place w.room rows f.long)) frames

    one_more : length next.kept.entries ≡ length w.kept.entries + 1
    unfolding next
    one_more = length-append w.kept.entries (frame w.place (length bytes) ∷ [])

  -- so many frames on, the walk stands at the end
  record Ended (w : Walk) : Type 0 where
    pub framed : Framed w
    pub end : w.place ≡ length capture

  walks : (n m : ℕ) (w : Walk) → Framed w → Frames capture rows n w.place → length w.kept.entries + n ≤ rooms.entries → length capture ≤ rooms.bytes → n ≤ m
      → Ended (walk capture rooms m w)
  unfolding walk
  walks zero m w f at room space h =
      rw (stays capture rooms w (ended_over capture rooms w (omega (arith, at))) m) (record { framed = f; end = at })
  walks (suc n) zero w f frames room space h = absurd (omega arith)
  walks (suc n) (suc m) w f frames room space h =
      let more : length w.kept.entries < rooms.entries = omega arith in
      rw (steps w f frames.0 more space)
      (walks n m (next w f frames.0 more space) (framed w f frames.0 more space) (onto w f frames.0 more space n frames.1)
      (omega (arith, one_more w f frames.0 more space)) space (omega arith))

  -- each frame has a byte at least
  few : (n place : ℕ) → Frames capture rows n place → place + n ≤ length capture
  few zero place at = omega (arith, at)
  few (suc n) place frames = omega (arith, few n _ frames.1, moves capture place rows frames.0)

  -- no gap is open at the end
  whole : Ended (walk capture rooms (length capture) (begun rows)) → salvage capture rooms rows ≡ (walk capture rooms (length capture) (begun rows)).kept
  unfolding salvage walked
  whole end =
      let w = walk capture rooms (length capture) (begun rows) in
      rw (eq-eqb w.kept.refusal 0 end.framed.going, end.framed.here, no_gap w.place w.kept)

  pub comes_out_the_same : ComesOutTheSame capture rooms rows
  comes_out_the_same count frames room space =
      let fresh : Framed (begun rows) = record { going = refl; here = refl; inside = omega arith; frames = tt; written = refl; long = refl } in
      let end = walks count (length capture) (begun rows) fresh frames (omega arith) space (omega (arith, few count 0 frames)) in
      let same = whole end in
      let fine : (salvage capture rooms rows).refusal ≡ 0 = ap (λ k. k.refusal) same ∙ end.framed.going in
      (fine, (salvages capture rooms rows).same fine (subst (λ k. Each IsFrame k.entries) (sym same) end.framed.frames))
