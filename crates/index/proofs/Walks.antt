-- Laws of the walk. It has steps enough; it ends at the capture's end at the latest; each frame is so long that it can be counted by bytes;
-- and what it meets owes to the field room its length alone. Assumes nothing.
use mathlib.Core.Bool.{Bool, true, false, cond, ◌||◌}
use mathlib.Core.List.{List, [], ◌∷◌, ◌++◌, append_assoc}
use mathlib.Core.Path.{◌≡◌, refl, sym, ap, subst, ◌∙◌}
use Prim.Native.Nat.{ℕ, zero, suc, ◌+◌, ◌-◌, ◌*◌, ◌/◌, ◌≤◌, ◌<◌}
use native.Mathlib.Decide.{dec_le}
use native.Mathlib.Omega.{arith}
use borrow.Author.Tests.{eqb-true, ne_eqb}
use lib.Dec.{eqb}
use lib.IntN.{ℤ, pos}
use lib.ListN.{length, drop, replicate, length-append, length-drop, length-replicate, drop_of_length-le}
use lib.Seq.{drop-append_seam, drop-append-le, drop-append-add, drop-drop}
use Rattle.syntax.specs.Numbers.{row_width}
use Rattle.syntax.specs.Place.{exec, fresh, flatten}
use Rattle.syntax.specs.Run.{rows_of}
use Rattle.ac3.specs.Frame.{syncframe, answered, answer}
use Rattle.ac3.specs.Later.{is_short}
use Rattle.ac3.specs.Promise.{Call, call, listed, answer_to}
use Rattle.ac3.specs.RowBound.{most_rows}
use Rattle.ac3.specs.declared.Answer as parse
use Rattle.ac3.proofs.Promise.{promised}
use Rattle.ac3.proofs.RowBound.{row_bound}
use Rattle.ac3.proofs.Rooms.{length_flatten}
use Rattle.ac3.proofs.Told.{told_nothing}
use Rattle.rows.specs.Framed.{shortest, SameFrame}
use Rattle.rows.proofs.Framed.{accepted_framed, rows_count}
use Rattle.salvage.specs.Walk.{no_fields, is_full}
use Rattle.salvage.proofs.Parsed.{ends_inside, same_room}
use Rattle.index.specs.Index.{entry_of, Walk, is_over, over, ◌before◌, met, stride, walk}

pub never : {P : Type 0} → true ≡ false → P
never e = let z : ◌≡◌ {A = ℕ} 0 1 = ap (λ b. cond b 0 1) e in absurd (omega (arith, z))

-- what does not end the walk is not too short
pub not_short : (n : ℕ) → is_over n ≡ false → is_short n ≡ false
not_short n on = go (is_short n) on
  where
    go : (b : Bool) → b || is_full n ≡ false → b ≡ false
    go true e = e
    go false e = refl

-- ---- one step

module _ (capture : List ℕ) (n place : ℕ) (room : List ℤ) where
  abbrev c : Call
  c = call capture place room

  abbrev a : parse.Answer
  a = (answer_to c).0

  pub stops_there : is_over a.refusal ≡ true → walk capture (suc n) place room ≡ over (cond (is_full a.refusal) no_fields 0) place (answer_to c).1
  unfolding walk
  stops_there is = rw is

  pub goes_on : is_over a.refusal ≡ false → walk capture (suc n) place room ≡ met c before walk capture n (place + stride c) (answer_to c).1
  unfolding walk
  goes_on is = rw is

  pub accepts : a.refusal ≡ 0 → walk capture (suc n) place room ≡ (entry_of c ∷ []) before walk capture n (place + a.summary.header.bytes) (answer_to c).1
  unfolding walk
  accepts ok = rw ok

  pub passes : is_over a.refusal ≡ false → ¬ (a.refusal ≡ 0) → walk capture (suc n) place room ≡ walk capture n (place + 1) (answer_to c).1
  passes is not-zero = goes_on is ∙ rw (ne_eqb a.refusal 0 not-zero)

-- ---- the capture's end

module _ (capture : List ℕ) where
  pub nothing_there : (place : ℕ) (room : List ℤ) → length capture ≤ place → ((answer capture place room).0.refusal ≡ 1) × ((answer capture place room).1 ≡ room)
  nothing_there place room h =
      let told = ap (λ s. answered (exec syncframe s (fresh room))) (drop_of_length-le capture h) ∙ sym (told_nothing room) in
      (ap (λ x. x.0.refusal) told, ap (λ x. x.1) told)

  pub at_end : (n place : ℕ) (room : List ℤ) → length capture ≤ place → walk capture n place room ≡ over 0 place room
  unfolding walk
  at_end zero place room h = refl
  at_end (suc n) place room h = let nothing = nothing_there place room h in rw (nothing.0, nothing.1)

  -- a step that goes on stands before the end
  pub inside_there : (place : ℕ) (room : List ℤ) → is_over (answer capture place room).0.refusal ≡ false → place < length capture
  inside_there place room on = go (dec_le (length capture) place)
    where
      go : Dec (length capture ≤ place) → place < length capture
      go (Dec.yes h) = never (sym (ap is_over (nothing_there place room h).0) ∙ on)
      go (Dec.no h) = omega arith

-- ---- where a step that goes on leads to

module _ (capture : List ℕ) (place : ℕ) (room : List ℤ) (on : is_over (answer capture place room).0.refusal ≡ false) where
  abbrev here : Call
  here = call capture place room

  pub strides : 0 < stride here
  strides = go (eqb (answer_to here).0.refusal 0) refl
    where
      go : (b : Bool) → eqb (answer_to here).0.refusal 0 ≡ b → 0 < cond b (answer_to here).0.summary.header.bytes 1
      go true e = omega (arith, (accepted_framed here (eqb-true _ 0 e)).some)
      go false e = omega arith

  pub stays_inside : place + stride here ≤ length capture
  stays_inside = go (eqb (answer_to here).0.refusal 0)
    where
      go : (b : Bool) → place + cond b (answer_to here).0.summary.header.bytes 1 ≤ length capture
      go true = ends_inside capture place room (omega (arith, inside_there capture place room on))
      go false = omega (arith, inside_there capture place room on)

  -- each frame that is met takes up so many bytes
  pub takes_up : length (met here) * shortest ≤ stride here
  takes_up = go (eqb (answer_to here).0.refusal 0) refl
    where
      go : (b : Bool) → eqb (answer_to here).0.refusal 0 ≡ b → length (cond b (entry_of here ∷ []) []) * shortest ≤ cond b (answer_to here).0.summary.header.bytes 1
      go true e = omega (arith, (accepted_framed here (eqb-true _ 0 e)).some)
      go false e = omega arith

-- ---- steps enough

module _ (capture : List ℕ) where
  pub enough : (n m place : ℕ) (room : List ℤ) → length capture ≤ place + n → length capture ≤ place + m → walk capture n place room ≡ walk capture m place room
  unfolding walk
  enough zero m place room h k = sym (at_end capture m place room (omega arith))
  enough (suc n) zero place room h k = at_end capture (suc n) place room (omega arith)
  enough (suc n) (suc m) place room h k =
      go (is_over (answer capture place room).0.refusal) refl
      (λ some. enough n m (place + stride (call capture place room)) (answer capture place room).1 (omega (arith, some)) (omega (arith, some)))
    where
      c : Call
      c = call capture place room

      there : ℕ → Walk
      there n = walk capture n (place + stride c) (answer_to c).1

      go : (b : Bool) → is_over (answer_to c).0.refusal ≡ b → (0 < stride c → there n ≡ there m) → walk capture (suc n) place room ≡ walk capture (suc m) place room
      go true e later = stops_there capture n place room e ∙ sym (stops_there capture m place room e)
      go false e later = goes_on capture n place room e ∙ ap (λ w. met c before w) (later (strides capture place room e)) ∙ sym (goes_on capture m place room e)

  abbrev Counts : (place : ℕ) → Walk → Type 0
  Counts place w = length w.entries * shortest + place ≤ length capture

  pub counted : (n place : ℕ) (room : List ℤ) → place ≤ length capture → Counts place (walk capture n place room)
  unfolding walk
  counted zero place room h = omega arith
  counted (suc n) place room h = go (is_over (answer capture place room).0.refusal) refl (counted n (place + stride (call capture place room)) (answer capture place room).1)
    where
      c : Call
      c = call capture place room

      rest : Walk
      rest = walk capture n (place + stride c) (answer_to c).1

      go : (b : Bool) → is_over (answer_to c).0.refusal ≡ b → (place + stride c ≤ length capture → Counts (place + stride c) rest) → Counts place (walk capture (suc n) place room)
      go true e later = subst (Counts place) (sym (stops_there capture n place room e)) (omega arith)
      go false e later =
          subst (Counts place) (sym (goes_on capture n place room e))
          (omega (arith, later (stays_inside capture place room e), takes_up capture place room e, length-append (met c) rest.entries))

  -- with room for the most rows the walk is not stopped
  pub unstopped : (n place : ℕ) (room : List ℤ) → most_rows ≤ length room / row_width → (walk capture n place room).refusal ≡ 0
  unfolding walk
  unstopped zero place room h = refl
  unstopped (suc n) place room h =
      go (is_over (answer capture place room).0.refusal) refl (unstopped n (place + stride (call capture place room)) (answer capture place room).1 (rw (same_room capture place room) h))
    where
      c : Call
      c = call capture place room

      go : (b : Bool) → is_over (answer_to c).0.refusal ≡ b → (walk capture n (place + stride c) (answer_to c).1).refusal ≡ 0 → (walk capture (suc n) place room).refusal ≡ 0
      go true e later = ap (λ w. w.refusal) (stops_there capture n place room e) ∙ rw (ne_eqb (answer_to c).0.refusal 7 (row_bound.never_seven c h))
      go false e later = ap (λ w. w.refusal) (goes_on capture n place room e) ∙ later

  -- one that is stopped is stopped by the field room
  pub stop_number : (n place : ℕ) (room : List ℤ) → ¬ ((walk capture n place room).refusal ≡ 0) → (walk capture n place room).refusal ≡ no_fields
  unfolding walk
  stop_number zero place room stop = absurd (stop refl)
  stop_number (suc n) place room stop =
      go (is_over (answer capture place room).0.refusal) refl (stop_number n (place + stride (call capture place room)) (answer capture place room).1)
    where
      c : Call
      c = call capture place room

      which : (b : Bool) → ¬ (cond b no_fields 0 ≡ 0) → cond b no_fields 0 ≡ no_fields
      which true not-zero = refl
      which false not-zero = absurd (not-zero refl)

      rest : Walk
      rest = walk capture n (place + stride c) (answer_to c).1

      go : (b : Bool) → is_over (answer_to c).0.refusal ≡ b → (¬ (rest.refusal ≡ 0) → rest.refusal ≡ no_fields) → (walk capture (suc n) place room).refusal ≡ no_fields
      go true e later =
          let is = ap (λ w. w.refusal) (stops_there capture n place room e) in
          is ∙ which (is_full (answer_to c).0.refusal) (λ z. stop (is ∙ z))
      go false e later = let is = ap (λ w. w.refusal) (goes_on capture n place room e) in is ∙ later (λ z. stop (is ∙ z))

-- ---- of the room the length alone counts

-- what was met, without the room
abbrev pub bare : Walk → Walk
bare w = record { entries = w.entries; refusal = w.refusal; reach = w.reach; room = [] }

module _ (capture : List ℕ) where
  pub same_frame : (place : ℕ) (room other : List ℤ) → length room ≡ length other → SameFrame (call capture place other) (call capture place room)
  same_frame place room other long = rows_count (call capture place other) (call capture place room) refl (ap (λ n. n / row_width) long)

  pub same_entry_lem : (place : ℕ) (room other : List ℤ) → length room ≡ length other → entry_of (call capture place room) ≡ entry_of (call capture place other)
  same_entry_lem place room other long = let same = same_frame place room other long in rw (same.answer, same.rows)

  pub same_walk : (n place : ℕ) (room other : List ℤ) → length room ≡ length other → bare (walk capture n place room) ≡ bare (walk capture n place other)
  unfolding walk
  same_walk zero place room other long = refl
  same_walk (suc n) place room other long =
      go (is_over (answer capture place other).0.refusal) refl
      (λ on. same_walk n on (answer capture place room).1 (answer capture place other).1 (same_room capture place room ∙ long ∙ sym (same_room capture place other)))
    where
      c : Call
      c = call capture place room

      d : Call
      d = call capture place other

      same : (answer_to c).0 ≡ (answer_to d).0
      same = (same_frame place room other long).answer

      rest : ℕ → List ℤ → Walk
      rest on after = bare (walk capture n on after)

      go : (b : Bool) → is_over (answer_to d).0.refusal ≡ b → ((on : ℕ) → rest on (answer_to c).1 ≡ rest on (answer_to d).1) → bare (walk capture (suc n) place room) ≡ bare (walk capture (suc n) place other)
      go true e later =
          ap bare (stops_there capture n place room (ap (λ a. is_over a.refusal) same ∙ e))
          ∙ ap (λ a. over (cond (is_full a.refusal) no_fields 0) place []) same
          ∙ sym (ap bare (stops_there capture n place other e))
      go false e later =
          ap bare (goes_on capture n place room (ap (λ a. is_over a.refusal) same ∙ e))
          ∙ (λ i.
          cond (eqb (same i).refusal 0) (same_entry_lem place room other long i ∷ []) []
          before rest (place + cond (eqb (same i).refusal 0) (same i).summary.header.bytes 1) (answer_to c).1)
          ∙ ap (λ w. met d before w) (later (place + stride d))
          ∙ sym (ap bare (goes_on capture n place other e))

-- ---- the room after a walk: some numbers in front, which are the same whatever the room held

over_over : (f g room : List ℤ) → g ++ drop (length g) (f ++ drop (length f) room) ≡ (g ++ drop (length g) f) ++ drop (length (g ++ drop (length g) f)) room
over_over f g room =
    ap (λ l. g ++ l) (go (dec_le (length g) (length f))) ∙ sym (append_assoc g (drop (length g) f) _)
  where
    long : length (g ++ drop (length g) f) ≡ length g + (length f - length g)
    long = length-append g (drop (length g) f) ∙ ap (λ n. length g + n) (length-drop (length g) f)

    go : Dec (length g ≤ length f) → drop (length g) (f ++ drop (length f) room) ≡ drop (length g) f ++ drop (length (g ++ drop (length g) f)) room
    go (Dec.yes h) =
        let same : length f ≡ length (g ++ drop (length g) f) = omega (arith, long) in
        drop-append-le (length g) f (drop (length f) room) h ∙ ap (λ n. drop (length g) f ++ drop n room) same
    go (Dec.no h) =
        let same : length f + (length g - length f) ≡ length (g ++ drop (length g) f) = omega (arith, long) in
        let past : length g ≡ length f + (length g - length f) = omega arith in
        ap (λ n. drop n (f ++ drop (length f) room)) past ∙ drop-append-add f (drop (length f) room) (length g - length f) ∙ drop-drop (length g - length f) (length f) room
        ∙ ap (λ n. drop n room) same ∙ sym (ap (λ l. l ++ drop (length (g ++ drop (length g) f)) room) (drop_of_length-le f {i = length g} (omega arith)))

record Laid (long : ℕ) (leaves : List ℤ → List ℤ) : Type 0 where
  pub front : List ℤ
  pub fits : length front ≤ long
  pub same : (room : List ℤ) → length room ≡ long → leaves room ≡ front ++ drop (length front) room

module _ (capture : List ℕ) (long : ℕ) where
  -- some room of that length
  abbrev some : List ℤ
  some = replicate long (pos 0)

  some_long : length some ≡ long
  some_long = length-replicate {A = ℤ} long (pos 0)

  parse_lays : (place : ℕ) → Laid long (λ room. (answer capture place room).1)
  parse_lays place = record { front = front; fits = fits; same = same }
    where
      front : List ℤ
      front = flatten (rows_of syncframe (drop place capture) (long / row_width))

      same : (room : List ℤ) → length room ≡ long → (answer capture place room).1 ≡ front ++ drop (length front) room
      same room e =
          let rows : listed (call capture place room) ≡ rows_of syncframe (drop place capture) (long / row_width) = ap (λ n. rows_of syncframe (drop place capture) (n / row_width)) e in
          (promised (call capture place room) refl).written
          ∙ ap (λ rs. flatten rs ++ drop (length rs * row_width) room) rows
          ∙ ap (λ n. front ++ drop n room) (sym (length_flatten (rows_of syncframe (drop place capture) (long / row_width))))

      fits : length front ≤ long
      fits =
          let whole = sym (ap length (same some some_long)) ∙ same_room capture place some ∙ some_long in
          omega (arith, whole, length-append front (drop (length front) some))

  walk_lays : (n place : ℕ) → Laid long (λ room. (walk capture n place room).room)
  unfolding walk
  walk_lays zero place = record { front = []; fits = omega arith; same = λ room e. refl }
  walk_lays (suc n) place = go (is_over (answer capture place some).0.refusal) refl (walk_lays n (place + stride (call capture place some)))
    where
      first : Laid long (λ room. (answer capture place room).1)
      first = parse_lays place

      alike : (room : List ℤ) → length room ≡ long → (answer capture place room).0 ≡ (answer capture place some).0
      alike room e = (same_frame capture place room some (e ∙ sym some_long)).answer

      on : ℕ
      on = place + stride (call capture place some)

      go : (b : Bool) → is_over (answer capture place some).0.refusal ≡ b → Laid long (λ room. (walk capture n on room).room) → Laid long (λ room. (walk capture (suc n) place room).room)
      go true is later = record {
        front = first.front;
        fits = first.fits;
        same = λ room e. ap (λ w. w.room) (stops_there capture n place room (ap (λ a. is_over a.refusal) (alike room e) ∙ is)) ∙ first.same room e;
      }
      go false is later =
          record {
            front = later.front ++ drop (length later.front) first.front;
            fits = omega (arith, later.fits, first.fits, length-append later.front (drop (length later.front) first.front), length-drop (length later.front) first.front);
            same = λ room e.
                let there : place + stride (call capture place room) ≡ on = ap (λ (a : parse.Answer). place + cond (eqb a.refusal 0) a.summary.header.bytes 1) (alike room e) in
                ap (λ w. w.room) (goes_on capture n place room (ap (λ a. is_over a.refusal) (alike room e) ∙ is))
                ∙ ap (λ p. (walk capture n p (answer capture place room).1).room) there
                ∙ later.same (answer capture place room).1 (same_room capture place room ∙ e)
                ∙ ap (λ l. later.front ++ drop (length later.front) l) (first.same room e)
                ∙ over_over first.front later.front room;
          }

module _ (capture : List ℕ) (n place : ℕ) (room : List ℤ) where
  abbrev laid : Laid (length room) (λ room. (walk capture n place room).room)
  laid = walk_lays capture (length room) n place

  pub room_long : length (walk capture n place room).room ≡ length room
  room_long = ap length (laid.same room refl) ∙ omega (arith, laid.fits, length-append laid.front (drop (length laid.front) room), length-drop (length laid.front) room)

  -- a second walk with the room that the first one left: the same, and the room stays
  pub again : walk capture n place (walk capture n place room).room ≡ walk capture n place room
  again =
      let met-again = same_walk capture n place (walk capture n place room).room room room_long in
      λ i. record { entries = (met-again i).entries; refusal = (met-again i).refusal; reach = (met-again i).reach; room = left_again i }
    where
      left_again : (walk capture n place (walk capture n place room).room).room ≡ (walk capture n place room).room
      left_again =
          laid.same (walk capture n place room).room room_long
          ∙ ap (λ l. laid.front ++ drop (length laid.front) l) (laid.same room refl)
          ∙ ap (λ l. laid.front ++ l) (drop-append_seam laid.front (drop (length laid.front) room))
          ∙ sym (laid.same room refl)
