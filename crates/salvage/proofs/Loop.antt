-- The loop's invariant: what is left to walk from here is the whole walk. One law for each way round and out. Assumes nothing.
use mathlib.Core.Bool.{Bool, true, false, cond, ◌&&◌, ◌||◌}
use mathlib.Core.List.{List}
use mathlib.Core.Path.{◌≡◌, refl, sym, ap, subst, ◌∙◌}
use Prim.Native.Nat.{ℕ, zero, suc, ◌+◌, ◌≤◌, ◌<◌}
use native.Mathlib.Omega.{arith}
use borrow.Author.Tests.{lt-ltb, le-ltb, eq-eqb, ne_eqb, eqb-true, eqb-false}
use lib.Dec.{eqb}
use lib.IntN.{ℤ}
use lib.ListN.{length}
use Rattle.ac3.specs.Frame.{answer}
use Rattle.ac3.specs.declared.Answer as parse
use Rattle.salvage.specs.Walk.{Rooms, Kept, nothing, no_fields, refuse, ◌then◌, close_gap, is_met, Walk, meet, onward, goes, step, walk, walked, salvage}
use Rattle.salvage.specs.Lent.{numbers, shown, rooms_in, salvaged, Holds, Does}
use Rattle.salvage.specs.Refusals.{Answer}
use Rattle.salvage.proofs.Lent.{refusal_of_lem, list_length, out_length}
use Rattle.salvage.specs.Passed.{Passed}
use Rattle.salvage.proofs.Unsynced.{passed_inside}
use Rattle.salvage.proofs.Skip.{some_room, skipped}
use Rattle.salvage.proofs.Parsed.{moves, ends_inside}

-- ---- a step of the walk

module _ (capture : List ℕ) (rooms : Rooms) where
  module _ (w : Walk) (over : goes capture rooms w ≡ false) where
    pub stays : (n : ℕ) → walk capture rooms n w ≡ w
    unfolding walk step
    stays zero = refl
    stays (suc n) = rw over (stays n)

  pub refused_over : (w : Walk) → ¬ (w.kept.refusal ≡ 0) → goes capture rooms w ≡ false
  refused_over w h = rw (ne_eqb w.kept.refusal 0 h)

  pub ended_over : (w : Walk) → length capture ≤ w.place → goes capture rooms w ≡ false
  ended_over w h = rw (le-ltb w.place (length capture) h) (neither (eqb w.kept.refusal 0))
    where
      neither : (b : Bool) → b && false ≡ false
      neither true = refl
      neither false = refl

  record Ahead (n : ℕ) (w : Walk) : Type 0 where
    pub left : ℕ
    pub enough : length capture ≤ w.place + 1 + left
    pub same : walk capture rooms n w ≡ walk capture rooms left (onward capture rooms (answer capture w.place w.room) w)

  ahead : (n : ℕ) (w : Walk) → length capture ≤ w.place + n → w.kept.refusal ≡ 0 → w.place < length capture → Ahead n w
  unfolding walk step
  ahead zero w enough going inside = absurd (omega arith)
  ahead (suc n) w enough going inside = record {
    left = n;
    enough = omega arith;
    same = rw (eq-eqb w.kept.refusal 0 going, lt-ltb w.place (length capture) inside);
  }

-- ---- places that need no parse

module _ (capture : List ℕ) (rooms : Rooms) (from : ℕ) (kept : Kept) (going : kept.refusal ≡ 0) where
  abbrev at : (place : ℕ) (room : List ℤ) → Walk
  at place room = record { from = from; place = place; kept = kept; room = room }

  goes_there : (place : ℕ) (room : List ℤ) → place < length capture → goes capture rooms (at place room) ≡ true
  goes_there place room inside = rw (eq-eqb kept.refusal 0 going, lt-ltb place (length capture) inside)

  abbrev steps : ℕ → (place : ℕ) (room : List ℤ) → Walk
  steps n place room = walk capture rooms n (at place room)

  by_one : (n place : ℕ) (room : List ℤ) → place < length capture → (answer capture place room).0.refusal ≡ 2 → steps (suc n) place room ≡ steps n (place + 1) (answer capture place room).1
  unfolding walk step onward
  by_one n place room inside two = rw (goes_there place room inside, two)

  alike : (n place : ℕ) (room other : List ℤ) → place < length capture → answer capture place room ≡ answer capture place other → steps (suc n) place room ≡ steps (suc n) place other
  unfolding walk step onward
  alike n place room other inside same = rw (goes_there place room inside, same)

-- ---- a frame that was met and kept was accepted

stopped_at : (k : Kept) → (k then refuse no_fields).refusal ≡ 0 → ⊥
stopped_at k = go (eqb k.refusal 0) refl
  where
    go : (b : Bool) → eqb k.refusal 0 ≡ b → (cond b (refuse no_fields k) k).refusal ≡ 0 → ⊥
    go true e zero_is = omega (arith, zero_is)
    go false e zero_is = eqb-false k.refusal 0 e zero_is

pub unmet_at_seven : (capture : List ℕ) (rooms : Rooms) (a : parse.Answer) → a.refusal ≡ 7 → (from place : ℕ) (k : Kept)
    → (meet capture rooms a from place k).refusal ≡ 0 → ⊥
unfolding meet
unmet_at_seven capture rooms a seven from place k e = stopped_at (close_gap rooms from place k) (rw (eq-eqb a.refusal 7 seven) at e)

pub accepted_there : (n : ℕ) → is_met n ≡ true → ¬ (n ≡ 7) → n ≡ 0
accepted_there n met not_seven = go (eqb n 0) refl met
  where
    go : (b : Bool) → eqb n 0 ≡ b → b || eqb n 7 ≡ true → n ≡ 0
    go true e _ = eqb-true n 0 e
    go false e seven = absurd (not_seven (eqb-true n 7 seven))

-- ---- the invariant

module _ (capture : List ℕ) (rows₀ : List ℤ) (list₀ out₀ : List ℕ) where
  abbrev rooms : Rooms
  rooms = rooms_in list₀ out₀

  pub record Going (rows : List ℤ) (list out : List ℕ) (done : Answer) (from place : ℕ) : Type 0 where
    pub kept : Kept
    pub left : ℕ
    pub inside : place ≤ length capture
    pub enough : length capture ≤ place + left
    pub going : kept.refusal ≡ 0
    pub holds : Holds list₀ out₀ (done, (list, out)) kept
    pub same : walk capture rooms left (record { from = from; place = place; kept = kept; room = rows }) ≡ walked capture rooms rows₀
    pub long : length rows ≡ length rows₀
    pub list_long : length list ≡ length list₀
    pub out_long : length out ≡ length out₀

  pub begins : Going rows₀ list₀ out₀ (record { refusal = 0; entries = 0; bytes = 0 }) 0 0
  unfolding walked numbers
  begins = record {
    kept = nothing;
    left = length capture;
    inside = omega arith;
    enough = omega arith;
    going = refl;
    holds = record { same = refl; listed = omega arith; written = omega arith };
    same = refl;
    long = refl;
    list_long = refl;
    out_long = refl;
  }

  -- the walk's end, told
  finished : (w : Walk) → w ≡ walked capture rooms rows₀ → {told : Answer × (List ℕ × List ℕ)}
      → told ≡ shown list₀ out₀ (w.kept then close_gap rooms w.from w.place)
      → (told, w.room) ≡ salvaged capture rows₀ list₀ out₀
  unfolding salvage
  finished w whole same =
      λ i. ((same ∙ ap (λ v. shown list₀ out₀ (v.kept then close_gap rooms v.from v.place)) whole) i, (whole i).room)

  module _ {rows after : List ℤ} {list out : List ℕ} {done : Answer} {from place : ℕ} {a : parse.Answer} (g : Going rows list out done from place)
      (more : place < length capture) (parsed : (a, after) ≡ answer capture place rows) (long : length after ≡ length rows) where
    abbrev here : Walk
    here = record { from = from; place = place; kept = g.kept; room = rows }

    abbrev next : Ahead capture rooms g.left here
    next = ahead capture rooms g.left here g.enough g.going more

    on : walk capture rooms next.left (onward capture rooms (a, after) here) ≡ walked capture rooms rows₀
    on = ap (λ x. walk capture rooms next.left (onward capture rooms x here)) parsed ∙ sym next.same ∙ g.same

    -- where no frame is met the walk goes on by one byte, and past the places that need no parse
    module _ (unmet : is_met a.refusal ≡ false) where
      one_on : walk capture rooms next.left (at capture rooms from g.kept g.going (place + 1) after) ≡ walked capture rooms rows₀
      unfolding onward
      one_on = rw unmet at on

      not_full : ¬ ((answer capture place rows).0.refusal ≡ 7)
      not_full seven = let z : ◌≡◌ {A = ℕ} 0 1 = ap (λ b. cond b 0 1) (sym (ap is_met (ap (λ x. x.0.refusal) parsed ∙ seven)) ∙ unmet) in omega (arith, z)

      pub passes : {to : ℕ} → Passed capture (place + 1) to → Going after list out done from to
      passes {to} passed =
          let past =
          skipped capture (steps capture rooms from g.kept g.going) (by_one capture rooms from g.kept g.going) (alike capture rooms from g.kept g.going)
          next.left (place + 1) to after next.enough (λ six. omega (arith, long, some_room capture place rows not_full (omega (arith, six)))) passed in
          record {
            kept = g.kept;
            left = past.left;
            inside = passed_inside passed (omega arith);
            enough = past.enough;
            going = g.going;
            holds = g.holds;
            same = sym past.same ∙ one_on;
            long = long ∙ g.long;
            list_long = g.list_long;
            out_long = g.out_long;
          }

    pub within : place + a.summary.header.bytes ≤ length capture
    within = rw (ap (λ x. x.0) parsed) (ends_inside capture place rows g.inside)

    module _ {list' out' : List ℕ} {d : Answer} (met : is_met a.refusal ≡ true)
        (does : Does (λ rooms. meet capture rooms a from place) (done, (list, out)) (d, (list', out'))) where
      abbrev size : ℕ
      size = a.summary.header.bytes

      abbrev held : Holds list₀ out₀ (d, (list', out')) (meet capture rooms a from place g.kept)
      held = does.does list₀ out₀ g.kept g.holds

      abbrev there : Walk
      there = record { from = place + size; place = place + size; kept = meet capture rooms a from place g.kept; room = after }

      arrives : walk capture rooms next.left there ≡ walked capture rooms rows₀
      unfolding onward
      arrives = rw met at on

      going_there : d.refusal ≡ 0 → there.kept.refusal ≡ 0
      going_there going = sym (refusal_of_lem held) ∙ going

      pub moves_on : d.refusal ≡ 0 → 0 < size
      moves_on going =
          rw (ap (λ x. x.0) parsed)
          (moves capture place rows (sym (ap (λ x. x.0.refusal) parsed) ∙ accepted_there a.refusal met (λ seven. unmet_at_seven capture rooms a seven from place g.kept (going_there going))))

      past_it : d.refusal ≡ 0 → Going after list' out' d (place + size) (place + size)
      past_it going = record {
        kept = meet capture rooms a from place g.kept;
        left = next.left;
        inside = within;
        enough = omega (arith, next.enough, moves_on going);
        going = going_there going;
        holds = held;
        same = arrives;
        long = long ∙ g.long;
        list_long = list_length held;
        out_long = out_length held;
      }

      pub goes_on : {n : ℕ} → n ≡ size → d.refusal ≡ 0 → Going after list' out' d (place + n) (place + n)
      goes_on same going = subst (λ n. Going after list' out' d (place + n) (place + n)) (sym same) (past_it going)

      pub refuses : ¬ (d.refusal ≡ 0) → ((d, (list', out')), after) ≡ salvaged capture rows₀ list₀ out₀
      refuses stop =
          let never : ¬ (there.kept.refusal ≡ 0) = λ z. stop (refusal_of_lem held ∙ z) in
          let whole : there ≡ walked capture rooms rows₀ = sym (stays capture rooms there (refused_over capture rooms there never) next.left) ∙ arrives in
          finished there whole (rw (ne_eqb there.kept.refusal 0 never) held.same)

  pub ends : {rows : List ℤ} {list list' out : List ℕ} {done d : Answer} {from place : ℕ} → Going rows list out done from place
      → length capture ≤ place
      → Does (λ rooms. close_gap rooms from place) (done, (list, out)) (d, (list', out))
      → ((d, (list', out)), rows) ≡ salvaged capture rows₀ list₀ out₀
  ends {rows} {from = from} {place = place} g end does =
      let w : Walk = record { from = from; place = place; kept = g.kept; room = rows } in
      let whole : w ≡ walked capture rooms rows₀ = sym (stays capture rooms w (ended_over capture rooms w end) g.left) ∙ g.same in
      let held = does.does list₀ out₀ g.kept g.holds in
      finished w whole (rw (eq-eqb g.kept.refusal 0 g.going) held.same)
