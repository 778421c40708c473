-- The loop's invariant: what is left to walk from here fills in what the whole walk does. One law for each way round and out. Assumes nothing.
use mathlib.Core.Bool.{Bool, true, false, cond}
use mathlib.Core.List.{List, [], ◌∷◌}
use mathlib.Core.Path.{◌≡◌, refl, sym, ap, ◌∙◌}
use Rattle.std.specs.Prelude.{Result, Ok, Err}
use Prim.Native.Nat.{ℕ, zero, suc, ◌+◌, ◌*◌, ◌≤◌, ◌<◌}
use native.Mathlib.Omega.{arith}
use borrow.Author.Tests.{ne_eqb}
use lib.Dec.{eqb, ltb}
use lib.IntN.{ℤ}
use lib.ListN.{length}
use lib.Seq.{sets, length-sets}
use Rattle.ac3.specs.Frame.{answer}
use Rattle.ac3.specs.Later.{is_short}
use Rattle.ac3.specs.Promise.{call}
use Rattle.ac3.specs.declared.Answer as parse
use Rattle.rows.specs.Framed.{shortest}
use Rattle.rows.proofs.Framed.{accepted_framed}
use Rattle.salvage.specs.Passed.{Passed}
use Rattle.salvage.specs.Walk.{is_full}
use Rattle.salvage.proofs.Parsed.{ends_inside, same_room}
use Rattle.salvage.proofs.Skip.{some_room, skipped}
use Rattle.salvage.proofs.Unsynced.{passed_inside}
use Rattle.index.specs.Filled.{put, puts, filled}
use Rattle.index.specs.Index.{entry_of, entry_width, numbers, room_in, Walk, is_over, over, ◌before◌, walk, walk_from}
use Rattle.index.specs.declared.outcome.Entry.{Entry}
use Rattle.index.specs.declared.outcome.Refusal.{Refusal}
use Rattle.index.specs.declared.outcome.Refusal.TheVariants.{NoFields}
use Rattle.index.proofs.Walks.{stops_there, goes_on, accepts, passes, at_end, same_entry_lem}

-- ---- entries that are written

pub put_long : (index : List ℕ) (k : ℕ) (e : Entry) → length (put index k e) ≡ length index
unfolding put
put_long index k e = go (ltb k (room_in index))
  where
    go : (b : Bool) → length (cond b (sets index (k * entry_width) (numbers e)) index) ≡ length index
    go true = length-sets index (k * entry_width) (numbers e)
    go false = refl

-- ---- refusals

short_not_full : (n : ℕ) → is_short n ≡ true → is_full n ≡ false
short_not_full n is = ne_eqb n 7 (λ seven. let z : ◌≡◌ {A = ℕ} 0 1 = ap (λ b. cond b 1 0) (sym (ap is_short seven) ∙ is) in omega (arith, z))

short_over : (n : ℕ) → is_short n ≡ true → is_over n ≡ true
short_over n is = rw is

not_over : (n : ℕ) → is_short n ≡ false → ¬ (n ≡ 7) → is_over n ≡ false
not_over n long not_seven = rw (long, ne_eqb n 7 not_seven)

-- ---- places that need no parse

module _ (capture : List ℕ) where
  by_one : (n place : ℕ) (room : List ℤ) → place < length capture → (answer capture place room).0.refusal ≡ 2
      → walk capture (suc n) place room ≡ walk capture n (place + 1) (answer capture place room).1
  unfolding walk
  by_one n place room inside two = rw two

  alike : (n place : ℕ) (room other : List ℤ) → place < length capture → answer capture place room ≡ answer capture place other
      → walk capture (suc n) place room ≡ walk capture (suc n) place other
  alike n place room other inside same = go (is_over (answer capture place other).0.refusal) refl
    where
      long : length room ≡ length other
      long = sym (same_room capture place room) ∙ ap (λ x. length x.1) same ∙ same_room capture place other

      go : (b : Bool) → is_over (answer capture place other).0.refusal ≡ b → walk capture (suc n) place room ≡ walk capture (suc n) place other
      go true is =
          stops_there capture n place room (ap (λ x. is_over x.0.refusal) same ∙ is)
          ∙ ap (λ x. over (cond (is_full x.0.refusal) 37 0) place x.1) same
          ∙ sym (stops_there capture n place other is)
      go false is =
          goes_on capture n place room (ap (λ x. is_over x.0.refusal) same ∙ is)
          ∙ (λ i.
          cond (eqb (same i).0.refusal 0) (same_entry_lem capture place room other long i ∷ []) []
          before walk capture n (place + cond (eqb (same i).0.refusal 0) (same i).0.summary.header.bytes 1) (same i).1)
          ∙ sym (goes_on capture n place other is)

-- ---- the invariant

module _ (capture : List ℕ) (rows₀ : List ℤ) (index₀ : List ℕ) (entries from : ℕ) where
  abbrev Whole : (Result ℕ Refusal × List ℕ) × List ℤ → Type 0
  Whole told = told ≡ filled index₀ entries (walk_from capture from rows₀)

  pub record Going (rows : List ℤ) (index : List ℕ) (done place : ℕ) : Type 0 where
    pub left : ℕ
    pub inside : place ≤ length capture
    pub enough : length capture ≤ place + left
    pub same : Whole (filled index done (walk capture left place rows))
    pub long : length rows ≡ length rows₀
    pub index_long : length index ≡ length index₀
    -- each entry took up a frame's bytes
    pub counted : done * shortest ≤ entries * shortest + place

  pub begins : from ≤ length capture → Going rows₀ index₀ entries from
  begins h = record { left = length capture; inside = h; enough = omega arith; same = refl; long = refl; index_long = refl; counted = omega arith }

  -- nothing is left to walk
  ended : {index : List ℕ} (done : ℕ) (w : Walk) {refusal reach : ℕ} {after : List ℤ} → w ≡ over refusal reach after
      → Whole (filled index done w) → Whole ((cond (eqb refusal 0) (Ok done) (Err NoFields), index), after)
  unfolding filled puts
  ended {index} done w {refusal} {reach} {after} is same =
      let count : done ≡ done + 0 = omega arith in
      ap (λ n. ((cond (eqb refusal 0) (Ok n) (Err NoFields), index), after)) count ∙ sym (ap (filled index done) is) ∙ same

  pub ends : {rows : List ℤ} {index : List ℕ} {done place : ℕ} → Going rows index done place → length capture ≤ place
      → Whole ((Ok done, index), rows)
  ends {rows} {done = done} {place = place} g end = ended done (walk capture g.left place rows) (at_end capture g.left place rows end) g.same

  module _ {rows after : List ℤ} {index : List ℕ} {done place : ℕ} {a : parse.Answer} (g : Going rows index done place)
      (more : place < length capture) (parsed : (a, after) ≡ answer capture place rows) (long : length after ≡ length rows) where
    refusal_is : (answer capture place rows).0.refusal ≡ a.refusal
    refusal_is = ap (λ x. x.0.refusal) (sym parsed)

    after_is : (answer capture place rows).1 ≡ after
    after_is = ap (λ x. x.1) (sym parsed)

    -- there is a step left
    record Ahead : Type 0 where
      pub left : ℕ
      pub enough : length capture ≤ place + 1 + left
      pub same : Whole (filled index done (walk capture (suc left) place rows))

    ahead : (n : ℕ) → length capture ≤ place + n → Whole (filled index done (walk capture n place rows)) → Ahead
    ahead zero enough same = absurd (omega arith)
    ahead (suc n) enough same = record { left = n; enough = omega arith; same = same }

    abbrev next : Ahead
    next = ahead g.left g.enough g.same

    stops : (number : ℕ) → is_over a.refusal ≡ true → cond (is_full a.refusal) 37 0 ≡ number → Whole ((cond (eqb number 0) (Ok done) (Err NoFields), index), after)
    stops number is which =
        let there = stops_there capture next.left place rows (ap is_over refusal_is ∙ is) in
        ended done (walk capture (suc next.left) place rows) (there ∙ (λ i. over ((ap (λ n. cond (is_full n) 37 0) refusal_is ∙ which) i) place (after_is i))) next.same

    pub full : a.refusal ≡ 7 → Whole ((Err NoFields, index), after)
    full seven = stops 37 (ap is_over seven) (ap (λ n. cond (is_full n) 37 0) seven)

    pub short : is_short a.refusal ≡ true → Whole ((Ok done, index), after)
    short is = stops 0 (short_over a.refusal is) (rw (short_not_full a.refusal is))

    pub within : place + a.summary.header.bytes ≤ length capture
    within = rw (ap (λ x. x.0) parsed) (ends_inside capture place rows g.inside)

    -- no frame: by one byte, and past the places that need no parse
    pub on : ¬ (a.refusal ≡ 7) → is_short a.refusal ≡ false → ¬ (a.refusal ≡ 0) → {to : ℕ} → Passed capture (place + 1) to → Going after index done to
    on not_full not_IsShort not-zero {to} passed =
        let one = passes capture next.left place rows (ap is_over refusal_is ∙ not_over a.refusal not_IsShort not_full) (λ z. not-zero (sym refusal_is ∙ z)) in
        let past =
        skipped capture (walk capture) (by_one capture) (alike capture) next.left (place + 1) to after next.enough
        (λ six. omega (arith, long, some_room capture place rows (λ seven. not_full (sym refusal_is ∙ seven)) (omega (arith, six)))) passed in
        record {
          left = past.left;
          inside = passed_inside passed (omega arith);
          enough = past.enough;
          same = ap (filled index done) (sym past.same ∙ ap (walk capture next.left (place + 1)) (sym after_is) ∙ sym one) ∙ next.same;
          long = long ∙ g.long;
          index_long = g.index_long;
          counted = omega (arith, g.counted, passed.onward);
        }

    module _ (ok : a.refusal ≡ 0) where
      pub moves : shortest ≤ a.summary.header.bytes
      moves = rw (ap (λ x. x.0) parsed) (accepted_framed (call capture place rows) (refusal_is ∙ ok)).some

      pub meets : {bytes : ℕ} {e : Entry} {written : List ℕ} → bytes ≡ a.summary.header.bytes → e ≡ entry_of (call capture place rows) → written ≡ put index done e
          → Going after written (done + 1) (place + bytes)
      unfolding filled puts
      meets {bytes} {e} {written} size is stored = record {
        left = next.left;
        inside = omega (arith, size, within);
        enough = omega (arith, size, next.enough, moves);
        same = ap (λ n. filled written (done + 1) (walk capture next.left (place + n) after)) size ∙ there ∙ next.same;
        long = long ∙ g.long;
        index_long = ap length stored ∙ put_long index done e ∙ g.index_long;
        counted = omega (arith, size, g.counted, moves);
      }
        where
          rest : ℕ → List ℤ → (Result ℕ Refusal × List ℕ) × List ℤ
          rest p room =
              let w = walk capture next.left p room in
              ((cond (eqb w.refusal 0) (Ok (done + suc (length w.entries))) (Err NoFields), puts (put index done (entry_of (call capture place rows))) (done + 1) w.entries), w.room)

          there : filled written (done + 1) (walk capture next.left (place + a.summary.header.bytes) after) ≡ filled index done (walk capture (suc next.left) place rows)
          there =
              let w = walk capture next.left (place + a.summary.header.bytes) after in
              let count : done + 1 + length w.entries ≡ done + suc (length w.entries) = omega arith in
              (λ i. ((cond (eqb w.refusal 0) (Ok (count i)) (Err NoFields), puts ((stored ∙ ap (put index done) is) i) (done + 1) w.entries), w.room))
              ∙ (λ i. rest (place + (parsed i).0.summary.header.bytes) (parsed i).1)
              ∙ sym (ap (filled index done) (accepts capture next.left place rows (refusal_is ∙ ok)))
