-- Whatever walks over a capture by parses may pass over the places that need none: each leaves a row that the next one writes over. Assumes
-- nothing.
use mathlib.Core.List.{List}
use mathlib.Core.Path.{◌≡◌, refl, ap, sym, subst, ◌∙◌}
use Prim.Native.Nat.{ℕ, zero, suc, ◌+◌, ◌-◌, ◌≤◌, ◌<◌}
use native.Mathlib.Decide.{dec_le}
use native.Mathlib.Omega.{arith}
use lib.IntN.{ℤ}
use lib.ListN.{length}
use lib.Seq.{sets}
use Rattle.syntax.specs.Numbers.{row_width}
use Rattle.ac3.specs.Frame.{answer}
use Rattle.salvage.specs.Passed.{Passed}
use Rattle.salvage.proofs.Unsynced.{sync_row, no_row, written_over, refused_there, row_there}

-- a parse that was not refused for want of room had room for a row
pub some_room : (capture : List ℕ) (place : ℕ) (room : List ℤ) → ¬ ((answer capture place room).0.refusal ≡ 7) → place + 6 ≤ length capture → row_width ≤ length room
some_room capture place room not_full six = go (dec_le row_width (length room))
  where
    go : Dec (row_width ≤ length room) → row_width ≤ length room
    go (Dec.yes h) = h
    go (Dec.no h) = absurd (not_full (no_row capture place six room (omega arith)))

-- so many steps from a place on, with a room
module _ {X : Type 0} (capture : List ℕ) (walk : ℕ → ℕ → List ℤ → X)
    (by_one : (n place : ℕ) (room : List ℤ) → place < length capture → (answer capture place room).0.refusal ≡ 2 → walk (suc n) place room ≡ walk n (place + 1) (answer capture place room).1)
    (alike : (n place : ℕ) (room other : List ℤ) → place < length capture → answer capture place room ≡ answer capture place other → walk (suc n) place room ≡ walk (suc n) place other) where
  pub record Skipped (n place to : ℕ) (room : List ℤ) : Type 0 where
    pub left : ℕ
    pub enough : length capture ≤ to + left
    pub same : walk n place room ≡ walk left to room

  skip : (k n place : ℕ) (room : List ℤ) → row_width ≤ length room → length capture ≤ place + n → Passed capture place (place + k) → Skipped n place (place + k) room
  skip zero n place room some enough passed =
      let here : place ≡ place + 0 = omega arith in
      record { left = n; enough = omega arith; same = ap (λ p. walk n p room) here }
  skip (suc k) zero place room some enough passed = absurd (omega (arith, (passed.unsynced place (omega arith) (omega arith)).0))
  skip (suc k) (suc zero) place room some enough passed = absurd (omega (arith, (passed.unsynced place (omega arith) (omega arith)).0))
  skip (suc k) (suc (suc n)) place room some enough passed =
      let (more, unsynced) = passed.unsynced place (omega arith) (omega arith) in
      let six : place + 6 ≤ length capture = omega arith in
      let there : place + 1 + k ≡ place + suc k = omega arith in
      let rest : Passed capture (place + 1) (place + 1 + k) = record { onward = omega arith; unsynced = λ p p-from p-to. passed.unsynced p (omega arith) (omega arith) } in
      let later = subst (λ to. Skipped (suc n) (place + 1) to room) there (skip k (suc n) (place + 1) room some (omega arith) rest) in
      record {
        left = later.left;
        enough = later.enough;
        same = by_one (suc n) place room (omega arith) (refused_there capture place six unsynced room some)
            ∙ ap (walk (suc n) (place + 1)) (row_there capture place six unsynced room some)
            ∙ alike n (place + 1) (sets room 0 (sync_row capture place six)) room (omega arith) (written_over capture (place + 1) (omega arith) room (sync_row capture place six) refl some)
            ∙ later.same;
      }

  pub skipped : (n place to : ℕ) (room : List ℤ) → length capture ≤ place + n → (place + 6 ≤ length capture → row_width ≤ length room) → Passed capture place to
      → Skipped n place to room
  skipped n place to room enough some passed = go (dec_le to place)
    where
      go : Dec (to ≤ place) → Skipped n place to room
      go (Dec.yes h) =
          let here : place ≡ to = omega (arith, passed.onward, h) in
          record { left = n; enough = omega arith; same = ap (λ p. walk n p room) here }
      go (Dec.no h) =
          let (more, _) = passed.unsynced place (omega arith) (omega arith) in
          let there : place + (to - place) ≡ to = omega (arith, passed.onward) in
          subst (λ p. Skipped n place p room) there
          (skip (to - place) n place room (some (omega arith)) enough (subst (λ p. Passed capture place p) (sym there) passed))
