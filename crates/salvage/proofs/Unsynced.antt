-- Where six bytes are left a parse writes the first row, whatever it finds. So what the parse before left there does not matter, if it was that
-- row alone: as where no sync word stands. Assumes nothing.
use mathlib.Core.Bool.{Bool, true, false}
use mathlib.Core.List.{List, ◌++◌}
use mathlib.Core.Path.{◌≡◌, refl, sym, ap, ◌∙◌}
use Prim.Native.Nat.{ℕ, suc, ◌+◌, ◌-◌, ◌*◌, ◌/◌, ◌≤◌, ◌<◌}
use native.Mathlib.Decide.{dec_le}
use native.Mathlib.Omega.{arith}
use borrow.Author.Tests.{le-ltb, eq-eqb, ne_eqb, eqb-true, eqb-false}
use lib.Dec.{eqb}
use lib.IntN.{ℤ}
use lib.ListN.{length, drop, get_or, length-drop}
use lib.Seq.{sets, length-sets, get_or-drop, drop_at}
use Rattle.bits.specs.Bits.{value}
use Rattle.writer.proofs.Written.{in_front_lem}
use Rattle.syntax.specs.declared.Item.{Item}
use Rattle.syntax.specs.declared.Refusal.{Refusal}
use Rattle.syntax.specs.declared.Role.TheVariants.{Sync}
use Rattle.syntax.specs.Grammar.{Grammar, field, frame, ◌>>=◌, roled}
use Rattle.syntax.specs.Names as Name
use Rattle.syntax.specs.Numbers.{row_width, numbers}
use Rattle.syntax.specs.Place.{no, except, exec, fresh, put, stand, limit_to}
use Rattle.syntax.specs.Refusals.{not_sync, full}
use Rattle.syntax.specs.Run.{Row, steering, row, room_check, check}
use Rattle.header.specs.Header.{syncinfo, header}
use Rattle.ac3.specs.Frame.{syncframe, answered, answer}
use Rattle.rows.proofs.Spelt.{spelt}
use Rattle.salvage.specs.Passed.{is_sync, Passed}

-- ---- the first row of a frame that begins with a field

module _ {A : Type 0} (x : Refusal) (n : ℕ) (i : Item) (w : ℕ) (k : ℕ → Grammar A) (s : List ℕ) (enough : n ≤ length s) (fits : w ≤ n * 8) where
  abbrev g : Grammar A
  g = frame x n (field i w k)

  abbrev first : Row
  first = row steering i 0 w (value s 0 w)

  within_limit : 0 + w ≤ n * 8
  within_limit = omega (arith, fits)

  opens : (room : List ℤ) → row_width ≤ length room → exec g s (fresh room) ≡ exec (k (value s 0 w)) s (put first (limit_to n (fresh room)))
  unfolding exec except check room_check
  opens room some =
      let left : length room / row_width - 0 ≡ suc (length room / row_width - 1) = omega arith in
      rw (le-ltb (length s) n enough, le-ltb (n * 8) (0 + w) within_limit, left)

  filled : (room : List ℤ) → length room < row_width → exec g s (fresh room) ≡ no full (stand 0 (limit_to n (fresh room)))
  unfolding exec except check room_check
  filled room none =
      let left : length room / row_width - 0 ≡ 0 = omega arith in
      rw (le-ltb (length s) n enough, le-ltb (n * 8) (0 + w) within_limit, left)

  -- written over
  over : (room ns : List ℤ) → length ns ≡ row_width → row_width ≤ length room → exec g s (fresh (sets room 0 ns)) ≡ exec g s (fresh room)
  over room ns nine some =
      let long = length-sets room 0 ns in
      opens (sets room 0 ns) (omega (arith, long, some))
      ∙ ap (λ l. exec (k (value s 0 w)) s (record { at = 0 + w; limit = n * 8; count = 0 + 1; room = l })) same
      ∙ sym (opens room some)
    where
      same : sets (sets room 0 ns) 0 (numbers first) ≡ sets room 0 (numbers first)
      same =
          let long = length-sets room 0 ns in
          in_front_lem (numbers first) (sets room 0 ns) (omega (arith, long, some))
          ∙ ap (λ l. numbers first ++ drop row_width l) (in_front_lem ns room (omega (arith, nine, some)))
          ∙ ap (λ l. numbers first ++ l) (drop_at ns (drop (length ns) room) row_width nine ∙ ap (λ m. drop m room) nine)
          ∙ sym (in_front_lem (numbers first) room (omega (arith, some)))

-- ---- the AC-3 frame

module _ (capture : List ℕ) (place : ℕ) (six : place + 6 ≤ length capture) where
  abbrev s : List ℕ
  s = drop place capture

  abbrev pub sync_row : List ℤ
  sync_row = numbers (row steering (roled Sync Name.syncword) 0 16 (value s 0 16))

  there : 6 ≤ length s
  there = omega (arith, length-drop place capture)

  pub no_row : (room : List ℤ) → length room < row_width → (answer capture place room).0.refusal ≡ 7
  unfolding syncframe header syncinfo ◌>>=◌ answered
  no_row room none = ap (λ o. (answered o).0.refusal) (filled _ 6 _ 16 _ s there (omega arith) room none)

  pub written_over : (room ns : List ℤ) → length ns ≡ row_width → row_width ≤ length room → answer capture place (sets room 0 ns) ≡ answer capture place room
  unfolding syncframe header syncinfo ◌>>=◌
  written_over room ns nine some = ap answered (over _ 6 _ 16 _ s there (omega arith) room ns nine some)

  module _ (unsynced : is_sync capture place ≡ false) (room : List ℤ) (some : row_width ≤ length room) where
    outcome : exec syncframe s (fresh room) ≡ no not_sync (put (row steering (roled Sync Name.syncword) 0 16 (value s 0 16)) (limit_to 6 (fresh room)))
    unfolding syncframe header syncinfo ◌>>=◌ exec except check room_check
    outcome =
        let left : length room / row_width - 0 ≡ suc (length room / row_width - 1) = omega arith in
        rw (le-ltb (length s) 6 there, left, unsynced)

    pub refused_there : (answer capture place room).0.refusal ≡ 2
    unfolding answered
    refused_there = ap (λ o. (answered o).0.refusal) outcome

    pub row_there : (answer capture place room).1 ≡ sets room 0 sync_row
    unfolding answered
    row_there = ap (λ o. (answered o).1) outcome

-- ---- places that are passed over

pub passed_inside : {capture : List ℕ} {from to : ℕ} → Passed capture from to → from ≤ length capture → to ≤ length capture
passed_inside {capture} {from} {to} passed inside = go (dec_le to from)
  where
    go : Dec (to ≤ from) → to ≤ length capture
    go (Dec.yes h) = omega arith
    go (Dec.no h) = omega (arith, (passed.unsynced (to - 1) (omega arith) (omega arith)).0)

-- ---- the sync word is two bytes

module _ (capture : List ℕ) (place : ℕ) (high : get_or capture place 0 < 256) (low : get_or capture (place + 1) 0 < 256) where
  first_byte : get_or (drop place capture) 0 0 ≡ get_or capture place 0
  first_byte = get_or-drop place capture 0 0 ∙ ap (λ i. get_or capture i 0) (let e : place + 0 ≡ place = omega arith in e)

  second_byte : get_or (drop place capture) 1 0 ≡ get_or capture (place + 1) 0
  second_byte = get_or-drop place capture 1 0

  word : value (drop place capture) 0 16 ≡ get_or capture place 0 * 256 + get_or capture (place + 1) 0
  word = spelt (drop place capture) 0 (omega (arith, first_byte, high)) (omega (arith, second_byte, low)) ∙ omega (arith, first_byte, second_byte)

  pub synced : get_or capture place 0 ≡ 0x0B → is_sync capture place ≡ eqb (get_or capture (place + 1) 0) 0x77
  synced begun = go (eqb (get_or capture (place + 1) 0) 0x77) refl
    where
      go : (b : Bool) → eqb (get_or capture (place + 1) 0) 0x77 ≡ b → is_sync capture place ≡ b
      go true e =
          let is : value (drop place capture) 0 16 ≡ 0x0B77 = omega (arith, word, begun, eqb-true (get_or capture (place + 1) 0) 0x77 e) in
          eq-eqb (value (drop place capture) 0 16) 0x0B77 is
      go false e = ne_eqb (value (drop place capture) 0 16) 0x0B77 (λ is. eqb-false (get_or capture (place + 1) 0) 0x77 e (omega (arith, begun, word, is)))

  pub not_synced : ¬ (get_or capture place 0 ≡ 0x0B) → is_sync capture place ≡ false
  not_synced other = ne_eqb (value (drop place capture) 0 16) 0x0B77 (λ is. other (omega (arith, word, is, low)))
