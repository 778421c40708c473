-- What is at hand: each group, past those before it. Assumes nothing.
use mathlib.Core.List.{List}
use mathlib.Core.Path.{◌≡◌, refl}
use Prim.Native.Nat.{ℕ, ◌+◌, ◌*◌, ◌<◌, ◌≤◌}
use native.Mathlib.Omega.{arith}
use lib.IntN.{ℤ}
use lib.ListN.{length}
use borrow.Author.Tests.{le-ltb}
use Rattle.std.specs.Prelude.{Ok}
use Rattle.std.proofs.lemmas.List.Edits.{sets}
use Rattle.bits.specs.Bits.{value}
use Rattle.syntax.specs.declared.Reader.{Reader}
use Rattle.syntax.specs.declared.Item.{Item}
use Rattle.syntax.specs.Grammar.{take}
use Rattle.syntax.specs.Numbers.{row_width, numbers}
use Rattle.syntax.specs.Run.{row, spanning}
use Rattle.syntax.specs.Place.{Place}
use Rattle.syntax.specs.Reads.{Reads}
use Rattle.syntax.proofs.Recorded.{recorded_fits, entered_row}
use Rattle.syntax.proofs.Sequence.{made}
use Rattle.exponents.specs.AtHand.{AtHand}

-- the reader past n groups, whose rows were written
abbrev pub placed : ℕ → List ℤ → Reader → Reader
placed n rows c = record c { at = c.at + 7 * n; count = c.count + n; rows = record c.rows { now = rows } }

-- the place past one more
one_more : (c : Reader) (n : ℕ) (room : List ℤ)
    → ◌≡◌ {A = Place} (record { at = c.at + 7 * (n + 1); limit = c.limit; count = c.count + (n + 1); room = room }) (record { at = c.at + 7 * n + 7; limit = c.limit; count = c.count + n + 1; room = room })
one_more c n room =
    let at : c.at + 7 * (n + 1) ≡ c.at + 7 * n + 7 = omega arith in
    let count : c.count + (n + 1) ≡ c.count + n + 1 = omega arith in
    λ i. record { at = at i; limit = c.limit; count = count i; room = room }

module _ {c : Reader} {groups : ℕ} (h : AtHand c groups) (n : ℕ) (some : n < groups) (rows : List ℤ) (long : length rows ≡ length c.rows.now) where
  -- its row is left to write
  pub room : (c.count + n) * row_width + row_width ≤ length rows
  room = omega (arith, h.room, some, long)

  -- neither the frame's end nor the room's stands in the way
  pub taken : (item : Item) {group : ℕ} {next : List ℤ} → group ≡ value c.bytes.now (c.at + 7 * n) 7
      → next ≡ sets rows ((c.count + n) * row_width) (numbers (row spanning item (c.at + 7 * n) 7 group)) → length next ≡ length rows
      → Reads (take item 7) (placed n rows c) (Ok group) (placed (n + 1) next c)
  taken item {group} is written kept =
      made (λ v. v)
      (recorded_fits item 7 group (le-ltb _ _ (omega (arith, h.frame, some)))
      (entered_row item 7 group (c.at + 7 * n) (omega (arith, h.room, some, long)) (rw written (one_more c n _)) (record { bytes = refl; lent = refl; long = kept })))
      is
