-- `exponents::at_hand::write_group` meets its contract: the nine stores are the row, each number as it was cast or shown. Assumes nothing.
use mathlib.Core.Path.{◌≡◌, refl}
use Prim.Native.Nat.{ℕ, ◌<◌}
use native.Mathlib.Omega.{arith}
use native.Mathlib.Numerals.{towards_suc}
use lib.IntN.{pos, negsuc}
use mir.Syntax.{w32}
use mir.Facts.{to_z-of_z}
use borrow.Author.Rules.{rules}
use borrow.Author.Tests.{ne_eqb}
use Rattle.syntax.specs.Numbers.{shown}
use Rattle.syntax.proofs.Signed.{widened}
use Rattle.exponents.proofs.at_hand.write_group.Goals as goal

-- no programme; and a part
shown_none : shown 255 ≡ negsuc 0
unfolding shown
shown_none = refl

shown_part : (n : ℕ) → n < 255 → shown n ≡ pos n
unfolding shown
shown_part n h = rw (ne_eqb n 255 (omega arith))

pub returns : goal.returns
returns c =
    let args = c.args in
    simp (
      towards_suc,
      widened args.set.name (omega arith),
      widened args.start (omega arith),
      widened args.value (omega arith),
      widened args.n (omega arith),
      to_z-of_z {w = w32} {z = c.shown.result} (search rules),
      to_z-of_z {w = w32} {z = c.shown-2.result} (search rules),
    )
    (rw (c.shown.ensures, c.shown-2.ensures, shown_none, shown_part args.n (omega arith)))
