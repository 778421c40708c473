-- `ferrysprig::apart::header_numbers` meets its contract: the small numbers are written over all that is there, and the block in its place.
-- Assumes nothing.
use mathlib.Core.List.{List, map}
use mathlib.Core.Path.{◌≡◌, ap, ◌∙◌}
use Prim.Native.Nat.{ℕ}
use lib.IntN.{ℤ, pos}
use lib.ListN.{set, replicate}
use lib.Seq.{sets}
use mir.Syntax.{w32}
use mir.Facts.{to_z-of_z}
use borrow.Author.Rules.{rules}
use Rattle.syntax.specs.Numbers.{shown}
use Rattle.ac3.specs.declared.HeaderAnswer.{HeaderAnswer}
use Rattle.ferrysprig.specs.Apart.{header_width, header_in_order, header_numbers}
use Rattle.ferrysprig.proofs.apart.header_numbers.Statement.{statement}
use Rattle.ferrysprig.proofs.apart.header_numbers.Tie as tie

filled : (a : HeaderAnswer) {out : List ℤ} {small : List ℕ} → out ≡ sets (replicate header_width (pos 0)) 0 (map pos small) → small ≡ header_in_order a
    → set out 4 (shown a.block) ≡ header_numbers a
unfolding header_numbers header_in_order
filled a written is = ap (λ (l : List ℤ). set l 4 (shown a.block)) (written ∙ ap (λ (l : List ℕ). sets (replicate header_width (pos 0)) 0 (map pos l)) is)

returns : tie.Need-returns
returns c =
    let n = c.before.before in
    let small = n.before.before.before in
    rw (to_z-of_z {w = w32} {z = c.shown.result} (search rules), c.shown.ensures) (filled small.before.args.a n.numbers.ensures small.header_in_order-small.ensures)

pub header_numbers_spec : {M : Type 1} → statement M
header_numbers_spec =
    tie.close
    (tie.spec
    (λ c κs. search rules)  -- header-in-order-requires
    (λ c. search rules)  -- slice-aggregate-numbers
    (λ c. search rules)  -- slice-aggregate-numbers-2
    (λ c κs. search rules)  -- numbers-requires
    (λ c κs. search rules)  -- shown-requires
    (λ c. search rules)  -- array-set-from-out
    returns)
