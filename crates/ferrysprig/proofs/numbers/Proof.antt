-- `ferrysprig::numbers` meets its contract: the small numbers are written in front, the block after them, and the mantissa bits over the rest.
-- Assumes nothing.
use mathlib.Core.List.{List, ◌++◌, map}
use mathlib.Core.Path.{◌≡◌, ap, ap₂, sym, ◌∙◌}
use Prim.Native.Nat.{ℕ}
use native.Mathlib.Omega.{arith}
use lib.IntN.{ℤ, pos}
use lib.ListN.{length, set, take, drop, replicate, length-set}
use lib.Seq.{sets, length-sets}
use mir.Syntax.{w32}
use mir.Facts.{to_z-of_z}
use borrow.Author.Rules.{rules}
use Rattle.alloc.specs.Allocation.{from}
use Rattle.syntax.specs.Numbers.{shown}
use Rattle.ac3.specs.Frame.{slot_counts}
use Rattle.ac3.specs.declared.Answer.{Answer}
use Rattle.ferrysprig.specs.Numbers.{answer_width, in_order, bits_in_order, bits_numbers, answer_numbers}
use Rattle.ferrysprig.proofs.Promise.{entries}
use Rattle.ferrysprig.proofs.numbers.Statement.{statement}
use Rattle.ferrysprig.proofs.numbers.Tie as tie

-- a front of 26, and what is written over the rest
abbrev joined : (front rest : List ℤ) → List ℤ
joined front rest = take 26 front ++ (rest ++ drop slot_counts (drop 26 front))

filled : (a : Answer) {out rest : List ℤ} {small : List ℕ} {b : ℤ} → out ≡ sets (replicate answer_width (pos 0)) 0 (map pos small) → small ≡ in_order a → b ≡ shown a.block
    → rest ≡ sets (take slot_counts (drop 26 (set out 25 b))) 0 (map pos a.summary.tally.bits) → length a.summary.tally.bits ≡ slot_counts
    → joined (set out 25 b) rest ≡ answer_numbers a
unfolding answer_numbers in_order bits_numbers bits_in_order from
filled a {out} {b = b} written is block later long =
    let front : set out 25 b ≡ set (sets (replicate answer_width (pos 0)) 0 (map pos (in_order a))) 25 (shown a.block) =
    ap₂ (λ (l : List ℤ) (z : ℤ). set l 25 z) (written ∙ ap (λ (l : List ℕ). sets (replicate answer_width (pos 0)) 0 (map pos l)) is) block in
    ap (joined (set out 25 b)) (later ∙ ap (λ (l : List ℕ). sets (take slot_counts (drop 26 (set out 25 b))) 0 (map pos l)) (sym (entries a.summary.tally.bits slot_counts long)))
    ∙ ap (λ (l : List ℤ). joined l (sets (take slot_counts (drop 26 l)) 0 (bits_numbers a.summary))) front

out_long : (c : tie.After-numbers) → length c.numbers.new.run ≡ answer_width
out_long c = ap length c.numbers.ensures ∙ length-sets (replicate answer_width (pos 0)) 0 (map pos c.before.before.before.in_order-small.result)

returns : tie.Need-returns
returns c =
    let n2 = c.before in
    let block = n2.before.before.before.before.before.before in
    let n = block.before.before in
    let small = n.before.before.before in
    let s = small.before in
    filled s.args.a n.numbers.ensures small.in_order-small.ensures (to_z-of_z {w = w32} {z = block.shown.result} (search rules) ∙ block.shown.ensures) n2.numbers-2.ensures s.requires.1

pub numbers_spec : {M : Type 1} → statement M
numbers_spec =
    tie.close
    (tie.spec
    (λ c κs. search rules)  -- in-order-requires
    (λ c. search rules)  -- slice-aggregate-numbers
    (λ c. search rules)  -- slice-aggregate-numbers-2
    (λ c κs. search rules)  -- numbers-requires
    (λ c κs. search rules)  -- shown-requires
    (λ c. search rules)  -- array-set-from-out
    (λ c. search rules)  -- slice-aggregate-numbers-3
    (λ c. search rules)  -- sub-numbers
    (λ c. search rules)  -- part-out-start
    (λ c. simp length-set (omega (arith, out_long c.before.before.before.before.before.before)))  -- part-out-end
    (λ c κs. search rules)  -- numbers-requires-2
    returns)
