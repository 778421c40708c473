-- `ferrysprig::apart::same_numbers` meets its contract. The loop's invariant: the numbers from `i` on decide. Assumes nothing.
use mathlib.Core.List.{[]}
use mathlib.Core.Path.{◌≡◌, refl, sym, ap, ◌∙◌}
use Prim.Native.Nat.{◌-◌, ◌≤◌}
use native.Mathlib.Omega.{arith}
use lib.IntN.{pos}
use lib.ListN.{length, get_or, drop, drop_of_length-le}
use mir.Syntax.{w32}
use mir.Val.{of_z}
use borrow.Author.Rules.{rules}
use Rattle.signed.proofs.Equal.{same_bits}
use Rattle.ferrysprig.specs.Apart.{header_width, same_numbers}
use Rattle.ferrysprig.proofs.HeaderAndBlocks.{alike_here, differ_here}
use Rattle.ferrysprig.proofs.apart.same_numbers.Statement.{statement}
use Rattle.ferrysprig.proofs.apart.same_numbers.Tie as tie

abbrev invariant-loop-i : tie.invariant-loop-i
invariant-loop-i a b i₀ i = (i ≤ header_width) × (same_numbers a b ≡ same_numbers (drop i a) (drop i b))

abbrev decreases-loop-i : tie.decreases-loop-i
decreases-loop-i a b i₀ i = header_width - i

differ : tie.Need-returns-then-a-i invariant-loop-i decreases-loop-i
differ c =
    let turn = c.before.before.before.before in
    let a = turn.before.args.a in
    let b = turn.before.args.b in
    let long-a : length a ≡ 10 = search rules in
    let long-b : length b ≡ 10 = search rules in
    sym (turn.loop-i.invariant.1 ∙ differ_here a b turn.loop-i.i (omega arith) (omega arith) (λ e. c.if-a-i.true (ap (of_z w32) e)))

alike : tie.Need-loop-i-preserved invariant-loop-i decreases-loop-i
alike c =
    let turn = c.before.before.before.before in
    let a = turn.before.args.a in
    let b = turn.before.args.b in
    let i = turn.loop-i.i in
    let long-a : length a ≡ 10 = search rules in
    let long-b : length b ≡ 10 = search rules in (
      omega arith,
      turn.loop-i.invariant.1 ∙ alike_here a b i (omega arith) (omega arith)
          (same_bits w32 (get_or a i (pos 0)) (get_or b i (pos 0)) (record { sfits = c.before.before.t10-1.given }) (record { sfits = c.before.t14-1.given }) c.if-a-i.false),
    )

ended : tie.Need-returns invariant-loop-i decreases-loop-i
unfolding same_numbers
ended c =
    let turn = c.before in
    let a = turn.before.args.a in
    let b = turn.before.args.b in
    let i = turn.loop-i.i in
    let long-a : length a ≡ 10 = search rules in
    let long-b : length b ≡ 10 = search rules in
    let none-a : drop i a ≡ [] = drop_of_length-le a {i = i} (omega arith) in
    let none-b : drop i b ≡ [] = drop_of_length-le b {i = i} (omega arith) in
    sym (turn.loop-i.invariant.1 ∙ rw (none-a, none-b))

pub same_numbers_spec : {M : Type 1} → statement M
same_numbers_spec =
    tie.close
    (tie.spec
    invariant-loop-i
    decreases-loop-i
    (λ c. (omega arith, refl))  -- loop_holds
    (λ c. search rules)  -- mul-if1
    (λ c. search rules)  -- array-copy-out-if1
    (λ c. search rules)  -- mul-if1-2
    (λ c. search rules)  -- array-copy-out-if1-2
    differ
    (λ c. search rules)  -- add-i
    (λ c. search rules)  -- loop-less
    alike
    ended)
