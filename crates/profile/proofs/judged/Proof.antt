-- `profile::judged` meets its contract: the rules that are left decide. Assumes nothing.
use mathlib.Core.Path.{◌≡◌, refl, ap, sym, ◌∙◌}
use Prim.Native.Nat.{◌+◌, ◌-◌, ◌≤◌}
use native.Mathlib.Omega.{arith}
use borrow.Author.Rules.{rules}
use Rattle.profile.specs.Rules.{found_in, judged_in}
use Rattle.profile.specs.declared.Verdict.TheVariants.{Broken}
use Rattle.profile.proofs.Judging.{from, stops, passes, all_passed}
use Rattle.profile.proofs.judged.Statement.{statement}
use Rattle.profile.proofs.judged.Tie as tie

abbrev invariant-loop-number : tie.invariant-loop-number
invariant-loop-number rows count header number₀ number = (number ≤ 7) × (judged_in header count rows ≡ from (found_in header count rows) count number)

abbrev decreases-loop-number : tie.decreases-loop-number
decreases-loop-number rows count header number₀ number = 7 - number

stopped : tie.Need-returns-then-row-count invariant-loop-number decreases-loop-number
stopped c =
    let row = c.before.first_broken-row in
    let at = c.before.before.before in
    let a = at.before.args in
    let found = found_in a.header a.count a.rows.now in
    ap (Broken (at.loop-number.number + 1)) row.ensures ∙ stops found a.count at.loop-number.number (omega arith) (omega (arith, row.ensures, c.if-row-count.true)) ∙ sym at.loop-number.invariant.1

again : tie.Need-loop-number-preserved invariant-loop-number decreases-loop-number
again c =
    let row = c.before.first_broken-row in
    let at = c.before.before.before in
    let a = at.before.args in
    let found = found_in a.header a.count a.rows.now in
    (omega arith, at.loop-number.invariant.1 ∙ passes found a.count at.loop-number.number (omega arith) (omega (arith, row.ensures, c.if-row-count.false)))

none : tie.Need-returns invariant-loop-number decreases-loop-number
none c =
    let at = c.before in
    let a = at.before.args in
    all_passed (found_in a.header a.count a.rows.now) a.count at.loop-number.number (omega arith) ∙ sym at.loop-number.invariant.1

pub judged_spec : {M : Type 1} → statement M
judged_spec =
    tie.close
    (tie.spec
    invariant-loop-number
    decreases-loop-number
    (λ c. (omega arith, refl))  -- loop-number-init
    (λ c κs. search rules)  -- first_broken-row-requires
    (λ c. search rules)  -- overflow_add-result
    stopped
    (λ c. search rules)  -- overflow_step-number
    (λ c. search rules)  -- loop-number-smaller
    again
    none)
