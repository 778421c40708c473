-- `syntax::rows::shown` meets its contract: the test says which of the two it is. Assumes nothing.
use native.Mathlib.Omega.{arith}
use borrow.Author.Tests.{eq-eqb, ne_eqb}
use borrow.Author.Rules.{rules}
use Rattle.syntax.specs.Numbers.{shown}
use Rattle.syntax.proofs.Signed.{widened}
use Rattle.syntax.proofs.rows.shown.Statement.{statement}
use Rattle.syntax.proofs.rows.shown.Tie as tie

pub shown_spec : {M : Type 1} → statement M
unfolding shown
shown_spec =
    tie.close
    (tie.spec
    (λ c. search rules)  -- cast_result
    (λ c. simp (eq-eqb _ 255 c.if-n-eq-NONE.true))  -- returns
    (λ c. simp (widened c.before.args.n (omega arith), ne_eqb _ 255 c.if-n-eq-NONE.false)))  -- returns-2
