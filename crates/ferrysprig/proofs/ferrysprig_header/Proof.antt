-- `ferrysprig::ferrysprig_header` meets its contract: what `header` answers, as numbers. Assumes nothing.
use mathlib.Core.List.{List}
use mathlib.Core.Path.{ap}
use native.Mathlib.Omega.{arith}
use lib.IntN.{ℤ}
use borrow.Author.Rules.{rules}
use Rattle.ac3.specs.Promise.{call}
use Rattle.ac3.specs.declared.HeaderAnswer.{HeaderAnswer}
use Rattle.ac3.proofs.HeaderRows.{few_header_rows}
use Rattle.ferrysprig.specs.Apart.{header_told}
use Rattle.ferrysprig.proofs.ferrysprig_header.Statement.{statement}
use Rattle.ferrysprig.proofs.ferrysprig_header.Tie as tie

few : tie.Need-header_numbers-requires
few c κs =
    let t = c.before in
    let a = t.before.before.before.args in
    omega (arith, ap (λ (x : HeaderAnswer × List ℤ). x.0.rows) t.header.ensures, few_header_rows (call a.capture.now a.place a.rows.now))

pub ferrysprig_header_spec : {M : Type 1} → statement M
ferrysprig_header_spec =
    tie.close
    (tie.spec
    (λ c κs. search rules)  -- header-requires
    few  -- header-numbers-requires
    (λ c. search rules)  -- same-length
    (λ c. rw c.header_numbers.ensures (ap header_told c.before.before.header.ensures)))  -- returns
