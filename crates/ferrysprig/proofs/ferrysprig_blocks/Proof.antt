-- `ferrysprig::ferrysprig_blocks` meets its contract: the given numbers are held against those of the header in a room of this length.
-- Assumes nothing.
use mathlib.Core.Bool.{Bool}
use mathlib.Core.Path.{refl, ap, ◌∙◌}
use native.Mathlib.Omega.{arith}
use borrow.Author.Rules.{rules}
use Rattle.ac3.specs.Apart.{afresh_if}
use Rattle.ac3.specs.Promise.{call}
use Rattle.ac3.specs.declared.HeaderAnswer.{HeaderAnswer}
use Rattle.ac3.proofs.HeaderRows.{few_header_rows}
use Rattle.ferrysprig.specs.Apart.{taken_by}
use Rattle.ferrysprig.specs.Numbers.{told}
use Rattle.ferrysprig.proofs.HeaderAndBlocks.{few_afresh}
use Rattle.ferrysprig.proofs.ferrysprig_blocks.Statement.{statement}
use Rattle.ferrysprig.proofs.ferrysprig_blocks.Tie as tie

few_own : tie.Need-are_taken-fits-requires
few_own c κs =
    let a = c.before.before.before.args in
    omega (arith, ap (λ (x : HeaderAnswer). x.rows) (c.header_again-own.ensures a.rows.now refl), few_header_rows (call a.capture.now a.place a.rows.now))

few : tie.Need-numbers-requires
few c κs =
    let t1 = c.before in
    let a = t1.before.before.before.before.before.before.args in
    few_afresh _ (call a.capture.now a.place a.rows.now) t1.afresh_if.ensures

answers : tie.Need-returns
answers c =
    let t1 = c.before.before in
    let t2 = t1.before.before in
    let t3 = t2.before in
    let a = t3.before.before.before.args in
    let k = call a.capture.now a.place a.rows.now in
    rw c.numbers.ensures
    (ap told (t1.afresh_if.ensures ∙ ap (λ (b : Bool). afresh_if b k) (t2.are_taken-fits.ensures ∙ ap (taken_by a.header.now) (t3.header_again-own.ensures a.rows.now refl))))

pub ferrysprig_blocks_spec : {M : Type 1} → statement M
ferrysprig_blocks_spec =
    tie.close
    (tie.spec
    (λ c κs. search rules)  -- header-again-requires
    few_own  -- are-taken-requires
    (λ c κs. search rules)  -- afresh-if-requires
    few  -- numbers-requires
    (λ c. search rules)  -- same-length
    answers)  -- returns
