-- `ferrysprig::apart::are_taken` meets its contract: a refusal is not taken, and else the numbers are compared. Assumes nothing.
use borrow.Author.Rules.{rules}
use borrow.Author.Tests.{eq-eqb, ne_eqb}
use Rattle.ferrysprig.proofs.apart.are_taken.Statement.{statement}
use Rattle.ferrysprig.proofs.apart.are_taken.Tie as tie

refused : tie.Need-returns-then-own-ne0
refused c = rw (ne_eqb _ 0 c.if-own-ne0.true)

compared : tie.Need-returns
compared c = rw (eq-eqb _ 0 c.before.before.if-own-ne0.false, c.same_numbers.ensures, c.before.header_numbers.ensures)

pub are_taken_spec : {M : Type 1} → statement M
are_taken_spec =
    tie.close
    (tie.spec
    refused
    (λ c κs. search rules)  -- header-numbers-requires
    (λ c κs. search rules)  -- same-numbers-requires
    compared)
