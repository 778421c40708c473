-- `profile::breaks` meets its contract: what is said of a rule is said of its number. Assumes nothing.
use borrow.Author.Tests.{eq-eqb, ne_eqb}
use Rattle.profile.proofs.Numbered.{by_number}
use Rattle.profile.proofs.breaks.Goals as goal

pub returns-then-value-ne6 : goal.returns-then-value-ne6
returns-then-value-ne6 c = by_number 2 _ _ c.in-2.is (rw (ne_eqb c.args.value 6 c.if-value-ne6.true))

pub returns-else-value-ne6 : goal.returns-else-value-ne6
returns-else-value-ne6 c = by_number 2 _ _ c.in-2.is (rw (eq-eqb c.args.value 6 c.if-value-ne6.false))
