-- `alloc::excitation::lfe_last` meets its contract. Assumes nothing.
use borrow.Author.Tests.{eq-eqb, ne_eqb}
use Rattle.alloc.proofs.excitation.lfe_last.Statement.{statement}
use Rattle.alloc.proofs.excitation.lfe_last.Tie as tie

returns : tie.Need-returns-then-count-eq7
returns c = rw (eq-eqb _ 7 c.if-count-eq7.true)

returns-2 : tie.Need-returns-else-count-eq7
returns-2 c = rw (ne_eqb _ 7 c.if-count-eq7.false)

pub lfe_last_spec : {M : Type 1} → statement M
lfe_last_spec = tie.close (tie.spec returns returns-2)
