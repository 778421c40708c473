-- `alloc::excitation::starts_anew` meets its contract. Assumes nothing.
use borrow.Author.Tests.{lt-ltb, le-ltb}
use Rattle.alloc.proofs.excitation.starts_anew.Statement.{statement}
use Rattle.alloc.proofs.excitation.starts_anew.Tie as tie

returns : tie.Need-returns-then-band-lt7
returns c = rw (lt-ltb _ 7 c.if-band-lt7.true)

returns-2 : tie.Need-returns-else-band-lt7
returns-2 c = rw (le-ltb _ 7 c.if-band-lt7.false)

pub starts_anew_spec : {M : Type 1} → statement M
starts_anew_spec = tie.close (tie.spec returns returns-2)
