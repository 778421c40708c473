-- What the bytes so far tell is told.
use Rattle.std.proofs.Common.{drop}
use Rattle.packed.specs.declared.Text.TheVariants.{Line}
use Rattle.packed.specs.Tellers.{Reads}
use Rattle.packed.specs.Text.{step, tell}
use Rattle.packed.proofs.of_text.read.Given as goal

abbrev pub invariant-loop-b : goal.invariant-loop-b
invariant-loop-b g l = Reads step tell g.T.Teller.tells (Line 1) l.listing l.fn.out l.at l.s (drop l.b-index l.b-items) l.out l.to
