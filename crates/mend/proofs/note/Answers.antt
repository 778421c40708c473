-- `mend::note` meets its contract: the test decides which case of `changed` holds, and the three stores are the change. Assumes nothing.
use Rattle.std.proofs.Common.{refl, arith}
use native.Mathlib.Numerals.{towards_suc}
use mir.Syntax.{w32}
use mir.Facts.{to_z_pos}
use borrow.Author.Tests.{eq-eqb, ne_eqb}
use Rattle.mend.specs.Changes.{changed}
use Rattle.mend.proofs.note.Goals as goal

pub returns-then-old-new : goal.returns-then-old-new
unfolding changed
returns-then-old-new c = rw (eq-eqb c.args.old c.args.new c.if-old-new.true) (refl, omega arith, omega arith)

pub returns : goal.returns
unfolding changed
returns c = rw (ne_eqb c.args.old c.args.new c.if-old-new.false, c.from.ensures, c.from-2.ensures, c.from-3.ensures) (
  simp (towards_suc, to_z_pos w32 {n = c.args.name} (omega arith), to_z_pos w32 {n = c.args.old} (omega arith), to_z_pos w32 {n = c.args.new} (omega arith)),
  omega arith,
  omega arith,
)
