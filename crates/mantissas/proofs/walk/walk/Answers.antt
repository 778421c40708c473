-- `mantissas::walk::walk` meets its contract: a walk that fits the frame ends where the sum of its pieces says. Assumes nothing.
use native.Mathlib.Omega.{arith}
use mathlib.Core.Path.{refl, sym}
use Rattle.syntax.specs.Reads.{place}
use Rattle.mantissas.specs.Mantissas.{none_open, widths, all_pointers}
use Rattle.mantissas.specs.Sound.{listed}
use Rattle.mantissas.proofs.Walks.{walked_fits}
use Rattle.mantissas.proofs.walk.walk.Goals as goal

pub returns-then-end-r : goal.returns-then-end-r
returns-then-end-r c =
    let a = c.args in
    let ws = widths none_open (all_pointers a.by.now.fscod a.by.now.st a.exps.now a.by.now.silent (listed a.ps.now)) in
    let fits = walked_fits a.item ws (place a.r.now) (omega (arith, c.requires.width_value, c.if-end-r.true)) in
    record { same = sym (rw (← c.requires.width_value) at fits); on = record { bytes = refl; lent = refl; long = refl } }
