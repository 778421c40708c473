-- `exponents::sets::first_exponent` meets its contract: for coupling the row stays empty. Assumes nothing.
use mathlib.Core.Path.{sym, subst}
use native.Mathlib.Omega.{arith}
use lib.IntN.{pos}
use lib.ListN.{replicate, set}
use mir.Syntax.{w16}
use mir.Facts.{to_z_pos}
use Rattle.slots.specs.Sound.{SoundRow}
use Rattle.slots.proofs.Entries.{zeros, row_set}
use Rattle.exponents.proofs.sets.first_exponent.Goals as goal

pub returns-then-slot-eq-CPL-clause-sound_unpacked :
    goal.returns-then-slot-eq-CPL-clause-sound_unpacked
returns-then-slot-eq-CPL-clause-sound_unpacked c = record { last = omega arith; row = zeros }

pub returns-clause-sound_unpacked : goal.returns-clause-sound_unpacked
returns-clause-sound_unpacked c =
    let absexp = c.args.absexp in
    let row = subst (λ e. SoundRow (set (replicate 256 (pos 0)) 0 e)) (sym (to_z_pos w16 {n = absexp} (omega arith))) (row_set (replicate 256 (pos 0)) 0 absexp zeros (omega arith)) in
    record { last = omega arith; row = row }
