-- The loop of `mantissas::parameters::is_silent`: the slots that are left decide.
use mathlib.Core.Path.{◌≡◌}
use lib.ListN.{drop}
use Rattle.mantissas.specs.Mantissas.{silent}
use Rattle.mantissas.proofs.parameters.is_silent.Given as goal

abbrev pub invariant-loop-p : goal.invariant-loop-p
invariant-loop-p l = silent l.offsets (drop l.p-index l.p-items) ≡ silent l.offsets l.p-items
