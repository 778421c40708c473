-- `mantissas::Counts::width` meets its contract: it is the definition's sum. Assumes nothing.
use mathlib.Core.Path.{refl}
use Rattle.mantissas.specs.Counts.{width_of}
use Rattle.mantissas.proofs.Counts.width.Goals as goal

pub returns : goal.returns
unfolding width_of
returns c = refl
