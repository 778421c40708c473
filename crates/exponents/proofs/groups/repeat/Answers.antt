-- `exponents::groups::repeat` meets its contract: the stores are as many as the strategy says. Assumes nothing.
use native.Mathlib.Omega.{arith}
use Rattle.exponents.proofs.Bins.{bins_bounds}
use Rattle.exponents.proofs.groups.repeat.Goals as goal

pub bounds-row-at-2 : goal.bounds-row-at-2
bounds-row-at-2 c = omega (arith, bins_bounds c.args.strategy (omega arith))
