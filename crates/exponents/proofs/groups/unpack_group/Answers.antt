-- `exponents::groups::unpack_group` meets its contract: the row is written only where the three exponents are good. Assumes nothing.
use Rattle.syntax.specs.Grammar.{◌>>=◌}
use Rattle.exponents.proofs.Made.{refused_as}
use Rattle.exponents.proofs.groups.unpack_group.Goals as goal

pub returns-in_err-three-clause-group_value : goal.returns-in_err-three-clause-group_value
unfolding ◌>>=◌
returns-in_err-three-clause-group_value c = refused_as _ _ c.from_residual.ensures.1 (rw c.in_err-three.ensures.group_value)

pub returns-clause-group_value : goal.returns-clause-group_value
unfolding ◌>>=◌
returns-clause-group_value c = rw (c.in_ok-three.ensures.group_value, c.spread.ensures.row_after)
