-- `exponents::unpack::unpack` meets its contract: the three bytes are the three exponents, with 64 added, and one test of them refuses what
-- the three steps refuse, and what is no group. Assumes nothing.
use mathlib.Core.Bool.{true≢false}
use mathlib.Core.Path.{sym, ◌∙◌}
use Rattle.exponents.proofs.Three.{told}
use Rattle.exponents.proofs.unpack.unpack.Goals as goal

pub returns-then-any_outside-clause-group_value : goal.returns-then-any_outside-clause-group_value
returns-then-any_outside-clause-group_value c =
    let t = told c.requires.steps c.args.last c.args.group c.requires.last_bound.0 c.requires.last_bound.1 in
    rw c.fault.ensures (t.refused (λ h. true≢false (sym c.if-any_outside.true ∙ c.any_outside.ensures.1 h)))

pub returns-clause-group_value : goal.returns-clause-group_value
returns-clause-group_value c =
    let t = told c.requires.steps c.args.last c.args.group c.requires.last_bound.0 c.requires.last_bound.1 in
    t.made (c.any_outside.ensures.0 c.if-any_outside.false)
