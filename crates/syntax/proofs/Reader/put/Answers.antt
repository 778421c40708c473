-- `syntax::Reader::put` meets its contract: the test that led to a return says which case of `recorded` holds. Assumes nothing.
use mathlib.Core.Path.{sym, ◌∙◌}
use Rattle.syntax.proofs.Recorded.{recorded_past, recorded_fits}
use Rattle.syntax.proofs.Reader.put.Goals as goal

pub returns-then-ends_past : goal.returns-then-ends_past
returns-then-ends_past c = rw c.past.ensures (recorded_past c.args.item c.args.width c.args.value (sym c.ends_past.ensures.value ∙ c.if-ends_past.true))

pub returns : goal.returns
returns c = recorded_fits c.args.item c.args.width c.args.value (sym c.ends_past.ensures.value ∙ c.if-ends_past.false) c.enter.ensures
