-- Before the first turn nothing is filled in; a turn fills in one record more.
use Rattle.std.proofs.Common.{ap, ◌∙◌}
use Rattle.std.proofs.Math.ListN.{set}
use Rattle.fields.specs.Fields.{field_at}
use Rattle.fields.proofs.Filled.{filled_none, filled_next}
use Rattle.fields.proofs.fill.Goals as goal

pub loop-i-init : goal.loop-i-init
loop-i-init c = filled_none (field_at c.args.rows.now) c.args.fields.now

pub loop-i-preserved : goal.loop-i-preserved
loop-i-preserved c =
    let i = c.loop-i.i in
    ap (λ run. set run i c.field_at.result) c.loop-i.invariant ∙ filled_next (field_at c.args.rows.now) c.args.fields.now i c.field_at.result c.field_at.ensures
