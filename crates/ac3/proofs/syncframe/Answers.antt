-- `ac3::syncframe` meets its contract: what was read from the start is told, and the rows are those that the reader was lent. Assumes nothing.
use mathlib.Core.Path.{ap, sym, ◌∙◌}
use Rattle.ac3.specs.Frame.{answered}
use Rattle.ac3.proofs.Told.{read_from_start}
use Rattle.ac3.proofs.syncframe.Goals as goal

pub returns-in-Err : goal.returns-in-Err
unfolding answered
returns-in-Err c =
    let lent = c.rows-1.given.1.1 (sym (c.frame.ensures.on.lent ∙ c.new-r.ensures.lent)) in
    rw (c.refused.ensures, lent) (ap answered (read_from_start c.new-r.ensures.start c.new-r.ensures.bytes c.in-Err.ensures))

pub returns-in-Ok : goal.returns-in-Ok
unfolding answered
returns-in-Ok c =
    let lent = c.rows-in-Ok-1.given.1.1 (sym (c.frame.ensures.on.lent ∙ c.new-r.ensures.lent)) in
    rw lent (ap answered (read_from_start c.new-r.ensures.start c.new-r.ensures.bytes c.in-Ok.ensures))
