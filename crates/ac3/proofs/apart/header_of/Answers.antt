-- `ac3::apart::header_of` meets its contract: what was read from the start is told, and the rows are those that the reader was lent. Assumes nothing.
use mathlib.Core.Path.{ap, sym, ◌∙◌}
use Rattle.ac3.specs.Apart.{headed}
use Rattle.ac3.proofs.Told.{read_from_start}
use Rattle.ac3.proofs.apart.header_of.Goals as goal

pub returns-in-Err : goal.returns-in-Err
unfolding headed
returns-in-Err c =
    let lent = c.rows-1.given.1.1 (sym (c.read.ensures.reads.on.lent ∙ c.new-r.ensures.lent)) in
    rw (c.stopped.ensures, lent) (ap headed (read_from_start c.new-r.ensures.start c.new-r.ensures.bytes c.in-Err.ensures.reads))

pub returns-in-Ok : goal.returns-in-Ok
unfolding headed
returns-in-Ok c =
    let lent = c.rows-in-Ok-1.given.1.1 (sym (c.read.ensures.reads.on.lent ∙ c.new-r.ensures.lent)) in
    rw lent (ap headed (read_from_start c.new-r.ensures.start c.new-r.ensures.bytes c.in-Ok.ensures.reads))
