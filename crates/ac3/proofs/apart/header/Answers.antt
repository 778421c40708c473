-- `ac3::apart::header` meets its contract: the part that starts at the place is what is left when as many bytes are dropped. Assumes nothing.
use lib.ListN.{drop_of_length-le}
use Rattle.std.proofs.Common.{arith}
use Rattle.ac3.proofs.Told.{headed_nothing}
use Rattle.ac3.proofs.apart.header.Goals as goal

pub returns-then-capture-place : goal.returns-then-capture-place
returns-then-capture-place c =
    rw (c.stopped.ensures, drop_of_length-le c.args.capture.now {i = c.args.place} (omega arith)) (headed_nothing _)
