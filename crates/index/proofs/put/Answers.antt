-- `index::put` meets its contract: five numbers are copied, where there is room for them. Assumes nothing.
use Rattle.std.proofs.Common.{◌*◌, arith}
use Rattle.writer.proofs.Written.{part}
use borrow.Author.Tests.{lt-ltb, le-ltb}
use Rattle.index.specs.Filled.{put}
use Rattle.index.specs.Index.{numbers}
use Rattle.index.proofs.put.Goals as goal

pub returns-then-entries-index : goal.returns-then-entries-index
unfolding put
returns-then-entries-index c =
    let a = c.args in
    rw (lt-ltb _ _ c.if-entries-index.true) (part (numbers a.e) a.index.now (a.entries * 5) _ (a.entries * 5) 5 (omega (arith, c.if-entries-index.true)) (omega (arith, c.if-entries-index.true)) c.copy_from_slice.ensures.after)

pub returns-else-entries-index : goal.returns-else-entries-index
unfolding put
returns-else-entries-index c = rw (le-ltb _ _ c.if-entries-index.false)
