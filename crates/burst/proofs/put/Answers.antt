-- `burst::put` meets its contract: each write goes behind the one before. Assumes nothing.
use Rattle.std.proofs.Common.{refl}
use Rattle.burst.proofs.Laid.{put_one_by_one}
use Rattle.burst.proofs.put.Goals as goal

pub returns : goal.returns
returns c =
    put_one_by_one c.args.bsmod c.args.frame.now c.requires.0 c.args.out.now c.requires.1 refl
    c.word.ensures c.word-2.ensures c.word-3.ensures c.word-4.ensures c.copy.ensures c.fill.ensures
