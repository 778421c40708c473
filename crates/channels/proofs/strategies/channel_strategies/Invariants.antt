-- The loop of `channels::strategies::channel_strategies`: which channels are left, and the codes that were read.
use Rattle.std.specs.Prelude.{replicate}
use Rattle.syntax.specs.Grammar.{take, nth, filling}
use Rattle.syntax.specs.Names as Name
use Rattle.syntax.proofs.Sequence.{Turns}
use Rattle.slots.specs.Sound.{Entries}
use Rattle.channels.proofs.strategies.channel_strategies.Given as goal

abbrev pub invariant-loop-ch : goal.invariant-loop-ch
invariant-loop-ch l =
    Turns (filling (λ i. take (nth l.fn.blk Name.chexpstr i) 2)) 0 l.fn.nfchans (replicate 5 0) l.initial.r l.ch l.codes l.r × Entries l.codes 4
