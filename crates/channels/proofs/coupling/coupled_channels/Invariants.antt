-- The loop of `channels::coupling::coupled_channels`: which channels are left, and the flags that were read.
use Rattle.std.specs.Prelude.{false, replicate}
use Rattle.syntax.specs.Grammar.{flag, nth, filling}
use Rattle.syntax.specs.Names as Name
use Rattle.syntax.proofs.Sequence.{Turns}
use Rattle.channels.proofs.coupling.coupled_channels.Given as goal

abbrev pub invariant-loop-ch : goal.invariant-loop-ch
invariant-loop-ch l = Turns (filling (λ i. flag (nth l.fn.blk Name.chincpl i))) 0 l.fn.nfchans (replicate 5 false) l.initial.r l.ch l.chincpl l.r
