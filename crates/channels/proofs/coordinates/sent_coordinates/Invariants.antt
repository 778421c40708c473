-- The loop of `channels::coordinates::sent_coordinates`: which channels are left, and the flags of those before.
use Rattle.std.specs.Prelude.{false, replicate}
use Rattle.syntax.specs.Grammar.{filling}
use Rattle.syntax.proofs.Sequence.{Turns}
use Rattle.channels.specs.Coupling.{channel_coordinates}
use Rattle.channels.proofs.coordinates.sent_coordinates.Given as goal

abbrev pub invariant-loop-ch : goal.invariant-loop-ch
invariant-loop-ch l = Turns (filling (channel_coordinates l.fn.blk l.fn.coupling)) 0 l.fn.nfchans (replicate 5 false) l.initial.r l.ch l.sent l.r
