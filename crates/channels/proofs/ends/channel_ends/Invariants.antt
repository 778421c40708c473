-- The loop of `channels::ends::channel_ends`: which channels are left, and the ends of those before.
use Rattle.std.specs.Prelude.{replicate}
use Rattle.syntax.specs.declared.Reader.{Reader}
use Rattle.syntax.specs.Grammar.{filling}
use Rattle.syntax.proofs.Sequence.{Turns}
use Rattle.slots.specs.Sound.{SoundEnds}
use Rattle.channels.specs.Strategies.{channel_end}
use Rattle.channels.proofs.ends.channel_ends.Given as goal

abbrev pub invariant-loop-ch : goal.invariant-loop-ch
invariant-loop-ch l =
    ((c : Reader) → Turns (filling (channel_end l.fn.coupling l.fn.bandwidths)) 0 l.fn.nfchans (replicate 5 0) c l.ch l.ends c) × SoundEnds l.ends
