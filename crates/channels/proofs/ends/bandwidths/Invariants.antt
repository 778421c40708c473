-- The loop of `channels::ends::bandwidths`: which channels are left, and the bandwidths in force.
use Rattle.syntax.proofs.Sequence.{Turns}
use Rattle.channels.specs.Strategies.{bandwidth}
use Rattle.channels.specs.Sound.{SoundBandwidths}
use Rattle.channels.proofs.ends.bandwidths.Given as goal

abbrev pub invariant-loop-ch : goal.invariant-loop-ch
invariant-loop-ch l =
    Turns (bandwidth l.fn.blk l.fn.coupling l.fn.chexpstr) 0 l.fn.nfchans l.fn.old l.initial.r l.ch l.bandwidths l.r × SoundBandwidths l.bandwidths
