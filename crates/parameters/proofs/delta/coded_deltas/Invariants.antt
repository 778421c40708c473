-- The loops of `parameters::delta::coded_deltas`: which channels are left, and that the segments are sound.
use Rattle.syntax.proofs.Sequence.{Turns}
use Rattle.slots.specs.Sound.{SoundDeltas}
use Rattle.parameters.specs.Delta.{channel_code, slot_deltas}
use Rattle.parameters.proofs.delta.coded_deltas.Given as goal

abbrev pub invariant-loop-ch : goal.invariant-loop-ch
invariant-loop-ch l = Turns (channel_code l.fn.blk) 0 l.fn.nfchans l.initial.coded l.initial.r l.ch l.coded l.r × SoundDeltas l.coded.deltas

abbrev pub invariant-loop-ch-2 : goal.invariant-loop-ch-2
invariant-loop-ch-2 l = Turns (slot_deltas l.fn.blk l.coded.codes) 0 l.fn.nfchans l.initial.deltas l.initial.r l.ch l.deltas l.r × SoundDeltas l.deltas
