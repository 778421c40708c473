-- The loop of `parameters::offsets::new_offsets`: which channels are left, and that the offsets are sound.
use Rattle.syntax.proofs.Sequence.{Turns}
use Rattle.slots.specs.Sound.{SoundOffsets}
use Rattle.parameters.specs.Parameters.{channel_offset}
use Rattle.parameters.proofs.offsets.new_offsets.Given as goal

abbrev pub invariant-loop-ch : goal.invariant-loop-ch
invariant-loop-ch l = Turns (channel_offset l.fn.blk) 0 l.fn.nfchans l.initial.offsets l.initial.r l.ch l.offsets l.r × SoundOffsets l.offsets
