-- The loop of `parameters::delta::new_deltas`: which segments are left, and that their codes are sound.
use Rattle.std.specs.Prelude.{replicate}
use Rattle.syntax.proofs.Sequence.{Turns}
use Rattle.slots.specs.Sound.{SoundCodes}
use Rattle.parameters.specs.Delta.{segment}
use Rattle.parameters.proofs.delta.new_deltas.Given as goal

abbrev pub invariant-loop-seg : goal.invariant-loop-seg
invariant-loop-seg l = Turns (segment l.fn.blk l.fn.slot) 0 l.count (replicate 24 0) l.initial.r l.seg l.segments l.r × SoundCodes l.segments
