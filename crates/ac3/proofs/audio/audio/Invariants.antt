-- The loop of `ac3::audio::audio`: which blocks are left, that those before are tallied, and that what they leave to the next one is within its
-- bounds.
use Rattle.std.proofs.Common.{List, ◌≤◌}
use Rattle.slots.specs.Sound.{SoundExps}
use Rattle.mantissas.specs.Kept.{Kept}
use Rattle.syntax.proofs.Sequence.{Turns}
use Rattle.ac3.specs.AudioBlock.{audio_block}
use Rattle.ac3.specs.Frame.{unread}
use Rattle.ac3.specs.Sent.{Sending}
use Rattle.ac3.specs.Sound.{SoundState}
use Rattle.ac3.specs.Tallied.{Tallied}
use Rattle.ac3.proofs.audio.audio.Given as goal

abbrev pub invariant-loop-blk : goal.invariant-loop-blk
invariant-loop-blk l =
    ((blocks : List Sending)
    × Turns (audio_block l.fn.header) 0 6 unread l.initial.r l.blk (record { state = l.state; exps = l.exps; tally = l.tally; blocks = blocks }) l.r
    × Tallied blocks l.tally.coordinates l.had)
    × SoundState l.state × SoundExps l.exps × (l.tally.coupled ≤ l.blk) × Kept l.fn.header.fscod l.memos l.exps
