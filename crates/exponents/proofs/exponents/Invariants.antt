-- The loop of `exponents::exponents`: which channels are left, that the exponents are sound, and which were kept.
use Rattle.syntax.proofs.Sequence.{Turns}
use Rattle.slots.specs.Sound.{SoundExps}
use Rattle.slots.specs.Reused.{Keeps, ReusedBy}
use Rattle.exponents.specs.Exponents.{Exponents, channel_exponents}
use Rattle.exponents.proofs.exponents.Given as goal

abbrev pub invariant-loop-ch : goal.invariant-loop-ch
invariant-loop-ch l =
    let layout = l.fn.layout in
    let first : Exponents = record { cover = l.initial.covered; exps = l.initial.exps } in
    let now : Exponents = record { cover = l.covered; exps = l.exps } in
    Turns (channel_exponents layout.blk layout.strategies.chexpstr layout.ends) 0 layout.nfchans first l.initial.r l.ch now l.r
    × SoundExps l.exps
    × Keeps (ReusedBy layout.strategies) l.initial.exps l.exps
