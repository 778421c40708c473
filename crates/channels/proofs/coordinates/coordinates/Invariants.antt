-- The loop of `channels::coordinates::coordinates`: which bands are left.
use Rattle.syntax.proofs.Sequence.{Turns}
use Rattle.channels.specs.Coupling.{coordinate}
use Rattle.channels.proofs.coordinates.coordinates.Given as goal

abbrev pub invariant-loop-bnd : goal.invariant-loop-bnd
invariant-loop-bnd l = Turns (λ i _. coordinate l.fn.blk l.fn.ch i) 0 l.fn.ncplbnd tt l.initial.r l.bnd tt l.r
