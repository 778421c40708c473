-- The loop of `channels::coupling::coupling_bands`: which sub-bands are left, and that a band is left for each of them.
use Rattle.std.specs.Prelude.{◌+◌, ◌≤◌}
use Rattle.syntax.proofs.Sequence.{Turns}
use Rattle.channels.specs.Coupling.{joined}
use Rattle.channels.proofs.coupling.coupling_bands.Given as goal

abbrev pub invariant-loop-bnd : goal.invariant-loop-bnd
invariant-loop-bnd l =
    Turns (joined l.fn.blk) 1 l.fn.subbands l.fn.subbands l.initial.r l.bnd l.bands l.r × (l.fn.subbands + 1 ≤ l.bands + l.bnd) × (l.bands ≤ l.fn.subbands)
