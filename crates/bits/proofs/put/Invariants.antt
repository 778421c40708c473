-- What is left to write, put into the slice as it is, is all of it put into the slice as it was.
use Rattle.std.proofs.Common.{◌≡◌, min}
use Rattle.bits.specs.Put as after
use Rattle.bits.proofs.put.Given as goal

abbrev pub invariant-loop-left : goal.invariant-loop-left
invariant-loop-left l = after.put l.s l.pos l.left l.rest ≡ after.put l.initial.s l.pos (min l.n 16) l.v
