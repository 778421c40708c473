-- The loop of `syntax::Reader::flags`: which flags are left.
use Rattle.syntax.specs.Grammar.{note, nth}
use Rattle.syntax.proofs.Sequence.{Turns}
use Rattle.syntax.proofs.Reader.flags.Given as goal

abbrev pub invariant-loop-i : goal.invariant-loop-i
invariant-loop-i l = Turns (λ i _. note (nth l.fn.blk l.fn.name i) 1) 0 l.fn.count tt l.initial.self l.i tt l.self
