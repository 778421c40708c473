-- The loop of `header::programme_infos`: which programmes are left.
use Rattle.syntax.proofs.Sequence.{Turns}
use Rattle.header.specs.Header.{programmes, programme_info}
use Rattle.header.proofs.programme_infos.Given as goal

abbrev pub invariant-loop-p : goal.invariant-loop-p
invariant-loop-p l = Turns (λ p _. programme_info p) 0 (programmes l.fn.acmod) tt l.initial.r l.p tt l.r
