-- The loop of `ac3::block::dynamic_ranges`: which programmes are left.
use Rattle.syntax.proofs.Sequence.{Turns}
use Rattle.header.specs.Header.{programmes}
use Rattle.ac3.specs.AudioBlock.{dynamic_range}
use Rattle.ac3.proofs.block.dynamic_ranges.Given as goal

abbrev pub invariant-loop-p : goal.invariant-loop-p
invariant-loop-p l = Turns (λ p _. dynamic_range l.fn.blk p) 0 (programmes l.fn.acmod) tt l.initial.r l.p tt l.r
