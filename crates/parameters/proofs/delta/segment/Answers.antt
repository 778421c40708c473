-- `parameters::delta::segment` meets its contract: a `then` for each element. Assumes nothing.
use Prim.Native.Nat.{ℕ, suc, ◌+◌, ◌*◌}
use native.Mathlib.Numerals.{add-one}
use native.Mathlib.Omega.{arith}
use mathlib.Core.List.{List, [], ◌∷◌}
use mathlib.Core.Path.{◌≡◌}
use lib.ListN.{set}
use lib.Seq.{sets}
use Rattle.syntax.proofs.Sequence.{then, stops, refused, took, finished}
use Rattle.parameters.specs.Delta.{segment}
use Rattle.parameters.proofs.delta.segment.Goals as goal

stored : (l : List ℕ) (at : ℕ) (x y z : ℕ) → sets l at (x ∷ y ∷ z ∷ []) ≡ set (set (set l at x) (at + 1) y) (at + 2) z
stored l at x y z = let two : at + 2 ≡ suc (suc at) = omega arith in rw (add-one, two)

pub returns-in_err-deltoffst-clause-reads : goal.returns-in_err-deltoffst-clause-reads
unfolding segment
returns-in_err-deltoffst-clause-reads c = refused c.from_residual.ensures.1 (stops _ (took c.of_slot-offset.ensures c.in_err-deltoffst.ensures.reads))

pub returns-in_err-deltlen-clause-reads : goal.returns-in_err-deltlen-clause-reads
unfolding segment
returns-in_err-deltlen-clause-reads c = refused c.from_residual-in_err-deltlen.ensures.1 (then _ (took c.of_slot-offset.ensures c.in_ok-deltoffst.ensures.reads) (stops _ (took c.of_slot-length.ensures c.in_err-deltlen.ensures.reads)))

pub returns-in_err-deltba-clause-reads : goal.returns-in_err-deltba-clause-reads
unfolding segment
returns-in_err-deltba-clause-reads c = refused c.from_residual-in_err-deltba.ensures.1 (then _ (took c.of_slot-offset.ensures c.in_ok-deltoffst.ensures.reads) (then _ (took c.of_slot-length.ensures c.in_ok-deltlen.ensures.reads) (stops _ (took c.of_slot-code.ensures c.in_err-deltba.ensures.reads))))

pub returns-clause-reads : goal.returns-clause-reads
unfolding segment
returns-clause-reads c = then _ (took c.of_slot-offset.ensures c.in_ok-deltoffst.ensures.reads) (then _ (took c.of_slot-length.ensures c.in_ok-deltlen.ensures.reads) (then _ (took c.of_slot-code.ensures c.in_ok-deltba.ensures.reads) (rw (stored _ (c.args.seg * 3) _ _ _) finished)))
