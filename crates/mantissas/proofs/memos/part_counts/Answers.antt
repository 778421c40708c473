-- `mantissas::memos::part_counts` meets its contract: pointers that are all 0 count for nothing. Assumes nothing.
use Prim.Native.Nat.{◌-◌}
use Rattle.mantissas.proofs.Counted.{silent_counts}
use Rattle.mantissas.proofs.memos.part_counts.Goals as goal

pub returns-then-by-clause-value : goal.returns-then-by-clause-value
returns-then-by-clause-value c = rw c.if-by.true (silent_counts (c.args.p.end - c.args.p.start))
