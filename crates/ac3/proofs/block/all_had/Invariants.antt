-- The loop of `ac3::block::all_had`: every coupled channel before the one that is looked at has had them.
use Rattle.std.proofs.Common.{◌≡◌, ℕ, ◌<◌, true, false}
use Rattle.std.specs.Prelude.{◌||◌, not, get_or}
use Rattle.ac3.proofs.block.all_had.Given as goal

abbrev pub invariant-loop-ch : goal.invariant-loop-ch
invariant-loop-ch l = (k : ℕ) → k < l.ch → (not (get_or l.fn.chincpl k false) || get_or l.fn.had k false) ≡ true
