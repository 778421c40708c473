-- The loop of `ac3::block::had_by_now`: the channels before the one that is looked at are done.
use Rattle.std.proofs.Common.{◌≡◌, ℕ, ◌<◌, length, false}
use Rattle.std.specs.Prelude.{◌&&◌, ◌||◌, get_or}
use Rattle.ac3.proofs.block.had_by_now.Given as goal

abbrev pub invariant-loop-ch : goal.invariant-loop-ch
invariant-loop-ch l =
    (length l.had ≡ 5) × ((k : ℕ) → k < l.ch → get_or l.had k false ≡ (get_or l.fn.before k false || (get_or l.fn.chincpl k false && get_or l.fn.cplcoe k false)))
