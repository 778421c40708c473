-- `alloc::mask::deltas`: what each band has is the definition's after n segments, and has grown by at most 2^16 with each. Assumes nothing.
use Rattle.std.proofs.Common.{◌≡◌, ℕ, ◌+◌, ◌*◌, ◌^◌, ◌≤◌, ◌<◌, length}
use Rattle.std.specs.Int.Signed.{mag}
use Rattle.alloc.specs.Allocation.{at, passed, delta_sum}
use Rattle.alloc.proofs.mask.deltas.Given as goal

abbrev pub invariant-loop-n : goal.invariant-loop-n
invariant-loop-n l =
    (l.n ≤ l.count)
    × (l.from ≤ 510 * l.n)
    × (l.from ≡ passed l.segments l.n)
    × (length l.out ≡ 50)
    × ((band : ℕ) → band < 50 → at l.out band ≡ delta_sum l.segments band l.n)
    × ((band : ℕ) → mag (at l.out band) < 1 + 2 ^ 16 * l.n)
