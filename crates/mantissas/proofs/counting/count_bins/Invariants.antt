-- The loop of `mantissas::counting::count_bins`: the total, with the weights of the bins that are left, is the weight of all; and it stays so small that
-- the counts in it do not touch.
use mathlib.Core.List.{List}
use mathlib.Core.Path.{◌≡◌}
use Prim.Native.Nat.{ℕ, ◌+◌, ◌-◌, ◌*◌, ◌≤◌}
use Rattle.tables.specs.Tables.{bap}
use Rattle.alloc.specs.Allocation.{from}
use Rattle.alloc.specs.Stages.{bap_at}
use Rattle.mantissas.specs.Counts.{weight}
use Rattle.mantissas.proofs.counting.count_bins.Given as goal

-- the pointers of the bins from one up to another
abbrev pub pointers : List ℕ → ℕ → ℕ → List ℕ
pointers addresses first last = from first (last - first) (bap_at bap addresses)

pub record Counting (addresses : List ℕ) (start end total bin : ℕ) : Type 0 where
  pub left : total + weight (pointers addresses bin end) ≡ weight (pointers addresses start end)
  pub light : total ≤ 562949953421312 * (bin - start)
  pub from_start : start ≤ bin
  pub few : bin ≤ start + 253

abbrev pub invariant-loop-bin : goal.invariant-loop-bin
invariant-loop-bin l = Counting l.addresses l.fn.start l.fn.end l.total l.bin
