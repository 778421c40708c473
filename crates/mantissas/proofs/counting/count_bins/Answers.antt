-- `mantissas::counting::count_bins` meets its contract: each bin adds the weight of its pointer. Assumes nothing.
use mathlib.Core.List.{List}
use mathlib.Core.Path.{◌≡◌, ap, ◌∙◌}
use Prim.Native.Nat.{ℕ, ◌+◌, ◌-◌}
use native.Mathlib.Nat.{zero-add}
use native.Mathlib.Omega.{arith}
use lib.ListN.{get_or}
use Rattle.tables.specs.Tables.{bap}
use Rattle.tables.proofs.Rule.{bap_below}
use Rattle.alloc.specs.Allocation.{from}
use Rattle.alloc.specs.Stages.{bap_at}
use Rattle.alloc.proofs.Noted.{from_at, from_length}
use Rattle.mantissas.specs.Counts.{no_counts, counted, packed, weight}
use Rattle.mantissas.proofs.Between.{from_none, from_one}
use Rattle.mantissas.proofs.Counted.{light, unpacked}
use Rattle.mantissas.proofs.counting.count_bins.Invariants.{pointers}
use Rattle.mantissas.proofs.counting.count_bins.Goals as goal

pub bounds-weights-pointer : goal.bounds-weights-pointer
bounds-weights-pointer c = rw c.bit_allocation_pointers-baps.ensures (bap_below (get_or c.args.addresses.now c.loop-bin.bin 0))

-- a pointer weighs what the table says
weighs : (baps table : List ℕ) (address : ℕ) → baps ≡ bap → table ≡ from 0 16 (λ k. packed (counted no_counts k))
    → get_or table (get_or baps address 0) 0 ≡ packed (counted no_counts (get_or bap address 0))
weighs baps table address e f =
    let weigh : ℕ → ℕ = λ k. packed (counted no_counts k) in
    let pointer = get_or bap address 0 in
    rw (f, e) (from_at weigh 0 16 0 pointer (bap_below address) ∙ ap weigh (zero-add pointer))

pub overflow_add-total : goal.overflow_add-total
overflow_add-total c =
    let address = get_or c.args.addresses.now c.loop-bin.bin 0 in
    let weighs = weighs _ _ address c.bit_allocation_pointers-baps.ensures c.weights-weights.ensures in
    omega (arith, c.loop-bin.invariant.light, c.loop-bin.invariant.few, weighs, light (get_or bap address 0))

pub loop-bin-preserved : goal.loop-bin-preserved
unfolding weight
loop-bin-preserved c =
    let at = c.loop-bin in
    let addresses = c.args.addresses.now in
    let pointer = bap_at bap addresses at.bin in
    let weighs = weighs _ _ (get_or addresses at.bin 0) c.bit_allocation_pointers-baps.ensures c.weights-weights.ensures in
    let step : weight (pointers addresses at.bin c.args.end) ≡ packed (counted no_counts pointer) + weight (pointers addresses (at.bin + 1) c.args.end) = rw (from_one (bap_at bap addresses) c.loop-bin-test.true) in
    record {
      left = omega (arith, step, at.invariant.left, weighs);
      light = omega (arith, at.invariant.light, at.invariant.from_start, weighs, light pointer);
      from_start = omega arith;
      few = omega (arith, at.invariant.few, at.invariant.from_start, c.requires.0, c.loop-bin-test.true);
    }

pub returns : goal.returns
unfolding weight
returns c =
    let at = c.loop-bin in
    let pointer = bap_at bap c.args.addresses.now in
    let none : weight (pointers c.args.addresses.now at.bin c.args.end) ≡ 0 = rw (from_none pointer c.loop-bin-test.false) in
    unpacked at.total (pointers c.args.addresses.now c.args.start c.args.end) (omega (arith, none, at.invariant.left))
    (rw (from_length pointer (c.args.end - c.args.start) c.args.start) (omega (arith, c.requires.0)))
