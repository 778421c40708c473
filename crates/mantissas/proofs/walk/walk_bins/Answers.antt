-- `mantissas::walk::walk_bins` meets its contract: a mantissa takes as many bits as the total grows by. Assumes nothing.
use mathlib.Core.Path.{◌≡◌}
use Prim.Native.Nat.{◌-◌}
use native.Mathlib.Omega.{arith}
use lib.ListN.{get_or}
use Rattle.mantissas.specs.Counts.{counted_all, open_after}
use Rattle.mantissas.specs.Mantissas.{bits_of, widths}
use Rattle.mantissas.proofs.Between.{between_none, between_one}
use Rattle.mantissas.proofs.Counted.{grew, bits_small, one_at_most, no_more}
use Rattle.mantissas.proofs.Walks.{bin_left, steps, breaks, none_left, handed_on}
use Rattle.mantissas.proofs.walk.walk_bins.Goals as goal

pub width-requires : goal.width-requires
width-requires c =
    let at = c.loop-bin in
    rw c.with_one-more.ensures (no_more (one_at_most at.counts _ at.invariant.few) (omega (arith, at.invariant.from_start)))

pub overflow_sub-width : goal.overflow_sub-width
overflow_sub-width c = omega (arith, grew c.loop-bin.counts (get_or c.args.pointers.now c.loop-bin.bin 0) c.with_one-more.ensures c.width-in-loop-bin.ensures c.width.ensures)

pub overflow_cast-width : goal.overflow_cast-width
overflow_cast-width c =
    let bap = get_or c.args.pointers.now c.loop-bin.bin 0 in
    omega (arith, grew c.loop-bin.counts bap c.with_one-more.ensures c.width-in-loop-bin.ensures c.width.ensures, bits_small (open_after c.loop-bin.counts) bap)

pub returns-in_err-step-clause-goes_on : goal.returns-in_err-step-clause-goes_on
returns-in_err-step-clause-goes_on c =
    let at = c.loop-bin in
    let bap = get_or c.args.pointers.now at.bin 0 in
    let taken : c.width.result - c.width-in-loop-bin.result ≡ bits_of (open_after at.counts) bap = omega (arith, grew at.counts bap c.with_one-more.ensures c.width-in-loop-bin.ensures c.width.ensures) in
    handed_on _ c.from_residual.ensures.1 (breaks (bin_left at.counts c.args.pointers.now c.loop-bin-test.true at.invariant.left) (rw taken at c.in_err-step.ensures))

pub loop-bin-preserved : goal.loop-bin-preserved
unfolding counted_all
loop-bin-preserved c =
    let at = c.loop-bin in
    let bap = get_or c.args.pointers.now at.bin 0 in
    let taken : c.width.result - c.width-in-loop-bin.result ≡ bits_of (open_after at.counts) bap = omega (arith, grew at.counts bap c.with_one-more.ensures c.width-in-loop-bin.ensures c.width.ensures) in
    record {
      counted = rw c.with_one-more.ensures (rw (between_one 0 c.args.pointers.now c.loop-bin-test.true) at at.invariant.counted);
      left = rw c.with_one-more.ensures (steps (bin_left at.counts c.args.pointers.now c.loop-bin-test.true at.invariant.left) (rw taken at c.in_ok-step.ensures));
      few = rw c.with_one-more.ensures (no_more (one_at_most at.counts _ at.invariant.few) (omega (arith, at.invariant.from_start)));
      from_start = omega arith;
    }

pub returns-clause-counts_value : goal.returns-clause-counts_value
unfolding counted_all
returns-clause-counts_value c = rw (between_none 0 c.args.pointers.now c.loop-bin-test.false) at c.loop-bin.invariant.counted

pub returns-clause-goes_on : goal.returns-clause-goes_on
unfolding widths
returns-clause-goes_on c = none_left (rw (between_none 0 c.args.pointers.now c.loop-bin-test.false) at c.loop-bin.invariant.left)
