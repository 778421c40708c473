-- `mantissas::walk::walk_parts` meets its contract: the pieces of a slot, and then those of the slots that are left. Assumes nothing.
use native.Mathlib.Omega.{arith}
use lib.ListN.{get_or}
use Rattle.std.proofs.lemmas.List.{drop_all}
use Rattle.mantissas.specs.Mantissas.{widths, all_pointers}
use Rattle.mantissas.specs.Sound.{no_part}
use Rattle.mantissas.proofs.Allocated.{few_slots}
use Rattle.mantissas.proofs.Counted.{bins_at_most, no_more}
use Rattle.mantissas.proofs.Walks.{slot_left, goes_on, breaks_off, none_left, handed}
use Rattle.mantissas.proofs.walk.walk_parts.Goals as goal

pub walk_bins-requires : goal.walk_bins-requires
walk_bins-requires c =
    let at = c.loop-p in
    let seven = few_slots c.args.ps.now c.slots-p-items.ensures.value c.requires.2 in
    (no_more at.invariant.few (omega (arith, c.loop-p-test.true, seven)), ((c.slots-p-items.ensures.each_sound at.p-index).end, c.part_pointers-pointers.ensures.entries))

pub returns-in_err-counts : goal.returns-in_err-counts
returns-in_err-counts c =
    let at = c.loop-p in
    let left = slot_left c.args.by.now c.args.exps.now at.counts _ c.slots-p-items.result.now at.p-index c.loop-p-test.true c.part_pointers-pointers.ensures.end_value at.invariant.left in
    rw (← c.slots-p-items.ensures.value) (handed c.from_residual.ensures.1 (breaks_off _ _ left c.in_err-counts.ensures.goes_on))

pub loop-p-preserved : goal.loop-p-preserved
loop-p-preserved c =
    let at = c.loop-p in
    let part = get_or c.slots-p-items.result.now at.p-index no_part in
    let left = slot_left c.args.by.now c.args.exps.now at.counts _ c.slots-p-items.result.now at.p-index c.loop-p-test.true c.part_pointers-pointers.ensures.end_value at.invariant.left in
    record {
      left = rw c.in_ok-counts.ensures.counts_value (goes_on _ _ left c.in_ok-counts.ensures.goes_on);
      few = rw c.in_ok-counts.ensures.counts_value (no_more (bins_at_most at.counts c.part_pointers-pointers.result part.start part.end (c.slots-p-items.ensures.each_sound at.p-index).end at.invariant.few) (omega arith));
    }

pub returns : goal.returns
unfolding all_pointers widths
returns c = rw (← c.slots-p-items.ensures.value) (none_left (rw (drop_all c.loop-p.p-index c.slots-p-items.result.now c.loop-p-test.false) at c.loop-p.invariant.left))
