-- `mantissas::memos::count_parts` meets its contract: a slot takes the bits by which the total grows. Assumes nothing.
use mathlib.Core.Path.{◌≡◌, refl, ap, sym, ◌∙◌}
use Prim.Native.Nat.{◌+◌, ◌*◌}
use native.Mathlib.Omega.{arith}
use lib.ListN.{get_or}
use Rattle.std.proofs.lemmas.List.{drop_more, drop_all}
use Rattle.mantissas.specs.BySlot.{own_counts}
use Rattle.mantissas.specs.Counts.{counted_all, plus, AtMost}
use Rattle.mantissas.specs.Mantissas.{part_pointers, all_pointers}
use Rattle.mantissas.specs.Sound.{no_part}
use Rattle.mantissas.proofs.Allocated.{first_part, few_slots}
use Rattle.mantissas.proofs.BySlot.{wider, none_counted_yet, part_counted, all_counted}
use Rattle.mantissas.proofs.Counted.{whole_width, no_width, width_few, counted_append, counted_added, plus_at_most, no_more, none_counted}
use Rattle.mantissas.proofs.memos.count_parts.Goals as goal

few : (c : goal.After-width-width) → AtMost (7 * 253) c.plus-counts.result
few c =
    let sum = plus_at_most {k = 253 * (c.loop-p.p-index + 1)} c.loop-p.invariant.few c.part_counts-more.ensures.at_most (omega arith) in
    rw c.plus-counts.ensures (no_more sum (omega (arith, c.loop-p-test.true, few_slots c.args.ps.now c.slots-p-items.ensures.value c.requires.sound_setting.2)))

pub loop-p-init : goal.loop-p-init
loop-p-init c =
    record { slots = none_counted_yet _ _; counted = refl; total = no_width; few = none_counted; reached = omega arith; kept = c.requires.kept }

pub overflow_sub-bits : goal.overflow_sub-bits
overflow_sub-bits c = (wider _ _ c.plus-counts.ensures c.loop-p.invariant.total c.width-width.ensures (few c)).0

pub overflow_cast-bits : goal.overflow_cast-bits
overflow_cast-bits c = omega (arith, (wider _ _ c.plus-counts.ensures c.loop-p.invariant.total c.width-width.ensures (few c)).1)

pub overflow_add-bits : goal.overflow_add-bits
overflow_add-bits c =
    let at = c.loop-p in
    omega (arith, wider _ _ c.plus-counts.ensures at.invariant.total c.width-width.ensures (few c.before), at.invariant.total, at.invariant.slots.few (get_or c.slots-p-items.result.now at.p-index no_part).slot)

pub loop-p-preserved : goal.loop-p-preserved
loop-p-preserved c =
    let a = c.args in
    let at = c.loop-p in
    let parts = c.slots-p-items.result.now in
    let part = get_or parts at.p-index no_part in
    let own = own_counts a.by.now.fscod a.by.now.st a.exps.now a.by.now.silent in
    let baps = part_pointers a.by.now.fscod a.by.now.st a.exps.now a.by.now.silent part in
    let total : c.plus-counts.result ≡ plus at.counts (own part) = c.plus-counts.ensures ∙ ap (plus at.counts) c.part_counts-more.ensures.value in
    let step = first_part a.by.now.fscod a.by.now.st a.exps.now a.by.now.silent parts at.p-index c.loop-p-test.true in
    record {
      slots = part_counted own parts part _ at.counts at.bits (c.slots-p-items.ensures.each_sound at.p-index).slot total at.invariant.total c.width-width.ensures
          (rw (drop_more parts at.p-index no_part c.loop-p-test.true) at at.invariant.slots);
      counted = rw (total ∙ sym (counted_added at.counts baps)) (sym (counted_append at.counts _ _) ∙ (rw step at at.invariant.counted));
      total = c.width-width.ensures;
      few = rw c.plus-counts.ensures (plus_at_most at.invariant.few c.part_counts-more.ensures.at_most (omega arith));
      reached = omega (arith, c.loop-p-test.true);
      kept = c.part_counts-more.ensures.kept_2;
    }

pub returns-clause-width_value : goal.returns-clause-width_value
unfolding all_pointers counted_all
returns-clause-width_value c =
    let at = c.loop-p in
    let none = drop_all at.p-index c.slots-p-items.result.now c.loop-p-test.false in
    rw (← c.slots-p-items.ensures.value) (at.invariant.total ∙ rw (rw none at at.invariant.counted) (whole_width _))

pub returns-clause-bits_value : goal.returns-clause-bits_value
returns-clause-bits_value c =
    let a = c.args in
    let at = c.loop-p in
    let none = drop_all at.p-index c.slots-p-items.result.now c.loop-p-test.false in
    rw (← c.slots-p-items.ensures.value) (all_counted a.by.now.fscod a.by.now.st a.exps.now a.by.now.silent c.slots-p-items.result.now at.counts at.bits (rw none at at.invariant.slots))

pub returns-clause-width_bound : goal.returns-clause-width_bound
returns-clause-width_bound c =
    let at = c.loop-p in
    rw at.invariant.total (width_few (no_more at.invariant.few (omega (arith, at.invariant.reached, few_slots c.args.ps.now c.slots-p-items.ensures.value c.requires.sound_setting.2))))
