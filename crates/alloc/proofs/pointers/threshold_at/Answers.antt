-- `alloc::pointers::threshold_at` meets its contract: each stage has few enough bits for the next. Assumes nothing.
use Rattle.std.proofs.Common.{◌≡◌, ◌∙◌, ◌<◌, ◌≤◌, ◌^◌, ℕ, ℤ, pos, ◌+ℤ◌, w32, to_z, of_z, arith}
use mir.ValLaws.{to_z-of_z}
use Rattle.signed.specs.Level.{max_z}
use Rattle.signed.specs.Bound.{Below}
use Rattle.signed.proofs.Bounds.{back_32, fits_32, below_more, below_max, below_read, below_add}
use Rattle.alloc.specs.Allocation.{over_knee}
use Rattle.alloc.specs.Stages.{threshold_at}
use Rattle.alloc.proofs.Bounded.{knee_below}
use Rattle.alloc.proofs.pointers.threshold_at.Goals as goal

abbrev mask : (excite here : ℤ) (knee quiet : ℕ) → ℤ
mask excite here knee quiet = max_z (over_knee excite here knee) (pos quiet)

sum_small : (excite here : ℤ) (knee quiet : ℕ) (delta : ℤ) → knee < 2 ^ 16 → Below 18 excite → Below 15 here → quiet ≤ 2112 → Below 20 delta → Below 21 (mask excite here knee quiet +ℤ delta)
sum_small excite here knee quiet delta k e h q d =
    let small : Below 19 (mask excite here knee quiet) = below_max (knee_below _ _ _ k e h) (record { below = omega arith }) in
    below_add (below_more small tt) d tt

pub mask_of-requires : goal.mask_of-requires
mask_of-requires c = (below_read c.requires.1, below_read c.requires.2)

pub overflow_add-mask : goal.overflow_add-mask
overflow_add-mask c =
    let a = c.args in
    let excite = to_z-of_z w32 a.excite c.ranges.excite in
    let here = to_z-of_z w32 a.here c.ranges.here in
    let delta = to_z-of_z w32 a.delta c.ranges.delta in
    let made : to_z w32 (of_z w32 c.mask_of.result) ≡ mask a.excite a.here a.p.now.dbknee a.quiet = back_32 _ c.mask_of.type_inv ∙ rw (excite, here) at c.mask_of.ensures in
    rw (made, delta) (fits_32 (below_more (sum_small a.excite a.here a.p.now.dbknee a.quiet a.delta (omega arith) c.requires.1 c.requires.2 c.requires.3 c.requires.4) tt))

pub threshold-requires : goal.threshold-requires
threshold-requires c =
    let a = c.args in
    let excite = to_z-of_z w32 a.excite c.ranges.excite in
    let here = to_z-of_z w32 a.here c.ranges.here in
    let delta = to_z-of_z w32 a.delta c.ranges.delta in
    let made : to_z w32 (of_z w32 c.mask_of.result) ≡ mask a.excite a.here a.p.now.dbknee a.quiet = back_32 _ c.mask_of.type_inv ∙ rw (excite, here) at c.mask_of.ensures in
    let small = sum_small a.excite a.here a.p.now.dbknee a.quiet a.delta (omega arith) c.requires.1 c.requires.2 c.requires.3 c.requires.4 in
    let sum = to_z-of_z w32 _ (fits_32 (below_more {k = 31} small tt)) in
    (rw (made, delta, sum) (below_more small tt), below_read c.requires.0.snroffset, below_read c.requires.0.floor)

pub returns : goal.returns
unfolding threshold_at
returns c =
    let a = c.args in
    let excite = to_z-of_z w32 a.excite c.ranges.excite in
    let here = to_z-of_z w32 a.here c.ranges.here in
    let delta = to_z-of_z w32 a.delta c.ranges.delta in
    let made : to_z w32 (of_z w32 c.mask_of.result) ≡ mask a.excite a.here a.p.now.dbknee a.quiet = back_32 _ c.mask_of.type_inv ∙ rw (excite, here) at c.mask_of.ensures in
    let small = sum_small a.excite a.here a.p.now.dbknee a.quiet a.delta (omega arith) c.requires.1 c.requires.2 c.requires.3 c.requires.4 in
    let sum = to_z-of_z w32 _ (fits_32 (below_more {k = 31} small tt)) in
    let snr = back_32 a.p.now.snroffset (below_more {k = 31} c.requires.0.snroffset tt).below in
    let floor = back_32 a.p.now.floor (below_more {k = 31} c.requires.0.floor tt).below in
    back_32 _ c.threshold.type_inv ∙ rw (made, delta, sum, snr, floor) at c.threshold.ensures
