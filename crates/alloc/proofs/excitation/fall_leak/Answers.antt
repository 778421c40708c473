-- `alloc::excitation::fall_leak` meets its contract. Assumes nothing.
use Rattle.std.proofs.Common.{◌≡◌, ◌∙◌, ◌<◌, ◌^◌, ℤ, pos, ◌-ℤ◌, w32, to_z, of_z, arith}
use mir.ValLaws.{to_z-of_z}
use Rattle.signed.specs.Level.{max_z}
use Rattle.signed.specs.Bound.{Below}
use Rattle.signed.proofs.Bounds.{bounds, levels, fits_32, cast_32, back_32, below_u16, below_more, below_sub, below_read}
use Rattle.alloc.specs.Allocation.{fall_to, fall_by}
use Rattle.alloc.specs.Sound.{Bounded}
use Rattle.alloc.specs.declared.Gains.{Gains}
use Rattle.alloc.specs.declared.Leak.{Leak}
use Rattle.alloc.proofs.Bounded.{fall_below}
use Rattle.alloc.proofs.Larger.{larger}
use Rattle.alloc.proofs.excitation.fall_leak.Goals as goal

-- the definition's leaks, and that the fast one is near 0 when it is lowered
module _ (g : Gains) (here : ℤ) (l : Leak) where
  abbrev fast_of : ℤ
  fast_of = fall_to l.fast g.fdecay (here -ℤ pos g.fgain)

  abbrev slow_of : ℤ
  slow_of = fall_to l.slow g.sdecay (here -ℤ pos g.sgain)

  less_small : (less : ℤ) → g.fgain < 2 ^ 16 → Below 15 here → Below 9 less → Bounded l → Below 18 (fast_of -ℤ less)
  less_small less fits h q b =
      let fgain = below_u16 g.fgain fits in
      let floor : Below 17 (here -ℤ pos g.fgain) = search bounds depth 12 in
      below_sub (fall_below _ _ _ b.fast floor) (below_more q tt) tt

pub fall_to-fast-requires : goal.fall_to-fast-requires
fall_to-fast-requires c =
    let fgain = below_u16 c.args.g.fgain (omega arith) in
    (below_read c.requires.3.fast, search bounds depth 12)

pub fall_to-slow-requires : goal.fall_to-slow-requires
fall_to-slow-requires c =
    let sgain = below_u16 c.args.g.sgain (omega arith) in
    (below_read c.requires.3.slow, search bounds depth 12)

pub overflow_sub-fast : goal.overflow_sub-fast
overflow_sub-fast c =
    let fgain = below_u16 c.args.g.fgain (omega arith) in
    let leak = c.requires.3.fast in
    let fast : c.fall_to-fast.result ≡ fast_of c.args.g c.args.here c.args.l = c.fall_to-fast.ensures ∙ rw (cast_32 c.args.g.fgain (omega arith)) (search levels depth 12) in
    let back : to_z w32 (of_z w32 c.fall_to-fast.result) ≡ fast_of c.args.g c.args.here c.args.l = back_32 _ c.fall_to-fast.type_inv ∙ fast in
    rw (back, to_z-of_z w32 c.args.less c.ranges.less) (fits_32 (below_more (less_small c.args.g c.args.here c.args.l c.args.less (omega arith) c.requires.0 c.requires.2 c.requires.3) tt))

pub returns : goal.returns
unfolding fall_by
returns c =
    let fgain = below_u16 c.args.g.fgain (omega arith) in
    let sgain = below_u16 c.args.g.sgain (omega arith) in
    let leak = c.requires.3.fast in
    let other = c.requires.3.slow in
    let fast : c.fall_to-fast.result ≡ fast_of c.args.g c.args.here c.args.l = c.fall_to-fast.ensures ∙ rw (cast_32 c.args.g.fgain (omega arith)) (search levels depth 12) in
    let slow : c.fall_to-slow.result ≡ slow_of c.args.g c.args.here c.args.l = c.fall_to-slow.ensures ∙ rw (cast_32 c.args.g.sgain (omega arith)) (search levels depth 12) in
    let fast_back : to_z w32 (of_z w32 c.fall_to-fast.result) ≡ fast_of c.args.g c.args.here c.args.l = back_32 _ c.fall_to-fast.type_inv ∙ fast in
    let slow_back : to_z w32 (of_z w32 c.fall_to-slow.result) ≡ slow_of c.args.g c.args.here c.args.l = back_32 _ c.fall_to-slow.type_inv ∙ slow in
    let low = to_z-of_z w32 c.args.low c.ranges.low in
    let less = to_z-of_z w32 c.args.less c.ranges.less in
    let small = less_small c.args.g c.args.here c.args.l c.args.less (omega arith) c.requires.0 c.requires.2 c.requires.3 in
    let lowered : to_z w32 (of_z w32 (fast_of c.args.g c.args.here c.args.l -ℤ c.args.less)) ≡ fast_of c.args.g c.args.here c.args.l -ℤ c.args.less = to_z-of_z w32 _ (fits_32 (below_more small tt)) in
    let excite : to_z w32 (of_z w32 c.max.result) ≡ max_z (fast_of c.args.g c.args.here c.args.l -ℤ c.args.less) (slow_of c.args.g c.args.here c.args.l) =
    back_32 _ c.max.type_inv ∙ larger (fast_of c.args.g c.args.here c.args.l -ℤ c.args.less) (slow_of c.args.g c.args.here c.args.l) (rw (fast_back, less, lowered, slow_back) at c.max.ensures.value) in
    rw (fast_back, slow_back, low, excite)
