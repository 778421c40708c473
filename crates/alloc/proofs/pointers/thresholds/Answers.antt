-- `alloc::pointers::thresholds` meets its contract. Assumes nothing.
use Rattle.std.proofs.Common.{◌≡◌, ◌∙◌, refl, ◌+◌, ◌*◌, arith}
use Rattle.signed.proofs.Bounds.{back_32, below_read, below_more}
use Rattle.tables.proofs.Rule.{hearing_at_most}
use Rattle.alloc.specs.Allocation.{at}
use Rattle.alloc.proofs.Filled.{fills_none, fills_set, fills_fresh}
use Rattle.alloc.proofs.pointers.thresholds.Goals as goal

pub loop-band-init : goal.loop-band-init
loop-band-init c = (omega arith, omega arith, fills_none _ _ _ _)

pub threshold_at-requires : goal.threshold_at-requires
threshold_at-requires c =
    let band = c.loop-band.band in (
      c.requires.2,
      below_read (c.requires.4 band),
      below_read (c.requires.5 band),
      rw c.requires.3 (hearing_at_most (50 * c.args.p.now.fscod + band)),
      below_read (c.requires.6 band),
    )

pub loop-band-preserved : goal.loop-band-preserved
loop-band-preserved c =
    let here = c.loop-band in
    let excite = back_32 (at c.args.excite.now here.band) (below_more {k = 31} (c.requires.4 here.band) tt).below in
    let level = back_32 (at c.args.bands.now here.band) (below_more {k = 31} (c.requires.5 here.band) tt).below in
    let delta = back_32 (at c.args.deltas.now here.band) (below_more {k = 31} (c.requires.6 here.band) tt).below in
    let stored = back_32 _ c.threshold_at.type_inv ∙ rw (excite, level, delta, c.requires.3) at c.threshold_at.ensures in
    (omega arith, omega arith, fills_set _ _ _ _ here.out here.band _ (omega arith) (omega (arith, here.invariant.2.long)) stored here.invariant.2)

pub returns : goal.returns
returns c =
    let end : c.loop-band.band ≡ c.args.last = omega arith in
    fills_fresh _ _ 50 _ _ refl (rw end at c.loop-band.invariant.2)
