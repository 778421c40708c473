-- `alloc::bands::wide_levels` meets its contract. Assumes nothing.
use Rattle.std.proofs.Common.{◌∙◌, ◌-◌, arith}
use Rattle.signed.proofs.Bounds.{back_32}
use Rattle.alloc.proofs.BandEnds.{start_mono, end_mono}
use Rattle.alloc.proofs.Filled.{fills_none, fills_set}
use Rattle.alloc.proofs.bands.wide_levels.Goals as goal

pub loop-band-init : goal.loop-band-init
loop-band-init c = (omega arith, omega arith, fills_none _ _ _ _)

pub band_level-requires : goal.band_level-requires
band_level-requires c =
    let here = c.loop-band in
    let low = start_mono here.band (c.args.last - 1) (omega arith) (omega arith) in
    let high = end_mono c.args.first here.band (omega arith) (omega arith) in
    (c.log_adds-adds.ensures, c.requires.1, c.requires.2, omega arith, omega arith, omega arith, omega arith, omega arith, omega arith)

pub loop-band-preserved : goal.loop-band-preserved
loop-band-preserved c =
    let here = c.loop-band in
    let stored = back_32 _ c.band_level.type_inv ∙ c.band_level.ensures in
    (omega arith, omega arith, fills_set _ _ _ _ here.out here.band _ (omega arith) (omega (arith, here.invariant.2.long)) stored here.invariant.2)
