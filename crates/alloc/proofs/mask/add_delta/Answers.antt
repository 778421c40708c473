-- `alloc::mask::add_delta` meets its contract. Assumes nothing.
use Rattle.std.proofs.Common.{◌≡◌, ℕ, List, ℤ, pos, ◌+ℤ◌, w32, to_z, of_z, get_or, FitsSigned, arith}
use mir.ValLaws.{to_z-of_z}
use Rattle.signed.specs.Bound.{Below}
use Rattle.signed.proofs.Bounds.{bounds, back_32, below_more}
use Rattle.alloc.specs.Allocation.{at}
use Rattle.alloc.specs.Sound.{Every}
use Rattle.alloc.proofs.Filled.{fills_none, fills_set, fills_rest, fills_ended}
use Rattle.alloc.proofs.mask.add_delta.Goals as goal

-- what the band had, read back, is what it had at first, and the sum fits
module _ (old out : List ℤ) (delta : ℤ) (band : ℕ) (all : Every 20 old) (small : Below 16 delta) (is : get_or out band (pos 0) ≡ at old band) where
  read : to_z w32 (of_z w32 (get_or out band (pos 0))) ≡ at old band
  read = rw is (back_32 _ (below_more {k = 31} (all band) tt).below)

  sum_fits : FitsSigned w32 (at old band +ℤ to_z w32 (of_z w32 delta))
  sum_fits = let o = all band in search bounds depth 12

  stored : to_z w32 (of_z w32 (to_z w32 (of_z w32 (get_or out band (pos 0))) +ℤ to_z w32 (of_z w32 delta))) ≡ at old band +ℤ to_z w32 (of_z w32 delta)
  stored = rw read (to_z-of_z w32 _ sum_fits)

pub loop-band-init : goal.loop-band-init
loop-band-init c = (omega arith, omega arith, fills_none _ _ _ _)

pub overflow_add-out : goal.overflow_add-out
overflow_add-out c =
    let here = c.loop-band in
    let is = fills_rest _ _ _ _ here.invariant.2 here.band (omega arith) in
    rw (read c.args.out.now here.out c.args.delta here.band c.requires.3 c.requires.2 is) (sum_fits c.args.out.now here.out c.args.delta here.band c.requires.3 c.requires.2 is)

pub loop-band-preserved : goal.loop-band-preserved
loop-band-preserved c =
    let here = c.loop-band in
    let is = fills_rest _ _ _ _ here.invariant.2 here.band (omega arith) in
    (omega arith, omega arith, fills_set _ _ _ _ here.out here.band _ (omega arith) (omega (arith, here.invariant.2.long)) (stored c.args.out.now here.out c.args.delta here.band c.requires.3 c.requires.2 is) here.invariant.2)

pub returns : goal.returns
returns c =
    let filled = rw (to_z-of_z w32 c.args.delta c.ranges.delta) at c.loop-band.invariant.2 in
    fills_ended _ _ _ _ _ (omega arith) (omega arith) filled
