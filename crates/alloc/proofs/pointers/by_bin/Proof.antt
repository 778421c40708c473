-- `alloc::pointers::by_bin` meets its contract: bands of each width in turn, and every bin below 253 is in one of them.
-- Assumes nothing.
use mathlib.Core.Path.{◌∙◌, refl, sym, ap}
use Prim.Native.Nat.{ℕ, zero-le}
use native.Mathlib.Omega.{arith}
use borrow.Author.Rules.{rules}
use borrow.Author.Tests.{lt-ltb, le-ltb}
use lib.Dec.{lit≤}
use lib.IntN.{ℤ, pos}
use Rattle.alloc.specs.Allocation.{at, band_of, start_of}
use Rattle.alloc.specs.Fills.{Fills}
use Rattle.alloc.proofs.BandEnds.{width, narrow, band_at, band_of_lem, start_after, start_mono, last_start}
use Rattle.alloc.proofs.Filled.{filled_in, fills_moved, fills_join}
use Rattle.alloc.proofs.pointers.by_bin.Statement.{statement}
use Rattle.alloc.proofs.pointers.by_bin.Tie as tie

abbrev limit_of : tie.Start → ℕ → ℤ
limit_of s bin = at s.args.thresholds.now (band_of bin)

-- the bins below 28, and then those of each width
module _ (c : tie.After-narrow) where
  filled_1 : Fills (pos 0) 0 (start_of 28) (limit_of c.before.before) c.before.before.args.out.now c.narrow.new.out
  filled_1 =
      let start = start_after 27 ∙ (narrow 27 (lit≤ tt)).1 in
      fills_moved _ _ _ refl (sym start)
      (λ bin p q.
      let one = narrow bin (omega arith) in
      ap (at c.before.before.args.thresholds.now) (sym (band_at bin bin (omega arith) (omega arith) (omega arith))))
      c.narrow.ensures

filled_3 : (c : tie.After-spread) → Fills (pos 0) 0 (start_of 35) (limit_of c.before.before.before.before.before) c.before.before.before.before.before.args.out.now c.spread.new.out
filled_3 c = fills_join _ _ _ _ _ zero-le (start_mono 28 35 (lit≤ tt) (lit≤ tt)) (filled_1 c.before.before.before) c.spread.ensures

filled_6 : (c : tie.After-spread-2) → Fills (pos 0) 0 (start_of 41) (limit_of c.before.before.before.before.before.before.before) c.before.before.before.before.before.before.before.args.out.now c.spread-2.new.out
filled_6 c = fills_join _ _ _ _ _ zero-le (start_mono 35 41 (lit≤ tt) (lit≤ tt)) (filled_3 c.before.before) c.spread-2.ensures

filled_12 : (c : tie.After-spread-3) → Fills (pos 0) 0 (start_of 45) (limit_of c.before.before.before.before.before.before.before.before.before) c.before.before.before.before.before.before.before.before.before.args.out.now c.spread-3.new.out
filled_12 c = fills_join _ _ _ _ _ zero-le (start_mono 41 45 (lit≤ tt) (lit≤ tt)) (filled_6 c.before.before) c.spread-3.ensures

filled_24 : (c : tie.After-spread-4) → Fills (pos 0) 0 (start_of 50) (limit_of c.before.before.before.before.before.before.before.before.before.before.before) c.before.before.before.before.before.before.before.before.before.before.before.args.out.now c.spread-4.new.out
filled_24 c = fills_join _ _ _ _ _ zero-le (start_mono 45 50 (lit≤ tt) (lit≤ tt)) (filled_12 c.before.before) c.spread-4.ensures

pub by_bin_spec : {M : Type 1} → statement M
by_bin_spec =
    tie.close
    (tie.spec
    (λ c κs. search rules)
    (λ c.
    let s = c.before.before.before in
    let f = filled_1 c.before in (
      f.long ∙ s.requires.0,
      λ bin p q.
          let b = band_of_lem bin p in
          let one = narrow (band_of bin) (omega arith) in
          let start = start_after 27 ∙ (narrow 27 (lit≤ tt)).1 in
          f.entries bin ∙ filled_in (limit_of s) (at s.args.out.now) 0 (start_of 28) bin zero-le (omega arith),
    ))
    (λ c κs.
    let s = c.before.before.before.before in (
      (filled_1 c.before.before).long ∙ s.requires.0,
      s.requires.1,
      lit≤ tt,
      lit≤ tt,
      lit≤ tt,
      λ band p q. width band (omega arith) ∙ rw (le-ltb band 28 p, lt-ltb band 35 q),
    ))
    (λ c κs.
    let s = c.before.before.before.before.before.before in (
      (filled_3 c.before).long ∙ s.requires.0,
      s.requires.1,
      lit≤ tt,
      lit≤ tt,
      lit≤ tt,
      λ band p q. width band (omega arith) ∙ rw (le-ltb band 28 (omega arith), le-ltb band 35 p, lt-ltb band 41 q),
    ))
    (λ c κs.
    let s = c.before.before.before.before.before.before.before.before in (
      (filled_6 c.before).long ∙ s.requires.0,
      s.requires.1,
      lit≤ tt,
      lit≤ tt,
      lit≤ tt,
      λ band p q. width band (omega arith) ∙ rw (le-ltb band 28 (omega arith), le-ltb band 35 (omega arith), le-ltb band 41 p, lt-ltb band 45 q),
    ))
    (λ c κs.
    let s = c.before.before.before.before.before.before.before.before.before.before in (
      (filled_12 c.before).long ∙ s.requires.0,
      s.requires.1,
      lit≤ tt,
      lit≤ tt,
      lit≤ tt,
      λ band p q. width band q ∙ rw (le-ltb band 28 (omega arith), le-ltb band 35 (omega arith), le-ltb band 41 (omega arith), le-ltb band 45 p),
    ))
    (λ c.
    let s = c.before.before.before.before.before.before.before.before.before.before.before in
    let f = filled_24 c in
    (f.long ∙ s.requires.0, λ bin p q. f.entries bin ∙ filled_in (limit_of s) (at s.args.out.now) 0 (start_of 50) bin zero-le (omega (arith, last_start)))))
