-- `alloc::excitation::low_after` meets its contract. Assumes nothing.
use mathlib.Core.Path.{◌≡◌, ◌∙◌, sym}
use mathlib.Core.Bool.{true, false}
use Prim.Native.Nat.{◌+◌}
use borrow.Author.Rules.{rules}
use borrow.Author.Tests.{lt-ltb}
use lib.IntN.{pos}
use lib.ListN.{get_or}
use mir.Syntax.{w32}
use mir.ValLaws.{to_z-of_z}
use Rattle.signed.proofs.Bounds.{back_32, below_read, below_more}
use Rattle.alloc.specs.Allocation.{lfe_last, low_after}
use Rattle.alloc.proofs.excitation.low_after.Statement.{statement}
use Rattle.alloc.proofs.excitation.low_after.Tie as tie

lfe-last-requires : tie.Need-lfe_last-requires
lfe-last-requires c κs = search rules

returns : tie.Need-returns-then-lfe_last
unfolding low_after
returns c =
    let s = c.before.before in
    let last : lfe_last s.args.count s.args.band ≡ true = sym c.before.lfe_last.ensures ∙ c.if-lfe_last.true in
    rw (lt-ltb _ 22 s.requires.0, last) (to_z-of_z w32 s.args.low s.ranges.low)

mul_calc_lowcomp : tie.Need-offset_bounds-bands-band
mul_calc_lowcomp c = search rules

element_copy_out_calc_lowcomp : tie.Need-bounds-bands-band
element_copy_out_calc_lowcomp c = search rules

add_calc_lowcomp : tie.Need-overflow_add-band
add_calc_lowcomp c = search rules

mul_calc_lowcomp_2 : tie.Need-offset_bounds-bands-band-2
mul_calc_lowcomp_2 c = search rules

element_copy_out_calc_lowcomp_2 : tie.Need-bounds-bands-band-2
element_copy_out_calc_lowcomp_2 c = search rules

calc-lowcomp-requires : tie.Need-calc_lowcomp-requires
calc-lowcomp-requires c κs =
    let s = c.before.before.before.before in (
      below_read (below_more s.requires.1 tt),
      (below_read (below_more (s.requires.2 s.args.band) tt), below_read (below_more (s.requires.2 (s.args.band + 1)) tt)),
    )

returns-2 : tie.Need-returns
unfolding low_after
returns-2 c =
    let s = c.before.before.before.before.before in
    let last : lfe_last s.args.count s.args.band ≡ false = sym c.before.before.before.before.lfe_last.ensures ∙ c.before.before.before.if-lfe_last.false in
    let low = to_z-of_z w32 s.args.low s.ranges.low in
    let here = back_32 (get_or s.args.bands.now s.args.band (pos 0)) c.before.before.calc_lowcomp-arg-1.given in
    let next = back_32 (get_or s.args.bands.now (s.args.band + 1) (pos 0)) c.before.calc_lowcomp-arg-2-1.given in
    rw (lt-ltb _ 22 s.requires.0, last)
    (back_32 _ c.calc_lowcomp.type_inv ∙ c.calc_lowcomp.ensures ∙ rw (low, here, next))

pub low_after_spec : {M : Type 1} → statement M
low_after_spec =
    tie.close
    (tie.spec lfe-last-requires returns mul_calc_lowcomp element_copy_out_calc_lowcomp add_calc_lowcomp mul_calc_lowcomp_2 element_copy_out_calc_lowcomp_2 calc-lowcomp-requires returns-2)
