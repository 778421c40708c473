-- `alloc::excitation::is_rise` meets its contract. Assumes nothing.
use mathlib.Core.Path.{◌≡◌, ◌∙◌, sym}
use mathlib.Core.Bool.{true, false}
use Prim.Native.Nat.{◌+◌}
use borrow.Author.Rules.{rules}
use borrow.Author.Tests.{lt-leb, le-leb}
use lib.IntN.{pos}
use lib.ListN.{get_or}
use Rattle.signed.proofs.Bounds.{back_32}
use Rattle.alloc.specs.Allocation.{lfe_last, rises}
use Rattle.alloc.proofs.excitation.is_rise.Statement.{statement}
use Rattle.alloc.proofs.excitation.is_rise.Tie as tie

returns : tie.Need-returns-then-band-lt2
unfolding rises
returns c = rw (lt-leb 2 _ c.if-band-lt2.true)

lfe-last-requires : tie.Need-lfe_last-requires
lfe-last-requires c κs = search rules

returns-2 : tie.Need-returns-then-lfe_last
unfolding rises
returns-2 c =
    let s = c.before.before.before in
    let last : lfe_last s.args.count s.args.band ≡ true = sym c.before.lfe_last.ensures ∙ c.if-lfe_last.true in
    rw (le-leb 2 _ c.before.before.if-band-lt2.false, last)

mul_result : tie.Need-offset_bounds-bands-band
mul_result c = search rules

element_copy_out_result : tie.Need-bounds-bands-band
element_copy_out_result c = search rules

add_result : tie.Need-overflow_add-result
add_result c = search rules

mul_result_2 : tie.Need-offset_bounds-bands-band-2
mul_result_2 c = search rules

element_copy_out_result_2 : tie.Need-bounds-bands-band-2
element_copy_out_result_2 c = search rules

returns-3 : tie.Need-returns
unfolding rises
returns-3 c =
    let s = c.before.before.before.before.before in
    let last : lfe_last s.args.count s.args.band ≡ false = sym c.before.before.before.lfe_last.ensures ∙ c.before.before.if-lfe_last.false in
    let here = back_32 (get_or s.args.bands.now s.args.band (pos 0)) c.before.result-1.given in
    let next = back_32 (get_or s.args.bands.now (s.args.band + 1) (pos 0)) c.result-2-1.given in
    rw (le-leb 2 _ c.before.before.before.before.if-band-lt2.false, last, here, next)

pub is_rise_spec : {M : Type 1} → statement M
is_rise_spec =
    tie.close
    (tie.spec returns lfe-last-requires returns-2 mul_result element_copy_out_result add_result mul_result_2 element_copy_out_result_2 returns-3)
