-- `alloc::pointers::addresses` meets its contract. Assumes nothing.
use Rattle.std.proofs.Common.{◌≡◌, ◌∙◌, ap, w16, w32, to_z, of_z, rules, arith}
use mathlib.Core.Path.{ap₂}
use mir.ValLaws.{to_z-of_z}
use Rattle.signed.proofs.Bounds.{back_32, below_more}
use Rattle.alloc.specs.Allocation.{at, psd_of, address_of}
use Rattle.alloc.proofs.Bounded.{level_range}
use Rattle.alloc.proofs.Filled.{fills_none, fills_set}
use Rattle.alloc.proofs.pointers.addresses.Goals as goal

pub loop-bin-init : goal.loop-bin-init
loop-bin-init c = (omega arith, omega arith, fills_none _ _ _ _)

pub address-requires : goal.address-requires
address-requires c =
    let bin = c.loop-bin.bin in
    let level : to_z w32 (of_z w32 c.level.result) ≡ psd_of (at c.args.exponents.now bin) =
    back_32 _ c.level.type_inv ∙ c.level.ensures ∙ ap psd_of (to_z-of_z w16 (at c.args.exponents.now bin) (search rules)) in
    let limit = c.requires.4 bin (omega arith) (omega arith) in
    let mask = back_32 (at c.args.masks.now bin) (below_more {k = 31} limit.below tt).below in
    let range = level_range c.args.exponents.now c.requires.3 bin in
    (rw level range.0, rw level range.1, rw mask limit)

pub loop-bin-preserved : goal.loop-bin-preserved
loop-bin-preserved c =
    let here = c.loop-bin in
    let level : to_z w32 (of_z w32 c.level.result) ≡ psd_of (at c.args.exponents.now here.bin) =
    back_32 _ c.level.type_inv ∙ c.level.ensures ∙ ap psd_of (to_z-of_z w16 (at c.args.exponents.now here.bin) (search rules)) in
    let limit = c.requires.4 here.bin (omega arith) (omega arith) in
    let mask = back_32 (at c.args.masks.now here.bin) (below_more {k = 31} limit.below tt).below in
    let stored = c.address.ensures ∙ ap₂ address_of level mask in
    (omega arith, omega arith, fills_set _ _ _ _ here.out here.bin _ (omega arith) (omega (arith, here.invariant.2.long)) stored here.invariant.2)
