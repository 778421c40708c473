-- A 0, digits or `-1`, by the first byte.
use Rattle.std.proofs.Common.{◌≡◌, ◌+◌, ◌<◌, length, get_or, arith}
use Rattle.std.proofs.lemmas.Grind.{common_steps}
use Rattle.std.proofs.lemmas.Option.{IfSome_then}
use Rattle.packed.proofs.AtOnce.{spelt_minus, spelt_zero}
use Rattle.packed.proofs.at_once.number_at.Goals as goal

pub returns-in-48 : goal.returns-in-48
returns-in-48 c =
    let within : c.args.at < length c.args.listing.now = grind (arith, common_steps) in
    let first : get_or c.args.listing.now c.args.at 0 ≡ 48 = grind (arith, common_steps) in
    IfSome_then _ c.ended.ensures (λ r e. spelt_zero c.args.listing.now c.args.at c.args.sep r within first e)

pub returns-else-branch-ne49 : goal.returns-else-branch-ne49
returns-else-branch-ne49 c =
    let within : c.args.at + 1 < length c.args.listing.now = grind (arith, common_steps) in
    let first : get_or c.args.listing.now c.args.at 0 ≡ 45 = grind (arith, common_steps) in
    let second : get_or c.args.listing.now (c.args.at + 1) 0 ≡ 49 = grind (arith, common_steps) in
    IfSome_then _ c.ended-in-45.ensures (λ r e. spelt_minus c.args.listing.now c.args.at c.args.sep r (omega arith) first within second e)
