-- `-1`, by its bytes.
use Rattle.std.proofs.Common.{◌+◌, refl, arith}
use Rattle.packed.proofs.AtOnce.{spelt_minus}
use Rattle.packed.proofs.at_once.short_at.Goals as goal

pub returns-in-45-eq49 : goal.returns-in-45-eq49
returns-in-45-eq49 c =
    spelt_minus c.args.listing.now c.args.at c.args.sep (record { stored = 0; end = c.args.at + 3 }) (omega arith) c.in-45-eq49.is-0 (omega arith) c.in-45-eq49.is-1 (refl, omega arith, omega arith, c.if-listing-at.false)
