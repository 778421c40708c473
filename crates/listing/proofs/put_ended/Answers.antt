-- `listing::put_ended` meets its contract: the number's text, then the separator. Assumes nothing.
use Rattle.std.proofs.Common.{[], ◌∷◌}
use Rattle.listing.specs.Number.{signed, separator}
use Rattle.listing.proofs.Left.{both}
use Rattle.listing.proofs.put_ended.Goals as goal

pub returns : goal.returns
returns c =
    both c.args.out.now c.args.at (signed c.args.v) (separator c.args.left ∷ []) c.put_signed-to.ensures (rw c.separator_of.ensures at c.put.ensures)
