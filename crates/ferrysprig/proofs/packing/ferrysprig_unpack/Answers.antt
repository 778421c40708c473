-- What `unpack` answers, as numbers.
use Rattle.std.proofs.Common.{ap}
use Rattle.ferrysprig.specs.Packings.{packing_told}
use Rattle.ferrysprig.proofs.packing.ferrysprig_unpack.Goals as goal

pub returns : goal.returns
returns c = rw c.packing_numbers.ensures (ap packing_told c.unpack.ensures)
