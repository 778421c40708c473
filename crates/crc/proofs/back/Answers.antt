-- `crc::back` meets its contract: each entry is eight shifts, by one test. Assumes nothing.
use Rattle.std.proofs.Common.{refl}
use Rattle.crc.specs.Register.{times, unshift}
use Rattle.crc.proofs.Table.{entries}
use Rattle.crc.proofs.back.Goals as goal

pub returns : goal.returns
unfolding times unshift
returns c = entries _ _ tt refl
