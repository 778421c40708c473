-- `crc::ahead` meets its contract: each entry is eight shifts, by one test. Assumes nothing.
use Rattle.std.proofs.Common.{refl}
use Rattle.crc.specs.Register.{times, shift}
use Rattle.crc.proofs.Table.{entries}
use Rattle.crc.proofs.ahead.Goals as goal

pub returns : goal.returns
unfolding times shift
returns c = entries _ _ tt refl
