-- A word has five bits.
use Rattle.bits.proofs.Window.{value_lt}
use Rattle.aht.proofs.gains.Gains.gain_at.Goals as goal

pub digit-requires : goal.digit-requires
digit-requires c = rw c.get-in_default.ensures (value_lt _ _ 5)
