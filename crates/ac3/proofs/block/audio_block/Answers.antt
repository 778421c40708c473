-- `ac3::block::audio_block` meets its contract: it is what the sections answer; and of a block that is refused nothing is kept. Assumes nothing.
use Rattle.mantissas.proofs.Kept.{kept_none}
use Rattle.ac3.proofs.block.audio_block.Goals as goal

pub returns-in-Err-clause-kept_2 : goal.returns-in-Err-clause-kept_2
returns-in-Err-clause-kept_2 c = kept_none _ _
