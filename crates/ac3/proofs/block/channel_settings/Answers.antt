-- `ac3::block::channel_settings` meets its contract: a `then` for each call. Assumes nothing.
use Rattle.syntax.proofs.Sequence.{then, stops, refused}
use Rattle.ac3.specs.AudioBlock.{channel_flags, channel_settings}
use Rattle.ac3.proofs.block.channel_settings.Goals as goal

pub returns-in_err-flags : goal.returns-in_err-flags
unfolding channel_settings channel_flags
returns-in_err-flags c = refused c.from_residual.ensures.1 (rw (← c.nfchans-n.ensures.0) (stops _ c.in_err-flags.ensures))

pub returns-in_err-flags-2 : goal.returns-in_err-flags-2
unfolding channel_settings channel_flags
returns-in_err-flags-2 c =
    refused c.from_residual-in_err-flags-2.ensures.1 (rw (← c.nfchans-n.ensures.0) (then _ c.in_ok-flags.ensures (stops _ c.in_err-flags-2.ensures)))

pub returns : goal.returns
unfolding channel_settings channel_flags
returns c = rw (← c.nfchans-n.ensures.0) (then _ c.in_ok-flags.ensures (then _ c.in_ok-flags-2.ensures c.dynamic_ranges.ensures))
