-- What bounds the values that are carried from block to block. No part of the definition: contracts cite it, so that the code's indexes and
-- sums are in range.
use Rattle.std.specs.Prelude.{◌≤◌}
use Rattle.slots.specs.declared.Coupling.{Coupling}
use Rattle.slots.specs.Sound.{Entries}
use Rattle.channels.specs.declared.Bandwidths.{Bandwidths}

-- no more coupling bands than sub-bands
pub record SoundBands (c : Coupling) : Type 0 where
  pub ncplbnd : c.ncplbnd ≤ 18

-- a code above 60 is refused, and not kept
pub record SoundBandwidths (w : Bandwidths) : Type 0 where
  pub chbwcod : Entries w.chbwcod 61
