-- No part of the definition: what bounds the values that are carried from block to block. Contracts cite it, so that the code's indexes and
-- sums are in range.
use Rattle.slots.specs.Sound.{SoundAlloc, SoundCoupling}
use Rattle.channels.specs.Sound.{SoundBands, SoundBandwidths}
use Rattle.ac3.specs.declared.State.{State}

pub record SoundState (st : State) : Type 0 where
  pub coupling : SoundCoupling st.coupling
  pub bands : SoundBands st.coupling
  pub bandwidths : SoundBandwidths st.bandwidths
  pub alloc : SoundAlloc st.alloc
