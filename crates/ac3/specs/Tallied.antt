-- No part of the definition: what the code keeps of the blocks read so far, beside the tally, to tell whether coordinates were sent.
use Rattle.std.specs.Prelude.{Bool, false, List, ◌≡◌, ℕ, ◌<◌, length, get_or}
use Rattle.ac3.specs.Sent.{Sending, had, coordinates_sent}

-- whether they were sent so far, and for each channel whether it has had them while it was coupled
pub record Tallied (blocks : List Sending) (told : Bool) (channels : List Bool) : Type 0 where
  pub sent : told ≡ coordinates_sent blocks
  pub had : (ch : ℕ) → ch < 5 → get_or channels ch false ≡ had blocks (length blocks) ch
