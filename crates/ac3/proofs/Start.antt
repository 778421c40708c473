-- What a frame starts from is within the bounds that its blocks keep. Assumes nothing.
use native.Mathlib.Omega.{arith}
use Rattle.slots.specs.Sound.{SoundExps}
use Rattle.slots.proofs.Entries.{zeros_below, exps_none, deltas_none}
use Rattle.ac3.specs.Frame.{unsent, unread}
use Rattle.ac3.specs.Sound.{SoundState}

pub sound_exps : SoundExps unread.exps
sound_exps = exps_none

pub sound_state : SoundState unsent
sound_state =
    record {
      coupling = record { cplbegf = omega arith; cplendf = omega arith };
      bands = record { ncplbnd = omega arith };
      bandwidths = record { chbwcod = zeros_below 5 (omega arith) };
      alloc = record {
        curve = record { sdcycod = omega arith; fdcycod = omega arith; sgaincod = omega arith; dbpbcod = omega arith; floorcod = omega arith };
        offsets = record { csnroffst = omega arith; fsnroffst = zeros_below 7 (omega arith); fgaincod = zeros_below 7 (omega arith) };
        leak = record { cplfleak = omega arith; cplsleak = omega arith };
        deltas = deltas_none;
      };
    }
