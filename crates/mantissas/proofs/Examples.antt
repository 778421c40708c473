-- Small cases of the order of the slots and of the mantissas, by computation: a slip that docs/DECISIONS.md lists would come out otherwise here. Assumes nothing.
use mathlib.Core.Bool.{true, false}
use mathlib.Core.List.{[], ◌∷◌}
use mathlib.Core.Path.{◌≡◌, refl}
use Rattle.tables.specs.Tables.{bap_bits}
use Rattle.syntax.specs.Run.{sum}
use Rattle.slots.specs.Slots.{CPL, LFE}
use Rattle.slots.specs.declared.Coupling.{Coupling}
use Rattle.alloc.specs.Allocation.{from}
use Rattle.mantissas.specs.Parts.{part, channel_parts, parts}
use Rattle.mantissas.specs.Mantissas.{widths, none_open, bits_in, by_slot}

-- channels 1 and 2 of three are coupled from bin 97 up to bin 108
coupling : Coupling
coupling = record { cplinu = true; chincpl = false ∷ true ∷ true ∷ false ∷ false ∷ []; phsflginu = false; cplbegf = 5; cplendf = 3; ncplbnd = 1 }

-- the coupling range ends past its last bin and comes directly after the first coupled channel; LFE is last
slots_in_order : parts 3 true coupling (76 ∷ 97 ∷ 97 ∷ 0 ∷ 0 ∷ [])
    ≡ part 0 0 76 ∷ part 1 0 97 ∷ part CPL 97 109 ∷ part 2 0 97 ∷ part LFE 0 7 ∷ []
unfolding parts channel_parts coupling
slots_in_order = refl

-- groups of mantissas go on from one channel to the next: three of bap 1 share five bits wherever they stand
one_group : sum (widths none_open (1 ∷ 0 ∷ 1 ∷ 3 ∷ 1 ∷ [])) ≡ 8
unfolding sum widths bap_bits
one_group = refl

-- two channels of three bins each; the group of ones and the first pair of fours are begun in channel 0, the second pair in
-- channel 1
shared : by_slot (part 0 0 3 ∷ part 1 0 3 ∷ []) (widths none_open (1 ∷ 1 ∷ 4 ∷ 1 ∷ 4 ∷ 4 ∷ [])) ≡ 12 ∷ 7 ∷ 0 ∷ 0 ∷ 0 ∷ 0 ∷ 0 ∷ []
unfolding by_slot bits_in from sum widths
shared = refl

-- coupling and LFE have nothing but members of groups that channel 0 began: no bits
begun_elsewhere : by_slot (part 0 0 3 ∷ part CPL 37 39 ∷ part LFE 0 1 ∷ []) (widths none_open (1 ∷ 2 ∷ 4 ∷ 1 ∷ 2 ∷ 4 ∷ [])) ≡ 19 ∷ 0 ∷ 0 ∷ 0 ∷ 0 ∷ 0 ∷ 0 ∷ []
unfolding by_slot bits_in from sum widths
begun_elsewhere = refl
