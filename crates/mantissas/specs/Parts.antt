-- The slots of a block in use, with the bins of each, in the order of their mantissas (4.3.3).
use Rattle.std.specs.Prelude.{Bool, ◌&&◌, not, cond, List, [], ◌∷◌, ◌++◌, ℕ, zero, suc, ◌+◌, get_or}
use Rattle.slots.specs.Slots.{CPL, LFE, first_coupled, past_coupled, coupled}
use Rattle.slots.specs.declared.Coupling.{Coupling}
use Rattle.mantissas.specs.declared.Part.{Part}

abbrev pub part : (slot start end : ℕ) → Part
part slot start end = record { slot = slot; start = start; end = end }

-- coupling comes directly after the first coupled channel
unfoldable pub channel_parts : Coupling → (ends : List ℕ) → (ch n : ℕ) → (waiting : Bool) → List Part
channel_parts c ends ch zero waiting = []
channel_parts c ends ch (suc n) waiting =
    let first = waiting && coupled c ch in
    let rest = channel_parts c ends (ch + 1) n (waiting && not first) in
    part ch 0 (get_or ends ch 0) ∷ cond first (part CPL (first_coupled c.cplbegf) (past_coupled c.cplendf) ∷ rest) rest

unfoldable pub parts : (nfchans : ℕ) (lfeon : Bool) → Coupling → (ends : List ℕ) → List Part
parts nfchans lfeon c ends = channel_parts c ends 0 nfchans c.cplinu ++ cond lfeon (part LFE 0 7 ∷ []) []
