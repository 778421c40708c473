-- The channel slots of a block: full bandwidth channels 0 to 4, coupling 5, LFE 6, the bins of each (4.4.3.11, .12 and .24), and whether its
-- exponents are new.
use Rattle.std.specs.Prelude.{Bool, false, not, ℕ, ◌+◌, ◌-◌, ◌*◌, eqb, ltb, get_or, replicate}
use Rattle.slots.specs.declared.Coupling.{Coupling}
use Rattle.slots.specs.declared.Deltas.{Deltas}

abbrev pub CPL : ℕ
CPL = 5

abbrev pub LFE : ℕ
LFE = 6

-- coupling sub-bands, twelve bins each: the first bin of one
abbrev pub sub_band : ℕ → ℕ
sub_band n = 37 + 12 * n

-- cplbegf and cplendf (4.4.3.11, 4.4.3.12): how many sub-bands, the first bin, and the first bin past the last
abbrev pub sub_bands : (cplbegf cplendf : ℕ) → ℕ
sub_bands cplbegf cplendf = 3 + cplendf - cplbegf

abbrev pub range_empty : (cplbegf cplendf : ℕ) → Bool
range_empty cplbegf cplendf = ltb (cplendf + 2) cplbegf

abbrev pub first_coupled : ℕ → ℕ
first_coupled cplbegf = sub_band cplbegf

abbrev pub past_coupled : ℕ → ℕ
past_coupled cplendf = sub_band (cplendf + 3)

-- chbwcod (4.4.3.24): a channel that is not coupled ends here; a coupled one ends where the coupling begins
abbrev pub past_channel : ℕ → ℕ
past_channel chbwcod = 37 + 3 * (chbwcod + 12)

-- chincpl (4.4.3.9)
abbrev pub coupled : Coupling → ℕ → Bool
coupled c ch = get_or c.chincpl ch false

-- exponent strategies (4.4.3.21 to 4.4.3.23): 0 reuses the exponents in force
abbrev pub is_new : ℕ → Bool
is_new strategy = not (eqb strategy 0)

-- no delta segments (4.4.3.47)
abbrev pub no_deltas : Deltas
no_deltas = record { count = 0; segments = replicate 24 0 }
