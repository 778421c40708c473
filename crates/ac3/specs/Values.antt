-- Values on each side (docs/FORMAT.md): one table, as a statement about the definitions. `proofs/Values.antt` proves it.
use Rattle.std.specs.Prelude.{true, false, List, [], ◌∷◌, map, ◌≡◌, ℕ, ◌+◌, ◌*◌, ◌/◌, ◌%◌, ℤ, pos, negsuc, ◌+ℤ◌, replicate}
use Rattle.bits.specs.Bits.{value}
use Rattle.tables.specs.Tables.{frame_bytes}
use Rattle.alloc.specs.Allocation.{logadd, snr_offset, band_of, delta_of}
use Rattle.syntax.specs.Refusals.{too_short, bad_group, bad_coupling_range}
use Rattle.syntax.specs.Grammar.{◌>>◌, plain, framed}
use Rattle.syntax.specs.Run.{sum, End, reached, refused, parse}
use Rattle.slots.specs.Slots.{sub_bands, first_coupled, past_coupled, past_channel}
use Rattle.slots.specs.declared.Coupling.{Coupling}
use Rattle.channels.specs.Coupling.{new_coupling}
use Rattle.exponents.specs.Exponents.{Unpacked, differences, group, group_count}
use Rattle.mantissas.specs.Mantissas.{none_open, widths}

-- what one group makes of three bins from bin 0 on, after an exponent of 10
abbrev pub grouped : ℕ → End Unpacked
grouped code = (parse (framed too_short 1 >> group plain 1 0 0 (record { last = 10; row = replicate 3 (pos 0) })) (2 * code ∷ []) 1).end

abbrev pub unpacked : (a b c : ℕ) → End Unpacked
unpacked a b c = reached (record { last = c; row = pos a ∷ pos b ∷ pos c ∷ [] })

-- the three steps of a group, each 2 less than the difference that it codes
abbrev pub steps : ℕ → List ℤ
steps code = let (x, y, z) = differences code in map (λ d. pos d +ℤ negsuc 1) (x ∷ y ∷ z ∷ [])

-- how a strategy of block 0 ends in 2/0, with both channels coupled, no phase flags, and this cplbegf and cplendf: 11 bits
abbrev pub strategy : (cplbegf cplendf : ℕ) → End Coupling
strategy cplbegf cplendf =
    let bits = (0x600 + cplbegf * 16 + cplendf) * 32 in
    (parse (framed too_short 2 >> new_coupling 0 2 2) (bits / 256 ∷ bits % 256 ∷ []) 6).end

-- both coupled, in one band
abbrev pub coupled_from : (cplbegf cplendf : ℕ) → Coupling
coupled_from cplbegf cplendf =
    record { cplinu = true; chincpl = true ∷ true ∷ replicate 3 false; phsflginu = false; cplbegf = cplbegf; cplendf = cplendf; ncplbnd = 1 }

abbrev pub ValuesOnEachSide : Type 0
ValuesOnEachSide =
    -- (a) bytes of a frame, by fscod and frmsizecod; 0 where there is none
    (frame_bytes 0 0 ∷ frame_bytes 1 0 ∷ frame_bytes 1 1 ∷ frame_bytes 2 37 ∷ frame_bytes 0 38 ∷ frame_bytes 3 0 ∷ [] ≡ 128 ∷ 138 ∷ 140 ∷ 3840 ∷ 0 ∷ 0 ∷ [])
    -- (b) seven bits at bit 5
    × (value (0x0B ∷ 0x77 ∷ []) 5 7 ≡ 55)
    -- (c) groups 124, 62 and 125: their steps, and what they make after an exponent of 10
    × (steps 124 ∷ steps 62 ∷ [] ≡ (pos 2 ∷ pos 2 ∷ pos 2 ∷ []) ∷ (pos 0 ∷ pos 0 ∷ pos 0 ∷ []) ∷ [])
    × (grouped 124 ∷ grouped 62 ∷ grouped 125 ∷ [] ≡ unpacked 12 14 16 ∷ unpacked 10 10 10 ∷ refused bad_group ∷ [])
    -- (d) the end for chbwcod 1, and the groups of D15, D25 and D45
    × (past_channel 1 ∷ group_count 0 1 0 76 ∷ group_count 0 2 0 76 ∷ group_count 0 3 0 76 ∷ [] ≡ 76 ∷ 25 ∷ 13 ∷ 7 ∷ [])
    -- (e) bands of bins
    × (map band_of (27 ∷ 28 ∷ 30 ∷ 31 ∷ 252 ∷ []) ≡ 27 ∷ 28 ∷ 28 ∷ 29 ∷ 49 ∷ [])
    -- (f) cplbegf 5 and cplendf 3: sub-bands, first bin, first bin past; cplbegf 6 is refused with 9
    × (sub_bands 5 3 ∷ first_coupled 5 ∷ past_coupled 3 ∷ [] ≡ 1 ∷ 97 ∷ 109 ∷ [])
    × (strategy 5 3 ∷ strategy 6 3 ∷ [] ≡ reached (coupled_from 5 3) ∷ refused bad_coupling_range ∷ [])
    -- (g) SNR offsets
    × (snr_offset 0 0 ∷ snr_offset 15 0 ∷ snr_offset 63 15 ∷ [] ≡ negsuc 959 ∷ pos 0 ∷ pos 3132 ∷ [])
    -- (h) deltas
    × (map delta_of (0 ∷ 3 ∷ 4 ∷ 7 ∷ []) ≡ negsuc 511 ∷ negsuc 127 ∷ pos 128 ∷ pos 512 ∷ [])
    -- (i) mantissas in groups
    × (map (λ baps. sum (widths none_open baps)) ((1 ∷ 1 ∷ 1 ∷ 1 ∷ []) ∷ (4 ∷ 4 ∷ 4 ∷ []) ∷ (2 ∷ 1 ∷ 2 ∷ []) ∷ []) ≡ 10 ∷ 14 ∷ 12 ∷ [])
    -- (j) the logarithmic sum
    × (logadd (pos 3072) (pos 0) ≡ pos 3072)
    × ((a : ℤ) → logadd a a ≡ a +ℤ pos 64)
