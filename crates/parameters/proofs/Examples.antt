-- Small cases of the sections of a block, by computation: a slip that docs/DECISIONS.md lists would come out otherwise here. Assumes nothing.
use mathlib.Core.Bool.{false}
use mathlib.Core.List.{List, [], ◌∷◌, map}
use mathlib.Core.Path.{◌≡◌, refl}
use Prim.Native.Nat.{ℕ}
use lib.ListN.{replicate}
use Rattle.bits.specs.Bits.{bit_at, value}
use Rattle.syntax.specs.Refusals.{too_short, no_delta, bad_delta}
use Rattle.syntax.specs.Grammar.{Grammar, ◌>>=◌, ◌>>◌, turns, framed}
use Rattle.syntax.specs.Run.{End, reached, refused, run, parse, unless, room_check, check}
use Rattle.parameters.specs.Delta.{deltas, coded_deltas, channel_code, delta_code, slot_deltas}
use Rattle.slots.specs.Slots.{no_deltas}
use Rattle.slots.specs.declared.Deltas.{Deltas}

-- how a section ends on some bytes, with room enough
ending : {A : Type 0} → Grammar A → List ℕ → End A
ending g s = (parse (framed too_short 4 >> g) s 100).end

-- a segment in force for channel 0
one_segment : List Deltas
one_segment = record { count = 1; segments = 3 ∷ 2 ∷ 7 ∷ replicate 21 0 } ∷ replicate 6 no_deltas

-- deltbaie 0 keeps the segments in a later block, and clears them in block 0
segments_stay : ending (deltas 1 1 false one_segment) (replicate 4 0) ≡ reached one_segment
unfolding ending deltas ◌>>=◌ run unless room_check check value bit_at
segments_stay = refl

no_segments_at_first : ending (deltas 0 1 false one_segment) (replicate 4 0) ≡ reached (replicate 7 no_deltas)
unfolding ending deltas ◌>>=◌ run unless room_check check value bit_at
no_segments_at_first = refl

-- deltbaie 1, deltbae 2 (bits 110..): cleared; deltbae 3: refused; deltbae 0: refused in block 0, kept later
codes : map (λ byte. ending (deltas 1 1 false one_segment) (byte ∷ replicate 3 0)) (0xC0 ∷ 0xE0 ∷ 0x80 ∷ [])
    ≡ reached (replicate 7 no_deltas) ∷ refused bad_delta ∷ reached one_segment ∷ []
unfolding ending deltas coded_deltas channel_code delta_code slot_deltas one_segment turns ◌>>=◌ run unless room_check check value bit_at
codes = refl

reuse_in_block_0 : ending (deltas 0 1 false one_segment) (0x80 ∷ replicate 3 0) ≡ refused no_delta
unfolding ending deltas coded_deltas channel_code delta_code slot_deltas turns ◌>>=◌ run unless room_check check value bit_at
reuse_in_block_0 = refl
