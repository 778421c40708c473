-- The example of docs/FORMAT.md, 0B 77 00 00 C0 00, by computation: as a list of rows, and in place, at byte 1 of a longer capture with a
-- room of four rows and three numbers, which are left over. Assumes nothing.
use mathlib.Core.List.{List, [], ◌∷◌, ◌++◌}
use mathlib.Core.Path.{◌≡◌, refl}
use Prim.Native.Nat.{ℕ, ◌+◌, ◌-◌, ◌*◌}
use lib.IntN.{ℤ, pos, negsuc}
use lib.ListN.{replicate}
use Rattle.bits.specs.Bits.{bit_at, value}
use Rattle.tables.specs.Tables.{frame_bytes}
use Rattle.syntax.specs.Grammar.{◌>>=◌}
use Rattle.syntax.specs.Numbers.{row_width, shown}
use Rattle.syntax.specs.Refusals.{no_frame_size}
use Rattle.syntax.specs.Place.{except, exec, flatten}
use Rattle.syntax.specs.Run.{room_check, check, unless, run, refused, parse}
use Rattle.header.specs.Header.{header, syncinfo}
use Rattle.ac3.specs.Frame.{syncframe, no_summary, answered, answer}

abbrev frame : List ℕ
frame = 0x0B ∷ 0x77 ∷ 0x00 ∷ 0x00 ∷ 0xC0 ∷ 0x00 ∷ []

abbrev none : ℤ
none = negsuc 0

-- name, role, programme, block, index, position, width, value
abbrev four_rows : List ℤ
four_rows =
    (pos 1 ∷ pos 1 ∷ none ∷ none ∷ none ∷ pos 0 ∷ pos 16 ∷ pos 2935 ∷ none ∷ [])
    ++ (pos 2 ∷ pos 2 ∷ none ∷ none ∷ none ∷ pos 16 ∷ pos 16 ∷ pos 0 ∷ none ∷ [])
    ++ (pos 3 ∷ pos 5 ∷ none ∷ none ∷ none ∷ pos 32 ∷ pos 2 ∷ pos 3 ∷ none ∷ [])
    ++ (pos 4 ∷ pos 5 ∷ none ∷ none ∷ none ∷ pos 34 ∷ pos 6 ∷ pos 0 ∷ none ∷ [])

listed : let r = parse syncframe frame 2048 in (flatten r.rows ≡ four_rows) × (r.end ≡ refused no_frame_size) × (r.spot.at ≡ 40)
unfolding syncframe header syncinfo ◌>>=◌ run unless room_check check flatten shown value bit_at frame_bytes
listed = (refl, refl, refl)

in_place : answer (0xFF ∷ frame) 1 (replicate (4 * row_width + 3) (pos 7))
    ≡ (record { refusal = 3; rows = 4; bit = 40; name = 0; block = 255; summary = no_summary }, four_rows ++ pos 7 ∷ pos 7 ∷ pos 7 ∷ [])
unfolding answered syncframe header syncinfo ◌>>=◌ exec except room_check check shown value bit_at frame_bytes
in_place = refl

-- with room for three rows the fourth is refused, before fscod 3 is judged
short_of_room : (answer frame 0 (replicate (4 * row_width - 1) (pos 7))).0 ≡ record { refusal = 7; rows = 3; bit = 34; name = 0; block = 255; summary = no_summary }
unfolding answered syncframe header syncinfo ◌>>=◌ exec except room_check check shown value bit_at frame_bytes
short_of_room = refl

-- a place past the end: too short
past_the_end : answer frame 7 (replicate (4 * row_width - 1) (pos 7)) ≡ (record { refusal = 1; rows = 0; bit = 0; name = 0; block = 255; summary = no_summary }, replicate (4 * row_width - 1) (pos 7))
unfolding answered syncframe header syncinfo ◌>>=◌ exec except
past_the_end = refl
