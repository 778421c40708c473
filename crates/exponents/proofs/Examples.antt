-- A set of exponents, by computation: a slip that docs/DECISIONS.md lists would come out otherwise here. Assumes nothing.
use mathlib.Core.List.{[], ◌∷◌}
use mathlib.Core.Path.{◌≡◌, refl}
use lib.IntN.{pos}
use lib.ListN.{replicate}
use Rattle.bits.specs.Bits.{bit_at, value}
use Rattle.syntax.specs.Refusals.{too_short}
use Rattle.syntax.specs.Grammar.{◌>>=◌, ◌>>◌, turns, framed}
use Rattle.syntax.specs.Run.{reached, run, parse, unless, room_check, check}
use Rattle.slots.specs.Slots.{CPL}
use Rattle.exponents.specs.Exponents.{exponent_set, group, unpack, step}

-- the coupling start value 13, doubled to 26, is not judged: a group of -2 0 0 makes 24 24 24 (group 2 * 5 + 2 = 12)
doubled_start : (parse (framed too_short 4 >> exponent_set 0 CPL 1 0 3) (0xD1 ∷ 0x80 ∷ 0 ∷ 0 ∷ []) 100).end ≡ reached (pos 24 ∷ pos 24 ∷ pos 24 ∷ replicate 253 (pos 0))
unfolding exponent_set group unpack step turns ◌>>=◌ run unless room_check check value bit_at
doubled_start = refl
