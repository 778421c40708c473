-- What bounds a set of exponents while it is read. Contracts cite it, so that the code's indexes and sums are in range. No part of the
-- definition.
use Rattle.std.specs.Prelude.{◌+◌, ◌*◌, ◌<◌, ◌≤◌}
use Rattle.slots.specs.Sound.{SoundRow}
use Rattle.exponents.specs.declared.sets.Set.{Set}
use Rattle.exponents.specs.declared.groups.Grouping.{Grouping}
use Rattle.exponents.specs.Exponents.{Unpacked, bins_each}

-- an exponent that others may be made from: the coupling start value is up to 30
pub record SoundUnpacked (u : Unpacked) : Type 0 where
  pub last : u.last < 32
  pub row : SoundRow u.row

-- a set of a slot: no bin passes 253
pub record SoundSet (set : Set) : Type 0 where
  pub slot : set.slot < 7
  pub strategy : set.strategy < 4
  pub start : set.start < 254
  pub end : set.end < 254

-- groups that end within a row
pub record SoundGrouping (set : Grouping) : Type 0 where
  pub strategy : set.strategy < 4
  pub within : set.first + set.count * (3 * bins_each set.strategy) ≤ 256
