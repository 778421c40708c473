-- What bounds the values that the code of the mantissas hands on, so that its indexes and sums are in range, and how its arrays are read as lists. No
-- part of the definition: contracts cite it.
use Rattle.std.specs.Prelude.{List, ℕ, ◌-◌, ◌≤◌, ◌<◌, get_or, take}
use Rattle.alloc.specs.Allocation.{from}
use Rattle.slots.specs.Sound.{SoundAlloc, SoundCoupling, SoundEnds}
use Rattle.mantissas.specs.Parts.{part}
use Rattle.mantissas.specs.declared.Block.{Block}
use Rattle.mantissas.specs.declared.Part.{Part}
use Rattle.mantissas.specs.declared.Parts.{Parts}
use Rattle.mantissas.specs.declared.Setting.{Setting}

pub record SoundBlock (b : Block) : Type 0 where
  pub fscod : b.fscod < 3
  pub nfchans : b.nfchans ≤ 5
  pub coupling : SoundCoupling b.coupling
  pub ends : SoundEnds b.ends

pub record SoundSetting (by : Setting) : Type 0 where
  pub fscod : by.fscod < 3
  pub st : SoundAlloc by.st

pub record SoundPart (p : Part) : Type 0 where
  pub slot : p.slot < 7
  pub start : p.start ≤ 253
  pub end : p.end ≤ 253

-- the entries of an array from one place up to another
abbrev pub between : {A : Type 0} → A → List A → (first last : ℕ) → List A
between d l first last = from first (last - first) (λ k. get_or l k d)

abbrev pub no_part : Part
no_part = part 0 0 0

abbrev pub listed : Parts → List Part
listed ps = take ps.count ps.list

pub record SoundParts (ps : Parts) : Type 0 where
  pub count : ps.count ≤ 7
  pub each : (i : ℕ) → SoundPart (get_or ps.list i no_part)
