-- What bounds the values that are carried from block to block: each fits the field that it was read from. No part of the definition: contracts
-- cite it, so that the code's indexes and sums are in range.
use Rattle.std.specs.Prelude.{List, [], ℕ, ◌+◌, ◌*◌, ◌<◌, ◌≤◌, ℤ, get_or}
use Rattle.alloc.specs.Sound.{Exponents}
use Rattle.slots.specs.Slots.{no_deltas}
use Rattle.slots.specs.declared.AllocState.{AllocState}
use Rattle.slots.specs.declared.Coupling.{Coupling}
use Rattle.slots.specs.declared.CouplingLeak.{CouplingLeak}
use Rattle.slots.specs.declared.Curve.{Curve}
use Rattle.slots.specs.declared.Deltas.{Deltas}
use Rattle.slots.specs.declared.Offsets.{Offsets}
use Rattle.slots.specs.declared.Strategies.{Strategies}

-- every entry of a list is below a number
abbrev pub Entries : List ℕ → ℕ → Type 0
Entries l n = (i : ℕ) → get_or l i 0 < n

pub record SoundCoupling (c : Coupling) : Type 0 where
  pub cplbegf : c.cplbegf < 16
  pub cplendf : c.cplendf < 16

pub record SoundStrategies (s : Strategies) : Type 0 where
  pub cplexpstr : s.cplexpstr < 4
  pub chexpstr : Entries s.chexpstr 4
  pub lfeexpstr : s.lfeexpstr < 2

pub record SoundCurve (c : Curve) : Type 0 where
  pub sdcycod : c.sdcycod < 4
  pub fdcycod : c.fdcycod < 4
  pub sgaincod : c.sgaincod < 4
  pub dbpbcod : c.dbpbcod < 4
  pub floorcod : c.floorcod < 8

pub record SoundOffsets (o : Offsets) : Type 0 where
  pub csnroffst : o.csnroffst < 64
  pub fsnroffst : Entries o.fsnroffst 16
  pub fgaincod : Entries o.fgaincod 8

pub record SoundLeak (l : CouplingLeak) : Type 0 where
  pub cplfleak : l.cplfleak < 8
  pub cplsleak : l.cplsleak < 8

-- the codes of the segments
abbrev pub SoundCodes : List ℕ → Type 0
SoundCodes segments = (n : ℕ) → get_or segments (n * 3 + 2) 0 < 8

pub record SoundSegments (d : Deltas) : Type 0 where
  pub count : d.count ≤ 8
  pub codes : SoundCodes d.segments

abbrev pub SoundDeltas : List Deltas → Type 0
SoundDeltas l = (i : ℕ) → SoundSegments (get_or l i no_deltas)

pub record SoundAlloc (st : AllocState) : Type 0 where
  pub curve : SoundCurve st.curve
  pub offsets : SoundOffsets st.offsets
  pub leak : SoundLeak st.leak
  pub deltas : SoundDeltas st.deltas

-- the ends of the channels: no end passes 253
abbrev pub SoundEnds : List ℕ → Type 0
SoundEnds ends = Entries ends 254

-- the exponents of a set, and of the slots
abbrev pub SoundRow : List ℤ → Type 0
SoundRow = Exponents

abbrev pub SoundExps : List (List ℤ) → Type 0
SoundExps exps = (slot : ℕ) → SoundRow (get_or exps slot [])
