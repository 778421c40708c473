-- audblk (4.3.3): the sections of a block in the order of the syntax table.
use Rattle.std.specs.Prelude.{Bool, cond, List, [], ◌∷◌, ◌++◌, ℕ, ◌+◌, ◌*◌, ℤ, set}
use Rattle.std.proofs.lemmas.List.Edits.{sets}
use Rattle.tables.specs.Tables.{nfchans}
use Rattle.syntax.specs.declared.Role.TheVariants.{DynrngExists, Dynrng, Skiple, Skipl, Skipfld}
use Rattle.syntax.specs.Grammar.{Grammar, done, ◌>>=◌, ◌>>◌, nth, one_roled, take, flag, note, pass, position, when, each}
use Rattle.syntax.specs.Names as Name
use Rattle.header.specs.Header.{programmes}
use Rattle.header.specs.declared.Header.{Header}
use Rattle.slots.specs.declared.AllocState.{AllocState}
use Rattle.slots.specs.declared.Coupling.{Coupling}
use Rattle.slots.specs.declared.Strategies.{Strategies}
use Rattle.parameters.specs.Delta.{deltas}
use Rattle.parameters.specs.Parameters.{curve, offsets, coupling_leak}
use Rattle.exponents.specs.Exponents.{Exponents, exponents}
use Rattle.mantissas.specs.Mantissas.{mantissas}
use Rattle.mantissas.specs.declared.Walked.{Walked}
use Rattle.channels.specs.Coupling.{coupling_strategy, coupling_coordinates, rematrixing}
use Rattle.channels.specs.Strategies.{exponent_strategies, bandwidths, channel_ends}
use Rattle.channels.specs.declared.Bandwidths.{Bandwidths}
use Rattle.ac3.specs.Sent.{Sending, coordinates_sent}
use Rattle.ac3.specs.declared.State.{State}
use Rattle.ac3.specs.declared.Tally.{Tally}

-- what a block takes from the blocks before it, and leaves to the next one: what is in force, what the summary tells so far, and for that
-- what each block sent of coordinates
pub record Carry : Type 0 where
  pub state : State
  pub exps : List (List ℤ)
  pub tally : Tally
  pub blocks : List Sending

-- blksw, and dithflag: a bit for each channel
unfoldable pub channel_flags : (blk name nfchans : ℕ) → Grammar (Unit {0})
channel_flags blk name nfchans = each nfchans (λ ch. note (nth blk name ch) 1)

-- dynamic range: the second programme's names stand two further on
unfoldable pub dynamic_range : (blk p : ℕ) → Grammar (Unit {0})
dynamic_range blk p = do
  dynrnge ← flag (one_roled blk (DynrngExists p) (Name.dynrnge + 2 * p))
  when dynrnge (note (one_roled blk (Dynrng p) (Name.dynrng + 2 * p)) 8)

-- block switches, dither and dynamic range
unfoldable pub channel_settings : (blk acmod : ℕ) → Grammar (Unit {0})
channel_settings blk acmod = do
  channel_flags blk Name.blksw (nfchans acmod)
  channel_flags blk Name.dithflag (nfchans acmod)
  each (programmes acmod) (dynamic_range blk)

-- the coupling in force, and which channels have new coordinates
pub record Coupled : Type 0 where
  pub coupling : Coupling
  pub cplcoe : List Bool

-- coupling strategy and coordinates, and rematrixing
unfoldable pub coupling_section : (blk acmod : ℕ) → Coupling → Grammar Coupled
coupling_section blk acmod old = do
  c ← coupling_strategy blk acmod (nfchans acmod) old
  cplcoe ← coupling_coordinates blk (nfchans acmod) c
  rematrixing blk acmod c
  done (record { coupling = c; cplcoe = cplcoe })

-- the bandwidths in force and where each channel ends, and the exponents in force
pub record Exponented : Type 0 where
  pub strategies : Strategies
  pub bandwidths : Bandwidths
  pub ends : List ℕ
  pub exponents : Exponents

-- exponent strategies, bandwidths and exponents
unfoldable pub exponent_section : (blk : ℕ) → Header → Coupling → Bandwidths → Exponents → Grammar Exponented
exponent_section blk h c old e = do
  let channels = nfchans h.acmod
  strategies ← exponent_strategies blk channels c.cplinu h.lfeon
  widths ← bandwidths blk channels c strategies.chexpstr old
  ends ← channel_ends channels c widths
  e ← exponents blk channels h.lfeon c strategies ends e
  done (record { strategies = strategies; bandwidths = widths; ends = ends; exponents = e })

unfoldable pub skip_field : ℕ → Grammar (Unit {0})
skip_field blk = do
  skiple ← flag (one_roled blk Skiple Name.skiple)
  when skiple do
    skipl ← take (one_roled blk Skipl Name.skipl) 9
    pass (one_roled blk Skipfld Name.skipfld) (8 * skipl)

-- bit allocation information, as far as the skip field
unfoldable pub alloc_state : (blk nfchans : ℕ) (cplinu lfeon : Bool) → AllocState → Grammar AllocState
alloc_state blk nfchans cplinu lfeon old = do
  curve ← curve blk old.curve
  offsets ← offsets blk nfchans cplinu lfeon old.offsets
  leak ← coupling_leak blk cplinu old.leak
  deltas ← deltas blk nfchans cplinu old.deltas
  done (record { curve = curve; offsets = offsets; leak = leak; deltas = deltas })

-- one block more in the tally, with which coordinates are sent so far or not
abbrev pub counted : (blk start : ℕ) → Walked → (cplinu sent : Bool) → Tally → Tally
counted blk start w cplinu sent t =
    record {
      coupled = cond cplinu (t.coupled + 1) t.coupled;
      coordinates = sent;
      starts = set t.starts blk start;
      mantissas = set t.mantissas blk w.start;
      bits = sets t.bits (7 * blk) w.bits;
    }

unfoldable pub audio_block : Header → (blk : ℕ) → Carry → Grammar Carry
audio_block h blk before = do
  let old = before.state
  let channels = nfchans h.acmod
  start ← position
  channel_settings blk h.acmod
  cpl ← coupling_section blk h.acmod old.coupling
  let c = cpl.coupling
  x ← exponent_section blk h c old.bandwidths (record { cover = old.cover; exps = before.exps })
  alloc ← alloc_state blk channels c.cplinu h.lfeon old.alloc
  skip_field blk
  walked ← mantissas blk h.fscod channels h.lfeon c x.ends alloc x.exponents.exps
  let blocks = before.blocks ++ record { chincpl = c.chincpl; cplcoe = cpl.cplcoe } ∷ []
  done (record {
    state = record { coupling = c; bandwidths = x.bandwidths; cover = x.exponents.cover; alloc = alloc };
    exps = x.exponents.exps;
    tally = counted blk start walked c.cplinu (coordinates_sent blocks) before.tally;
    blocks = blocks;
  })
