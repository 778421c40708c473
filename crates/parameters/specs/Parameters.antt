-- The parameters of the bit allocation (4.3.3): the masking curve (4.4.3.30 to .35), the SNR offsets (4.4.3.36 to .43) and the coupling leak
-- (4.4.3.44 to .46).
use Rattle.std.specs.Prelude.{Bool, true, ℕ, set}
use Rattle.syntax.specs.Grammar.{Grammar, announced, done, ◌>>=◌, one, nth, take, flag, read_if, for}
use Rattle.syntax.specs.declared.Item.{Item}
use Rattle.syntax.specs.Names as Name
use Rattle.syntax.specs.Refusals.{no_curve, no_offsets}
use Rattle.slots.specs.Slots.{CPL, LFE}
use Rattle.slots.specs.declared.Curve.{Curve}
use Rattle.slots.specs.declared.Offsets.{Offsets}
use Rattle.slots.specs.declared.CouplingLeak.{CouplingLeak}

unfoldable pub new_curve : (blk : ℕ) → Grammar Curve
new_curve blk = do
  sdcycod ← take (one blk Name.sdcycod) 2
  fdcycod ← take (one blk Name.fdcycod) 2
  sgaincod ← take (one blk Name.sgaincod) 2
  dbpbcod ← take (one blk Name.dbpbcod) 2
  floorcod ← take (one blk Name.floorcod) 3
  done (record { sdcycod = sdcycod; fdcycod = fdcycod; sgaincod = sgaincod; dbpbcod = dbpbcod; floorcod = floorcod })

unfoldable pub curve : (blk : ℕ) → Curve → Grammar Curve
curve blk old = do
  baie ← announced blk Name.baie no_curve
  read_if baie old (new_curve blk)

-- the fine offset and the fast gain of a slot
unfoldable pub fine_offset : (slot : ℕ) (offset gain : Item) → Offsets → Grammar Offsets
fine_offset slot offset gain o = do
  fsnroffst ← take offset 4
  fgaincod ← take gain 3
  done (record { csnroffst = o.csnroffst; fsnroffst = set o.fsnroffst slot fsnroffst; fgaincod = set o.fgaincod slot fgaincod })

unfoldable pub channel_offset : (blk ch : ℕ) → Offsets → Grammar Offsets
channel_offset blk ch = fine_offset ch (nth blk Name.fsnroffst ch) (nth blk Name.fgaincod ch)

-- the coarse offset replaces the one in force
abbrev pub coarse : ℕ → Offsets → Offsets
coarse csnroffst o = record { csnroffst = csnroffst; fsnroffst = o.fsnroffst; fgaincod = o.fgaincod }

unfoldable pub new_offsets : (blk nfchans : ℕ) (cplinu lfeon : Bool) → Offsets → Grammar Offsets
new_offsets blk nfchans cplinu lfeon old = do
  csnroffst ← take (one blk Name.csnroffst) 6
  let o = coarse csnroffst old
  o ← read_if cplinu o (fine_offset CPL (one blk Name.cplfsnroffst) (one blk Name.cplfgaincod) o)
  o ← for 0 nfchans o (channel_offset blk)
  read_if lfeon o (fine_offset LFE (one blk Name.lfefsnroffst) (one blk Name.lfefgaincod) o)

unfoldable pub offsets : (blk nfchans : ℕ) (cplinu lfeon : Bool) → Offsets → Grammar Offsets
offsets blk nfchans cplinu lfeon old = do
  snroffste ← announced blk Name.snroffste no_offsets
  read_if snroffste old (new_offsets blk nfchans cplinu lfeon old)

unfoldable pub new_leak : (blk : ℕ) → Grammar CouplingLeak
new_leak blk = do
  cplfleak ← take (one blk Name.cplfleak) 3
  cplsleak ← take (one blk Name.cplsleak) 3
  done (record { sent = true; cplfleak = cplfleak; cplsleak = cplsleak })

unfoldable pub coupling_leak : (blk : ℕ) (cplinu : Bool) → CouplingLeak → Grammar CouplingLeak
coupling_leak blk cplinu old = read_if cplinu old do
  cplleake ← flag (one blk Name.cplleake)
  read_if cplleake old (new_leak blk)
