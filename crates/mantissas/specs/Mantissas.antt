-- The bit allocation of a block and its mantissas (4.3.3, 4.4.3.61 to .63, 6.2.2.1, 6.3.5): one list of bit allocation pointers, one pass. A `bap`
-- is one such pointer. The widths of that pass, cut where the slots' bins end and summed, are the bits of each slot.
use Rattle.std.specs.Prelude.{Bool, ◌&&◌, not, cond, List, [], ◌∷◌, ◌++◌, ℕ, ◌+◌, ◌-◌, ◌*◌, ◌%◌, eqb, ℤ, pos, get_or, take, drop, replicate}
use Rattle.tables.specs.Tables.{slow_decay, fast_decay, slow_gain, fast_gain, knee, floor, bap_bits}
use Rattle.alloc.specs.Allocation.{from, snr_offset, allocation}
use Rattle.alloc.specs.declared.Gains.{Gains}
use Rattle.alloc.specs.declared.Parameters.{Parameters}
use Rattle.syntax.specs.declared.Role.TheVariants.{Mantissas}
use Rattle.syntax.specs.Grammar.{Grammar, done, ◌>>=◌, ◌>>◌, one_roled, pieces, position, refuse_if}
use Rattle.syntax.specs.Names as Name
use Rattle.syntax.specs.Refusals.{no_leak}
use Rattle.syntax.specs.Run.{sum}
use Rattle.slots.specs.Slots.{CPL, LFE, no_deltas}
use Rattle.slots.specs.declared.AllocState.{AllocState}
use Rattle.slots.specs.declared.Coupling.{Coupling}
use Rattle.slots.specs.declared.Deltas.{Deltas}
use Rattle.slots.specs.declared.Offsets.{Offsets}
use Rattle.mantissas.specs.Parts.{parts}
use Rattle.mantissas.specs.declared.Part.{Part}
use Rattle.mantissas.specs.declared.Walked.{Walked}

-- ---- 6.2.2.1: what the allocation of a slot goes by, and its pointers

-- the special case: the coarse offset and the fine ones of the slots in use are all 0: then every pointer is 0
unfoldable pub silent : Offsets → List Part → Bool
silent o [] = eqb o.csnroffst 0
silent o (p ∷ ps) = eqb (get_or o.fsnroffst p.slot 0) 0 && silent o ps

-- the leak of a slot before its first band, by its code: coupling alone has one
abbrev pub leak_of : (slot code : ℕ) → ℤ
leak_of slot code = cond (eqb slot CPL) (pos (256 * code + 768)) (pos 0)

abbrev pub gains_of : AllocState → (slot : ℕ) → Gains
gains_of st slot =
    record {
      fdecay = fast_decay st.curve.fdcycod;
      sdecay = slow_decay st.curve.sdcycod;
      fgain = fast_gain (get_or st.offsets.fgaincod slot 0);
      sgain = slow_gain st.curve.sgaincod;
    }

-- LFE has no delta
abbrev pub deltas_of : AllocState → (slot : ℕ) → Deltas
deltas_of st slot = cond (eqb slot LFE) no_deltas (get_or st.deltas slot no_deltas)

abbrev pub parameters_of : (fscod : ℕ) → AllocState → Part → Parameters
parameters_of fscod st p =
    record {
      start = p.start;
      end = p.end;
      gains = gains_of st p.slot;
      fastleak = leak_of p.slot st.leak.cplfleak;
      slowleak = leak_of p.slot st.leak.cplsleak;
      dbknee = knee st.curve.dbpbcod;
      fscod = fscod;
      segments = (deltas_of st p.slot).segments;
      count = (deltas_of st p.slot).count;
      snroffset = snr_offset st.offsets.csnroffst (get_or st.offsets.fsnroffst p.slot 0);
      floor = floor st.curve.floorcod;
    }

-- 6.2.2.2 to 6.2.2.7
unfoldable pub pointers : (fscod : ℕ) → AllocState → List (List ℤ) → Part → List ℕ
pointers fscod st exps p = allocation (get_or exps p.slot []) (parameters_of fscod st p)

abbrev pub part_pointers : (fscod : ℕ) → AllocState → List (List ℤ) → (isSilent : Bool) → Part → List ℕ
part_pointers fscod st exps isSilent p = cond isSilent (replicate (p.end - p.start) 0) (pointers fscod st exps p)

unfoldable pub all_pointers : (fscod : ℕ) → AllocState → List (List ℤ) → (isSilent : Bool) → List Part → List ℕ
all_pointers fscod st exps isSilent [] = []
all_pointers fscod st exps isSilent (p ∷ ps) = part_pointers fscod st exps isSilent p ++ all_pointers fscod st exps isSilent ps

-- ---- 6.3.5: the bits that each pointer takes

-- how many mantissas the open group of pointers 1, 2 and 4 has; 0 where none is open
pub record Open : Type 0 where
  pub ones : ℕ
  pub twos : ℕ
  pub fours : ℕ

abbrev pub none_open : Open
none_open = record { ones = 0; twos = 0; fours = 0 }

-- the first mantissa of a group takes the bits of all
abbrev pub bits_of : Open → ℕ → ℕ
bits_of g bap =
    cond (eqb bap 1) (cond (eqb g.ones 0) 5 0)
    (cond (eqb bap 2) (cond (eqb g.twos 0) 7 0)
    (cond (eqb bap 4) (cond (eqb g.fours 0) 7 0)
    (bap_bits bap)))

abbrev pub now_open : Open → ℕ → Open
now_open g bap =
    record {
      ones = cond (eqb bap 1) ((g.ones + 1) % 3) g.ones;
      twos = cond (eqb bap 2) ((g.twos + 1) % 3) g.twos;
      fours = cond (eqb bap 4) ((g.fours + 1) % 2) g.fours;
    }

unfoldable pub widths : Open → List ℕ → List ℕ
widths g [] = []
widths g (bap ∷ baps) = bits_of g bap ∷ widths (now_open g bap) baps

-- ---- the bits of each slot: a group's count to the slot of its first member

-- of one slot
unfoldable pub bits_in : (slot : ℕ) → List Part → (ws : List ℕ) → ℕ
bits_in slot [] ws = 0
bits_in slot (p ∷ ps) ws =
    let bins = p.end - p.start in
    cond (eqb p.slot slot) (sum (take bins ws)) 0 + bits_in slot ps (drop bins ws)

-- of the seven
unfoldable pub by_slot : List Part → (ws : List ℕ) → List ℕ
by_slot ps ws = from 0 7 (λ slot. bits_in slot ps ws)

-- ---- the mantissas of a block: the bit at which they begin, and the bits of the seven slots

-- coupling needs its leak, unless every pointer is 0
abbrev pub leak_missing : (isSilent cplinu sent : Bool) → Bool
leak_missing isSilent cplinu sent = not isSilent && (cplinu && not sent)

unfoldable pub mantissas : (blk fscod nfchans : ℕ) (lfeon : Bool) → Coupling → (ends : List ℕ) → AllocState → List (List ℤ) → Grammar Walked
mantissas blk fscod nfchans lfeon c ends st exps = do
  let ps = parts nfchans lfeon c ends
  let isSilent = silent st.offsets ps
  let ws = widths none_open (all_pointers fscod st exps isSilent ps)
  refuse_if (leak_missing isSilent c.cplinu st.leak.sent) no_leak
  start ← position
  pieces (one_roled blk Mantissas Name.mantissas) ws
  done (record { start = start; bits = by_slot ps ws })
