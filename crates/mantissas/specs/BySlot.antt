-- Mantissa bits by channel: what holds of the bits that the slots of a block take, and how they follow from counts. `proofs/BySlot.antt` proves
-- `BitsBySlot`.
use Rattle.std.specs.Prelude.{Bool, false, ◌||◌, cond, List, [], ◌∷◌, ◌≡◌, ℕ, ◌+◌, ◌-◌, ◌≤◌, ◌<◌, eqb, ℤ, get_or}
use Rattle.syntax.specs.declared.Role.TheVariants.{Mantissas}
use Rattle.syntax.specs.Grammar.{one_roled}
use Rattle.syntax.specs.Names as Name
use Rattle.syntax.specs.Run.{spanning, Spot, reached, sum, row, run}
use Rattle.slots.specs.declared.AllocState.{AllocState}
use Rattle.slots.specs.declared.Coupling.{Coupling}
use Rattle.mantissas.specs.Counts.{no_counts, counted_all, plus, width_of, open_after}
use Rattle.slots.specs.Slots.{CPL, LFE}
use Rattle.mantissas.specs.Mantissas.{none_open, widths, silent, part_pointers, all_pointers, bits_in, by_slot, mantissas}
use Rattle.mantissas.specs.Parts.{parts}
use Rattle.mantissas.specs.declared.Counts.{Counts}
use Rattle.mantissas.specs.declared.Part.{Part}
use Rattle.mantissas.specs.declared.Walked.{Walked}

-- the pieces of a block's walk, and the seven counts of the block
abbrev pub walked_pieces : (fscod : ℕ) → AllocState → List (List ℤ) → List Part → List ℕ
walked_pieces fscod st exps ps = widths none_open (all_pointers fscod st exps (silent st.offsets ps) ps)

abbrev pub slot_bits : (fscod nfchans : ℕ) (lfeon : Bool) → Coupling → (ends : List ℕ) → AllocState → List (List ℤ) → List ℕ
slot_bits fscod nfchans lfeon c ends st exps =
    let ps = parts nfchans lfeon c ends in
    by_slot ps (walked_pieces fscod st exps ps)

abbrev pub used : (slot : ℕ) → List Part → Bool
used slot [] = false
used slot (p ∷ ps) = eqb p.slot slot || used slot ps

-- of the seven counts of a block, those of slots that are not in use
pub record Unused (nfchans : ℕ) (lfeon cplinu : Bool) (bits : List ℕ) : Type 0 where
  pub channels : (slot : ℕ) → nfchans ≤ slot → slot < CPL → get_or bits slot 0 ≡ 0
  pub coupling : cplinu ≡ false → get_or bits CPL 0 ≡ 0
  pub lfe : lfeon ≡ false → get_or bits LFE 0 ≡ 0

-- ---- without a walk: a slot takes the bits by which the total grows

abbrev pub own_counts : (fscod : ℕ) → AllocState → List (List ℤ) → (isSilent : Bool) → Part → Counts
own_counts fscod st exps isSilent p = counted_all no_counts (part_pointers fscod st exps isSilent p)

unfoldable pub grown_in : (slot : ℕ) → (own : Part → Counts) → (before : Counts) → List Part → ℕ
grown_in slot own before [] = 0
grown_in slot own before (p ∷ ps) =
    let after = plus before (own p) in
    cond (eqb p.slot slot) (width_of after - width_of before) 0 + grown_in slot own after ps

pub record BitsBySlot : Type 0 where
  -- the seven sum to the walk's width, and so to that of the span that it records
  pub all : (fscod nfchans : ℕ) (lfeon : Bool) (c : Coupling) (ends : List ℕ) (st : AllocState) (exps : List (List ℤ)) → nfchans ≤ 5
      → sum (slot_bits fscod nfchans lfeon c ends st exps) ≡ sum (walked_pieces fscod st exps (parts nfchans lfeon c ends))
  pub span : (blk fscod nfchans : ℕ) (lfeon : Bool) (c : Coupling) (ends : List ℕ) (st : AllocState) (exps : List (List ℤ)) → nfchans ≤ 5
      → (s : List ℕ) (p : Spot) (w : Walked)
      → let r = run (mantissas blk fscod nfchans lfeon c ends st exps) s p in
      r.end ≡ reached w
      → (w.bits ≡ slot_bits fscod nfchans lfeon c ends st exps)
      × (r.rows ≡ row spanning (one_roled blk Mantissas Name.mantissas) p.at (sum w.bits) 0 ∷ [])
  -- a slot not in use has none
  pub none : (slot : ℕ) (ps : List Part) (ws : List ℕ) → used slot ps ≡ false → bits_in slot ps ws ≡ 0
  pub unused : (fscod nfchans : ℕ) (lfeon : Bool) (c : Coupling) (ends : List ℕ) (st : AllocState) (exps : List (List ℤ)) → nfchans ≤ 5
      → Unused nfchans lfeon c.cplinu (slot_bits fscod nfchans lfeon c ends st exps)
  -- what mantissas take after others follows from the counts of both
  pub grows : (before : Counts) (baps : List ℕ) → sum (widths (open_after before) baps) ≡ width_of (plus before (counted_all no_counts baps)) - width_of before
  -- so a slot's bits follow from the counts of each slot by itself
  pub counted : (slot fscod : ℕ) (st : AllocState) (exps : List (List ℤ)) (isSilent : Bool) (ps : List Part)
      → bits_in slot ps (widths none_open (all_pointers fscod st exps isSilent ps)) ≡ grown_in slot (own_counts fscod st exps isSilent) no_counts ps
