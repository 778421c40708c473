-- A row's part counts the rows before it of its name, block and index. In a block such rows stand in one loop, whose turns are numbered
-- from 0 and have one of them each; and the loops of two blocks, two channels or two names are of different keys. Parts stay below 255,
-- because there are at most 18 bands, 84 groups and 8 segments. Assumes nothing.
use mathlib.Core.Bool.{Bool, true, false, ◌&&◌, ◌||◌, not, cond}
use mathlib.Core.List.{List, [], ◌∷◌, ◌++◌}
use mathlib.Core.Path.{◌≡◌, refl, ap, sym, subst, ◌∙◌}
use Prim.Native.Nat.{ℕ, zero, suc, ◌+◌, ◌-◌, ◌*◌, ◌≤◌, ◌<◌}
use native.Mathlib.Omega.{arith}
use lib.Dec.{T, eqb, ltb, eqb→eq, eqb_refl, ltb→lt}
use lib.IntN.{ℤ, pos, negsuc, pos-ne-negsuc}
use lib.ListN.{length, get_or, drop, replicate}
use Rattle.tables.specs.Tables.{nfchans}
use Rattle.syntax.specs.declared.Item.{Item}
use Rattle.syntax.specs.declared.Refusal.{Refusal}
use Rattle.syntax.specs.Grammar.{Grammar, ◌>>=◌, part_of, each}
use Rattle.syntax.specs.Names as Name
use Rattle.syntax.specs.Refusals.{no_coupling_exponents, no_channel_exponents, no_lfe_exponents}
use Rattle.syntax.specs.Numbers.{row_width, shown, numbers}
use Rattle.syntax.specs.Place.{flatten}
use Rattle.syntax.specs.Run.{Row, start, rows_of}
use Rattle.header.specs.Header.{syncinfo, programmes, programme_info, alternate_info, time_codes, additional_info, bsi, header}
use Rattle.header.specs.declared.Header.{Header}
use Rattle.parameters.specs.declared.delta.Coded.{Coded}
use Rattle.parameters.specs.Delta.{delta_code, channel_code, delta_name, segment, new_deltas, slot_deltas, coded_deltas, deltas}
use Rattle.parameters.specs.Parameters.{new_curve, curve, fine_offset, channel_offset, new_offsets, offsets, new_leak, coupling_leak}
use Rattle.slots.specs.Slots.{CPL, LFE, first_coupled, past_coupled, coupled, is_new}
use Rattle.slots.specs.declared.AllocState.{AllocState}
use Rattle.slots.specs.declared.Coupling.{Coupling}
use Rattle.slots.specs.declared.CouplingLeak.{CouplingLeak}
use Rattle.slots.specs.declared.Curve.{Curve}
use Rattle.slots.specs.declared.Deltas.{Deltas}
use Rattle.slots.specs.declared.Offsets.{Offsets}
use Rattle.slots.specs.declared.Strategies.{Strategies}
use Rattle.exponents.specs.Exponents.{Unpacked, Exponents, group_count, step, unpack, group, group_name, exponent_index, exponent_set, slot_exponents, channel_exponents, exponents}
use Rattle.mantissas.specs.Mantissas.{mantissas}
use Rattle.channels.specs.Coupling.{coupled_channels, joined, coupling_bands, new_coupling, coupling_strategy, coordinate, channel_coordinates, phase_flags, coupling_coordinates, rematrixing}
use Rattle.channels.specs.Sound.{SoundBandwidths}
use Rattle.channels.specs.Strategies.{channel_strategies, exponent_strategies, bandwidth, bandwidths, channel_end, channel_ends}
use Rattle.channels.specs.declared.Bandwidths.{Bandwidths}
use Rattle.ac3.specs.AudioBlock.{Carry, channel_flags, dynamic_range, channel_settings, coupling_section, exponent_section, skip_field, alloc_state, audio_block}
use Rattle.ac3.specs.Counts.{labelled, Unparted, u_done, u_field, u_here}
use Rattle.ac3.specs.Frame.{unread, audio, syncframe}
use Rattle.ac3.specs.Marked.{among}
use Rattle.ac3.specs.Parts.{parted, same_field, alike, PartFits, PartsFit, PartsOfRows, same, same_front, alike_in, number, from_row, has_part, part_at, alike_before, PartsOfRooms}
use Rattle.ac3.specs.Promise.{Call, input, room_for, listed, answer_to}
use Rattle.ac3.specs.Rooms.{said, row_count}
use Rattle.ac3.proofs.AtMost.{Any, reading}
use Rattle.ac3.proofs.Counts.{u_turns, plainly, and_first, and_second, Tallied, t_widen, t_done, t_seq, t_read, t_when, t_turns, Turn, is, turn_take, turn_note, turn_seq, turn_end, t_parts, t_quiet, t_before, t_known, t_after, Numbered, numbered_run}
use Rattle.ac3.proofs.Promise.{promised}
use Rattle.ac3.proofs.RowBound.{Ranged, Ending, Bounded, groups_most, five_or_fewer, a_strategy, a_bandwidths, a_ends, channel_groups, coupling_groups, begins}

-- ---- what has no part: the header

two : (b : Bool) (p : ℕ) → p < 0 + (cond b 2 1 - 0) → p < 2
two true p h = omega arith
two false p h = omega arith

u_programme : (p : ℕ) → p < 2 → Unparted (programme_info p)
unfolding programme_info
u_programme zero h = search plainly depth 20
u_programme (suc zero) h = search plainly depth 20
u_programme (suc (suc p)) h = absurd (omega arith)

u_programmes : (acmod : ℕ) → Unparted (each (programmes acmod) programme_info)
u_programmes acmod = u_turns (programmes acmod - 0) 0 tt (λ p lt _. u_programme p (two (eqb acmod 0) p lt))

u_bsi : (fscod bytes : ℕ) → Unparted (bsi fscod bytes)
unfolding bsi time_codes alternate_info additional_info
u_bsi fscod bytes = search (u_programmes, plainly) depth 40

u_header : Unparted header
unfolding header syncinfo
u_header = search (u_bsi, plainly) depth 30

-- ---- the sections of a block that have none

u_range : (blk p : ℕ) → p < 2 → Unparted (dynamic_range blk p)
unfolding dynamic_range
u_range blk zero h = search plainly depth 20
u_range blk (suc zero) h = search plainly depth 20
u_range blk (suc (suc p)) h = absurd (omega arith)

u_ranges : (blk acmod : ℕ) → Unparted (each (programmes acmod) (dynamic_range blk))
u_ranges blk acmod = u_turns (programmes acmod - 0) 0 tt (λ p lt _. u_range blk p (two (eqb acmod 0) p lt))

u_settings : (blk acmod : ℕ) → Unparted (channel_settings blk acmod)
unfolding channel_settings channel_flags
u_settings blk acmod = search (u_ranges, plainly) depth 20

module _ (blk nfchans : ℕ) where
  u_strategy : (acmod : ℕ) (c : Coupling) → Unparted (coupling_strategy blk acmod nfchans c)
  unfolding coupling_strategy new_coupling coupled_channels coupling_bands joined
  u_strategy acmod c = search plainly depth 40

  u_strategies : (cplinu lfeon : Bool) → Unparted (exponent_strategies blk nfchans cplinu lfeon)
  unfolding exponent_strategies channel_strategies
  u_strategies cplinu lfeon = search plainly depth 20

  u_bandwidths : (c : Coupling) (chexpstr : List ℕ) (w : Bandwidths) → Unparted (bandwidths blk nfchans c chexpstr w)
  unfolding bandwidths bandwidth
  u_bandwidths c chexpstr w = search plainly depth 20

  u_ends : (c : Coupling) (w : Bandwidths) → Unparted (channel_ends nfchans c w)
  unfolding channel_ends channel_end
  u_ends c w = search plainly depth 20

  u_curve : (old : Curve) → Unparted (curve blk old)
  unfolding curve new_curve
  u_curve old = search plainly depth 20

  u_offsets : (cplinu lfeon : Bool) (old : Offsets) → Unparted (offsets blk nfchans cplinu lfeon old)
  unfolding offsets new_offsets channel_offset fine_offset
  u_offsets cplinu lfeon old = search plainly depth 30

  u_leak : (cplinu : Bool) (old : CouplingLeak) → Unparted (coupling_leak blk cplinu old)
  unfolding coupling_leak new_leak
  u_leak cplinu old = search plainly depth 20

  u_mantissas : (fscod : ℕ) (lfeon : Bool) (c : Coupling) (ends : List ℕ) (st : AllocState) (exps : List (List ℤ)) → Unparted (mantissas blk fscod nfchans lfeon c ends st exps)
  unfolding mantissas
  u_mantissas fscod lfeon c ends st exps = search plainly depth 20

u_rematrixing : (blk acmod : ℕ) (c : Coupling) → Unparted (rematrixing blk acmod c)
unfolding rematrixing
u_rematrixing blk acmod c = search plainly depth 40

u_phases : (blk ncplbnd : ℕ) → Unparted (phase_flags blk ncplbnd)
unfolding phase_flags
u_phases blk ncplbnd = search plainly depth 20

u_code : (blk slot : ℕ) (item : Item) → T (not (among item.name parted)) → T (eqb item.part 255) → (d : Coded) → Unparted (delta_code blk slot item d)
unfolding delta_code
u_code blk slot item t p d = search (t, p, plainly) depth 20

u_channel_code : (blk ch : ℕ) (d : Coded) → Unparted (channel_code blk ch d)
unfolding channel_code
u_channel_code blk ch d = u_code blk ch _ tt tt d

u_skip : (blk : ℕ) → Unparted (skip_field blk)
unfolding skip_field
u_skip blk = search plainly depth 20

u_unpack : (last grouped : ℕ) → Unparted (unpack last grouped)
unfolding unpack step
u_unpack last grouped = search plainly depth 20

-- ---- the parts of one key

-- the key's name, block and index
record Found (key : Item) (blk at called : ℕ) : Type 0 where
  pub name : key.name ≡ called
  pub block : key.block ≡ blk
  pub index : key.index ≡ at

-- The key is of this block, and of a name from the first to the last of these. Names are numbered in the order of parsing: those of
-- coordinates are 64 and 65, those of groups 74 to 79, those of segments 101 to 107.
record Own (key : Item) (blk first last : ℕ) : Type 0 where
  pub block : key.block ≡ blk
  pub low : first ≤ key.name
  pub high : key.name ≤ last

or_cases : {X : Type 0} (a b : Bool) → (T a → X) → (T b → X) → T (a || b) → X
or_cases true b f g t = f tt
or_cases false b f g t = g t

-- of a channel the names and the index are its own
record OfChannel (ch : ℕ) : Type 0 where
  pub name : group_name ch ≡ Name.exps
  pub index : exponent_index ch ≡ ch
  pub uncoupled : eqb ch CPL ≡ false

of_channel : (ch : ℕ) → ch < 5 → OfChannel ch
of_channel zero h = record { name = refl; index = refl; uncoupled = refl }
of_channel (suc zero) h = record { name = refl; index = refl; uncoupled = refl }
of_channel (suc (suc zero)) h = record { name = refl; index = refl; uncoupled = refl }
of_channel (suc (suc (suc zero))) h = record { name = refl; index = refl; uncoupled = refl }
of_channel (suc (suc (suc (suc zero)))) h = record { name = refl; index = refl; uncoupled = refl }
of_channel (suc (suc (suc (suc (suc n))))) h = absurd (omega arith)

-- names that the slot chooses
either_of : (P : ℕ → Bool) (b : Bool) (x y : ℕ) → T (P x) → T (P y) → T (P (cond b x y))
either_of P true x y p q = p
either_of P false x y p q = q

one_of : (P : ℕ → Bool) (b c : Bool) (x y z : ℕ) → T (P x) → T (P y) → T (P z) → T (P (cond b x (cond c y z)))
one_of P true c x y z p q r = p
one_of P false c x y z p q r = either_of P c y z q r

differ : (b : Bool) (x y v w : ℕ) → (x ≡ v → ⊥) → (y ≡ w → ⊥) → cond b x y ≡ cond b v w → ⊥
differ true x y v w p q e = p e
differ false x y v w p q e = q e

module _ (key : Item) (its : T (among key.name parted)) where
  found : (blk index name : ℕ) → T (is key blk index name) → Found key blk index name
  found blk index name t =
      let places = and_second (eqb key.name name) (eqb key.block blk && eqb key.index index) t in
      record {
        name = eqb→eq key.name name (and_first (eqb key.name name) (eqb key.block blk && eqb key.index index) t);
        block = eqb→eq key.block blk (and_first (eqb key.block blk) (eqb key.index index) places);
        index = eqb→eq key.index index (and_second (eqb key.block blk) (eqb key.index index) places);
      }

  apart : (blk index x y : ℕ) → (x ≡ y → ⊥) → T (is key blk index x) → T (is key blk index y) → ⊥
  apart blk index x y h s t = h (sym (found blk index x s).name ∙ (found blk index y t).name)

  own : (blk index name first last : ℕ) → (first ≤ name) × (name ≤ last) → T (is key blk index name) → Own key blk first last × (key.index ≡ index)
  own blk index name first last h t = let f = found blk index name t in (record { block = f.block; low = omega arith; high = omega arith }, f.index)

  -- one part of a block and then another, whose names stand behind those of the first
  t_then : {A B : Type 0} {P : A → Type 0} {Q : B → Type 0} {g : Grammar A} {f : A → Grammar B} {blk : ℕ} (first a b last : ℕ) → (first ≤ b) × (a < b) × (b ≤ last)
      → Tallied key P (Own key blk first a) g → ((x : A) → P x → Tallied key Q (Own key blk b last) (f x)) → Tallied key Q (Own key blk first last) (g >>= f)
  t_then first a b last h t u =
      t_seq (λ o. record { block = o.block; low = o.low; high = omega arith }) (λ o. record { block = o.block; low = omega arith; high = o.high }) (λ o p. omega arith) t u

  -- ---- bands

  turn_coordinate : (blk ch bnd : ℕ) → bnd < 255 → Turn key (is key blk ch Name.cplcoexp || is key blk ch Name.cplcomant) bnd (coordinate blk ch bnd)
  unfolding coordinate
  turn_coordinate blk ch bnd h =
      turn_seq (is key blk ch Name.cplcoexp) (is key blk ch Name.cplcomant) (apart blk ch Name.cplcoexp Name.cplcomant (λ e. omega arith))
      (turn_note key blk ch Name.cplcoexp bnd tt h 4) (λ _. turn_note key blk ch Name.cplcomant bnd tt h 4)

  own_band : (blk ch : ℕ) → T (is key blk ch Name.cplcoexp || is key blk ch Name.cplcomant) → Own key blk 64 65 × (key.index ≡ ch)
  own_band blk ch = or_cases (is key blk ch Name.cplcoexp) (is key blk ch Name.cplcomant) (own blk ch Name.cplcoexp 64 65 (omega arith)) (own blk ch Name.cplcomant 64 65 (omega arith))

  t_channel_coordinates : (blk : ℕ) (c : Coupling) → c.ncplbnd ≤ 18 → (ch : ℕ) → Tallied key Any (Own key blk 64 65 × (key.index ≡ ch)) (channel_coordinates blk c ch)
  unfolding channel_coordinates
  t_channel_coordinates blk c few ch =
      t_read (coupled c ch) false tt (t_before key its (search plainly) λ cplcoe.
      t_after key its (t_when cplcoe (t_before key its (search plainly) λ _.
      t_widen (λ _ q. q) (own_band blk ch) (t_parts (is key blk ch Name.cplcoexp || is key blk ch Name.cplcomant) (c.ncplbnd - 0) tt (λ bnd lt _. turn_coordinate blk ch bnd (omega arith))))) λ _. t_done tt)

  t_coordinates : (blk nfchans : ℕ) (c : Coupling) → c.ncplbnd ≤ 18 → Tallied key Any (Own key blk 64 65) (coupling_coordinates blk nfchans c)
  unfolding coupling_coordinates
  t_coordinates blk nfchans c few =
      t_read c.cplinu (replicate 5 false) tt (t_after key its
      (t_turns Any (Own key blk 64 65) key.index (nfchans - 0) (replicate 5 false) (λ ch _ _ _. t_after key its (t_channel_coordinates blk c few ch) λ _. t_done tt) tt) λ sent.
      t_quiet key its (search (u_phases, plainly) depth 20))

  -- ---- groups

  turn_group : (blk slot bins first n : ℕ) (u : Unpacked) → n < 255
      → Turn key (is key blk (exponent_index slot) (group_name slot)) n (group (part_of blk (group_name slot) (exponent_index slot)) bins first n u)
  unfolding group
  turn_group blk slot bins first n u h =
      turn_end key its (turn_take key blk (exponent_index slot) (group_name slot) n (one_of (λ n. among n parted) (eqb slot CPL) (eqb slot LFE) Name.cplexps Name.lfeexps Name.exps tt tt tt) h 7)
      (λ grouped. search (u_unpack, plainly) depth 20)

  t_set : (blk slot strategy start end : ℕ) → group_count slot strategy start end ≤ 254
      → Tallied key Any (T (is key blk (exponent_index slot) (group_name slot))) (exponent_set blk slot strategy start end)
  unfolding exponent_set
  t_set blk slot strategy start end few =
      t_before key its (u_field (one_of (λ n. not (among n parted)) (eqb slot CPL) (eqb slot LFE) Name.cplabsexp Name.lfeabsexp Name.absexp tt tt tt) tt (λ _. u_done)) λ absexp.
      t_after key its (t_parts (is key blk (exponent_index slot) (group_name slot)) (group_count slot strategy start end - 0) _ (λ n lt u. turn_group blk slot _ _ n u (omega arith))) λ _. t_done tt

  t_slot : (blk : ℕ) (refusal : Refusal) (slot strategy start end : ℕ) (e : Exponents) → group_count slot strategy start end ≤ 254
      → Tallied key Any (T (is key blk (exponent_index slot) (group_name slot))) (slot_exponents blk refusal slot strategy start end e)
  unfolding slot_exponents
  t_slot blk refusal slot strategy start end e few =
      t_before key its (search plainly) λ _. t_read (is_new strategy) e tt (t_after key its (t_set blk slot strategy start end few) λ _. t_done tt)

  own_group : (blk slot name index : ℕ) → group_name slot ≡ name → exponent_index slot ≡ index → T (is key blk (exponent_index slot) (group_name slot)) → Own key blk name name × (key.index ≡ index)
  own_group blk slot name index n i t = let o = own blk (exponent_index slot) (group_name slot) name name (omega arith) t in (o.0, o.1 ∙ i)

  t_channel : (blk : ℕ) (c : Coupling) (chexpstr ends : List ℕ) → Ending c ends → c.cplbegf < 16 → (ch : ℕ) → ch < 5 → (e : Exponents)
      → Tallied key Any (Own key blk 76 76 × (key.index ≡ ch)) (channel_exponents blk chexpstr ends ch e)
  unfolding channel_exponents
  t_channel blk c chexpstr ends ending small ch lt e =
      let of = of_channel ch lt in
      t_after key its
      (t_widen (λ _ q. q) (own_group blk ch 76 ch of.name of.index)
      (t_slot blk no_channel_exponents ch (get_or chexpstr ch 0) 0 (get_or ends ch 0) e
      (omega (arith, few (coupled c ch), channel_groups (get_or chexpstr ch 0) ch (get_or ends ch 0) (groups_most c ch) (some (coupled c ch)) (ending ch)))))
      λ _. t_quiet key its (search plainly)
    where
      some : (b : Bool) → 2 ≤ cond b (12 + 4 * c.cplbegf) 84
      some true = omega arith
      some false = omega arith

      few : (b : Bool) → cond b (12 + 4 * c.cplbegf) 84 ≤ 84
      few true = omega arith
      few false = omega arith

  t_exponents : {acmod : ℕ} (blk nfchans : ℕ) → nfchans ≤ 5 → (lfeon : Bool) (c : Coupling) (s : Strategies) (ends : List ℕ) (old : Exponents) → Ranged acmod c → Ending c ends
      → Tallied key Any (Own key blk 74 79) (exponents blk nfchans lfeon c s ends old)
  unfolding exponents
  t_exponents blk nfchans five lfeon c s ends old r ending =
      t_then 74 74 76 79 (omega arith)
      (t_read c.cplinu old tt (t_widen (λ _ q. q) (λ t. (own_group blk CPL 74 0 refl refl t).0)
      (t_slot blk no_coupling_exponents CPL s.cplexpstr (first_coupled c.cplbegf) (past_coupled c.cplendf) old
      (omega (arith, coupling_groups s.cplexpstr c.cplbegf c.cplendf r.cplbegf r.cplendf))))) λ e _.
      t_then 76 76 79 79 (omega arith)
      (t_turns Any (Own key blk 76 76) key.index (nfchans - 0) e (λ ch lt e _. t_channel blk c s.chexpstr ends ending r.cplbegf ch (omega arith) e) tt) λ e _.
      t_read lfeon e tt (t_widen (λ _ q. q) (λ t. (own_group blk LFE 79 0 refl refl t).0) (t_slot blk no_lfe_exponents LFE s.lfeexpstr 0 7 e (omega arith)))

  -- ---- segments

  -- is the key one of a segment's three?
  abbrev segment_of : (blk slot : ℕ) → Bool
  segment_of blk slot =
      is key blk slot (delta_name slot Name.cpldeltoffst Name.deltoffst)
      || (is key blk slot (delta_name slot Name.cpldeltlen Name.deltlen) || is key blk slot (delta_name slot Name.cpldeltba Name.deltba))

  turn_segment : (blk slot seg : ℕ) (l : List ℕ) → seg < 255 → Turn key (segment_of blk slot) seg (segment blk slot seg l)
  unfolding segment
  turn_segment blk slot seg l h =
      let b = eqb slot CPL in
      let offst = delta_name slot Name.cpldeltoffst Name.deltoffst in
      let len = delta_name slot Name.cpldeltlen Name.deltlen in
      let ba = delta_name slot Name.cpldeltba Name.deltba in
      turn_seq (is key blk slot offst) (is key blk slot len || is key blk slot ba)
      (λ t. or_cases (is key blk slot len) (is key blk slot ba)
      (apart blk slot offst len (differ b 101 105 102 106 (λ e. omega arith) (λ e. omega arith)) t) (apart blk slot offst ba (differ b 101 105 103 107 (λ e. omega arith) (λ e. omega arith)) t))
      (turn_take key blk slot offst seg (either_of (λ n. among n parted) b 101 105 tt tt) h 5) λ _.
      turn_seq (is key blk slot len) (is key blk slot ba) (apart blk slot len ba (differ b 102 106 103 107 (λ e. omega arith) (λ e. omega arith)))
      (turn_take key blk slot len seg (either_of (λ n. among n parted) b 102 106 tt tt) h 4) λ _.
      turn_end key its (turn_take key blk slot ba seg (either_of (λ n. among n parted) b 103 107 tt tt) h 3) λ _. u_done

  -- the name of coupling and that of a channel stand equally far behind the first of theirs
  own_name : (blk slot d : ℕ) (b : Bool) → d ≤ 2 → eqb slot CPL ≡ b → T (is key blk slot (delta_name slot (101 + d) (105 + d)))
      → Own key blk (cond b 101 105) (cond b 101 105 + 2) × (key.index ≡ slot)
  own_name blk slot d b le e =
      let named : delta_name slot (101 + d) (105 + d) ≡ cond b 101 105 + d = ap (λ b. cond b (101 + d) (105 + d)) e ∙ behind b in
      own blk slot (delta_name slot (101 + d) (105 + d)) (cond b 101 105) (cond b 101 105 + 2) (omega arith)
    where
      behind : (b : Bool) → cond b (101 + d) (105 + d) ≡ cond b 101 105 + d
      behind true = refl
      behind false = refl

  own_segment : (blk slot : ℕ) (b : Bool) → eqb slot CPL ≡ b → T (segment_of blk slot) → Own key blk (cond b 101 105) (cond b 101 105 + 2) × (key.index ≡ slot)
  own_segment blk slot b e =
      or_cases (is key blk slot (delta_name slot 101 105)) (is key blk slot (delta_name slot 102 106) || is key blk slot (delta_name slot 103 107)) (own_name blk slot 0 b (omega arith) e)
      (or_cases (is key blk slot (delta_name slot 102 106)) (is key blk slot (delta_name slot 103 107)) (own_name blk slot 1 b (omega arith) e) (own_name blk slot 2 b (omega arith) e))

  t_new_deltas : (blk slot : ℕ) → Tallied key Any (T (segment_of blk slot)) (new_deltas blk slot)
  unfolding new_deltas
  t_new_deltas blk slot =
      t_known key its (reading {sets = false} _ 3) (u_field (either_of (λ n. not (among n parted)) (eqb slot CPL) Name.cpldeltnseg Name.deltnseg tt tt) tt (λ _. u_done)) λ deltnseg lt.
      t_after key its (t_parts (segment_of blk slot) (deltnseg + 1 - 0) (replicate 24 0) (λ seg small l. turn_segment blk slot seg l (omega arith))) λ _. t_done tt

  t_slot_deltas : (blk : ℕ) (codes : List ℕ) (slot : ℕ) (l : List Deltas) → Tallied key Any (T (segment_of blk slot)) (slot_deltas blk codes slot l)
  unfolding slot_deltas
  t_slot_deltas blk codes slot l = t_read (eqb (get_or codes slot 0) 1) l tt (t_after key its (t_new_deltas blk slot) λ _. t_done tt)

  t_coded : (blk nfchans : ℕ) → nfchans ≤ 5 → (cplinu : Bool) (old : List Deltas) → Tallied key Any (Own key blk 101 107) (coded_deltas blk nfchans cplinu old)
  unfolding coded_deltas
  t_coded blk nfchans five cplinu old =
      t_before key its (search (u_code, plainly) depth 20) λ d. t_before key its (search (u_channel_code, plainly) depth 20) λ d.
      t_then 101 103 105 107 (omega arith)
      (t_widen (λ _ q. q) (λ t. (own_segment blk CPL true refl t).0) (t_slot_deltas blk d.codes CPL d.deltas)) λ new _.
      t_turns Any (Own key blk 105 107) key.index (nfchans - 0) new
      (λ ch lt l _. t_widen (λ _ q. q) (own_segment blk ch false (of_channel ch (omega arith)).uncoupled) (t_slot_deltas blk d.codes ch l)) tt

  t_deltas : (blk nfchans : ℕ) → nfchans ≤ 5 → (cplinu : Bool) (old : List Deltas) → Tallied key Any (Own key blk 101 107) (deltas blk nfchans cplinu old)
  unfolding deltas
  t_deltas blk nfchans five cplinu old = t_before key its (search plainly) λ deltbaie. t_read deltbaie _ tt (t_coded blk nfchans five cplinu old)

  -- ---- the sections of a block

  t_coupling : (blk acmod : ℕ) (old : Coupling) → Ranged acmod old → Tallied key (λ x. Ranged acmod x.coupling) (Own key blk 64 65) (coupling_section blk acmod old)
  unfolding coupling_section
  t_coupling blk acmod old ranged =
      let n = nfchans acmod in
      t_known key its (a_strategy blk n (five_or_fewer acmod) acmod old ranged) (u_strategy blk n acmod old) λ c r.
      t_after key its (t_coordinates blk n c (omega (arith, r.bands))) λ cplcoe. t_before key its (u_rematrixing blk acmod c) λ _. t_done r

  t_exponented : (blk : ℕ) (h : Header) (c : Coupling) (old : Bandwidths) (e : Exponents) → Ranged h.acmod c → SoundBandwidths old
      → Tallied key (λ x. SoundBandwidths x.bandwidths) (Own key blk 74 79) (exponent_section blk h c old e)
  unfolding exponent_section
  t_exponented blk h c old e r sound =
      let n = nfchans h.acmod in
      let five = five_or_fewer h.acmod in
      t_before key its (u_strategies blk n c.cplinu h.lfeon) λ s.
      t_known key its (a_bandwidths blk n five 5 five c s.chexpstr old sound) (u_bandwidths blk n c s.chexpstr old) λ widths w.
      t_known key its (a_ends n five c widths w) (u_ends blk n c widths) λ ends small. t_after key its (t_exponents blk n five h.lfeon c s ends e r small) λ _. t_done w

  t_alloc : (blk nfchans : ℕ) → nfchans ≤ 5 → (cplinu lfeon : Bool) (old : AllocState) → Tallied key Any (Own key blk 101 107) (alloc_state blk nfchans cplinu lfeon old)
  unfolding alloc_state
  t_alloc blk nfchans five cplinu lfeon old =
      t_before key its (u_curve blk nfchans old.curve) λ _. t_before key its (u_offsets blk nfchans cplinu lfeon old.offsets) λ _. t_before key its (u_leak blk nfchans cplinu old.leak) λ _.
      t_after key its (t_deltas blk nfchans five cplinu old.deltas) λ _. t_done tt

  -- ---- a block, and the frame

  t_block : (h : Header) (blk : ℕ) (before : Carry) → Bounded h.acmod before → Tallied key (Bounded h.acmod) (key.block ≡ blk) (audio_block h blk before)
  unfolding audio_block
  t_block h blk before b =
      let n = nfchans h.acmod in
      let five = five_or_fewer h.acmod in
      t_before key its (u_here (λ _. u_done)) λ start. t_before key its (u_settings blk h.acmod) λ _.
      t_widen (λ _ q. q) (λ o. o.block) (t_then 64 65 74 107 (omega arith) (t_coupling blk h.acmod before.state.coupling b.coupling) λ cpl r.
      t_then 74 79 101 107 (omega arith)
      (t_exponented blk h cpl.coupling before.state.bandwidths _ r b.bandwidths) λ x w.
      t_after key its (t_alloc blk n five cpl.coupling.cplinu h.lfeon before.state.alloc) λ alloc.
      t_before key its (u_skip blk) λ _. t_before key its (u_mantissas blk n h.fscod h.lfeon cpl.coupling x.ends alloc x.exponents.exps) λ _.
      t_done (record { coupling = r; bandwidths = w }))

  t_frame : Tallied key Any (Unit {0}) syncframe
  unfolding syncframe audio
  t_frame =
      t_before key its u_header λ h.
      t_after key its (t_widen (λ _ _. tt) (λ x. x) (t_turns (Bounded h.acmod) (Unit {0}) key.block 6 unread (λ blk _ before b. t_widen (λ _ q. q) (λ e. (tt, e)) (t_block h blk before b)) (begins h.acmod))) λ last.
      t_before key its (u_here (λ _. u_done)) λ end. t_done tt

  numbered : (s : List ℕ) (room : ℕ) → Numbered key 0 (rows_of syncframe s room)
  numbered s room = numbered_run (t_frame.tally 0 (λ _. refl)) s (start (length s) room)

-- ---- of rows: what is numbered for every key is numbered by itself

-- an item of a name with parts
some_key : Item
some_key = part_of 0 Name.cplcoexp 0 0

same_itself : (i : Item) → T (same_field i i)
same_itself i = all (eqb i.name i.name) (eqb i.block i.block) (eqb i.index i.index) (eqb_refl i.name) (eqb_refl i.block) (eqb_refl i.index)
  where
    all : (a b c : Bool) → T a → T b → T c → T (a && (b && c))
    all true true true p q r = tt
    all true true false p q r = r
    all true false c p q r = q
    all false b c p q r = p

Every : (before rows : List Row) → Type 0
Every before rows = (key : Item) → T (among key.name parted) → Numbered key (alike key before) rows

part_fits : (before : List Row) (i : Item) → T (labelled i) → (T (among i.name parted) → i.part ≡ alike i before) → PartFits before i
part_fits before i t h = record { none = go (among i.name parted) t; counted = h; some = stay (among i.name parted) t }
  where
    go : (b : Bool) → T (cond b (ltb i.part 255) (eqb i.part 255)) → ¬ T b → i.part ≡ 255
    go true t missing = absurd (missing tt)
    go false t missing = eqb→eq i.part 255 t

    stay : (b : Bool) → T (cond b (ltb i.part 255) (eqb i.part 255)) → T b → i.part < 255
    stay true t its = ltb→lt i.part 255 t
    stay false t its = absurd its

parts_fit : (before rows : List Row) → Every before rows → PartsFit before rows
unfolding Every alike some_key
parts_fit before [] h = tt
parts_fit before (r ∷ rs) h =
    (part_fits before r.item (h some_key tt).0.0 (λ its. (h r.item its).0.1 (same_itself r.item)), parts_fit (r ∷ before) rs (λ key its. (h key its).1))

pub parts_of_rows : PartsOfRows
unfolding Every alike
parts_of_rows s room = parts_fit [] (rows_of syncframe s room) (λ key its. numbered key its s room)

-- ---- of a room

holds : (b : Bool) → T b → true ≡ b
holds true t = refl
holds false t = absurd t

fails : (b : Bool) → (T b → ⊥) → false ≡ b
fails true f = absurd (f tt)
fails false f = refl

-- what is shown tells what it shows
same_shown : (m n : ℕ) → same (shown m) (shown n) ≡ eqb m n
unfolding shown
same_shown m n = go (eqb m 255) (eqb n 255) refl refl
  where
    is_255 : (k : ℕ) → eqb k 255 ≡ true → k ≡ 255
    is_255 k e = eqb→eq k 255 (subst T (sym e) tt)

    other : (j k : ℕ) → j ≡ 255 → eqb k 255 ≡ false → j ≡ k → ⊥
    other j k p q e = subst T q (subst (λ x. T (eqb x 255)) (sym p ∙ e) tt)

    go : (a b : Bool) → eqb m 255 ≡ a → eqb n 255 ≡ b → same (cond a (negsuc 0) (pos m)) (cond b (negsuc 0) (pos n)) ≡ eqb m n
    go true true p q = holds (eqb m n) (subst (λ x. T (eqb m x)) (is_255 m p ∙ sym (is_255 n q)) (eqb_refl m))
    go true false p q = fails (eqb m n) (λ t. other m n (is_255 m p) q (eqb→eq m n t))
    go false true p q = fails (eqb m n) (λ t. other n m (is_255 n q) p (sym (eqb→eq m n t)))
    go false false p q = refl

same_front_lem : (x r : Row) (u v : List ℤ) → same_front (numbers x ++ u) (numbers r ++ v) ≡ same_field x.item r.item
same_front_lem x r u v = simp same_shown

-- the first i of these rows, in front of those before them
unfoldable passed : ℕ → (rows before : List Row) → List Row
passed zero rows before = before
passed (suc i) [] before = before
passed (suc i) (r ∷ rs) before = passed i rs (r ∷ before)

module _ (tail : List ℤ) where
  alike_held : (x : Row) (u : List ℤ) (i : ℕ) (rows before : List Row) → i ≤ length rows
      → alike_in (numbers x ++ u) i (flatten rows ++ tail) + alike x.item before ≡ alike x.item (passed i rows before)
  unfolding alike_in alike passed flatten
  alike_held x u zero rows before h = omega arith
  alike_held x u (suc i) [] before h = absurd (omega arith)
  alike_held x u (suc i) (r ∷ rs) before h =
      ap (λ b. cond b 1 0 + alike_in (numbers x ++ u) i (flatten rs ++ tail) + alike x.item before) (same_front_lem x r u (flatten rs ++ tail))
      ∙ one_more (same_field x.item r.item) (alike_in (numbers x ++ u) i (flatten rs ++ tail)) (alike x.item before) (alike_held x u i rs (r ∷ before) (omega arith))
    where
      one_more : (b : Bool) (y z : ℕ) {w : ℕ} → y + cond b (z + 1) z ≡ w → cond b 1 0 + y + z ≡ w
      one_more true y z h = omega arith
      one_more false y z h = omega arith

  -- row i of a room, and what is said of its part
  record RowAt (rows before : List Row) (i : ℕ) : Type 0 where
    pub row : Row
    pub rest : List ℤ
    pub from : drop (i * row_width) (flatten rows ++ tail) ≡ numbers row ++ rest
    pub fits : PartFits (passed i rows before) row.item

  row_at : (i : ℕ) (rows before : List Row) → i < length rows → PartsFit before rows → RowAt rows before i
  unfolding passed flatten
  row_at i [] before h fits = absurd (omega arith)
  row_at zero (r ∷ rs) before h fits = record { row = r; rest = flatten rs ++ tail; from = refl; fits = fits.0 }
  row_at (suc i) (r ∷ rs) before h fits =
      let later = row_at i rs (r ∷ before) (omega arith) fits.1 in
      let nine : suc i * row_width ≡ suc (suc (suc (suc (suc (suc (suc (suc (suc (i * row_width))))))))) = omega arith in
      record { row = later.row; rest = later.rest; from = ap (λ n. drop n (flatten (r ∷ rs) ++ tail)) nine ∙ later.from; fits = later.fits }

pub shown_part : (n : ℕ) → n < 255 → shown n ≡ pos n
unfolding shown
shown_part n small = go (eqb n 255) refl
  where
    go : (b : Bool) → eqb n 255 ≡ b → cond b (negsuc 0) (pos n) ≡ pos n
    go true e = let is = eqb→eq n 255 (subst T (sym e) tt) in absurd (omega arith)
    go false e = refl

module _ (c : Call) (i : ℕ) (written : i < row_count c) where
  behind : List ℤ
  behind = drop (length (listed c) * row_width) c.room

  held : RowAt behind (listed c) [] i
  held = let same = (promised c refl).counted in row_at behind i (listed c) [] (omega arith) (parts_of_rows (input c) (room_for c))

  abbrev its_item : Item
  its_item = held.row.item

  abbrev earlier : List Row
  earlier = passed i (listed c) []

  from_room : from_row c i ≡ numbers held.row ++ held.rest
  unfolding behind
  from_room = ap (drop (i * row_width)) (promised c refl).written ∙ held.from

  alike_room : alike_before c i ≡ alike its_item earlier
  unfolding behind alike
  alike_room =
      let same = (promised c refl).counted in
      ap (λ l. alike_in l i (answer_to c).1) from_room
      ∙ ap (alike_in (numbers held.row ++ held.rest) i) (promised c refl).written
      ∙ omega (arith, alike_held behind held.row held.rest i (listed c) [] (omega arith))

  has_part_lem : has_part c i ≡ among its_item.name parted
  has_part_lem = ap (λ l. among (said 0 l) parted) from_room

  part_at_lem : part_at c i ≡ shown its_item.part
  part_at_lem = ap (number 8) from_room

  part_counted : T (has_part c i) → part_at c i ≡ pos (alike_before c i)
  part_counted t =
      let its = subst T has_part_lem t in
      part_at_lem ∙ shown_part its_item.part (held.fits.some its) ∙ ap pos (held.fits.counted its ∙ sym alike_room)

  part_none : ¬ T (has_part c i) → part_at c i ≡ negsuc 0
  unfolding shown
  part_none missing = part_at_lem ∙ ap shown (held.fits.none (λ its. missing (subst T (sym has_part_lem) its)))

pub parts_of_rooms : PartsOfRooms
parts_of_rooms =
    record {
      none = λ c i written. (λ is t. pos-ne-negsuc (alike_before c i) 0 (sym (part_counted c i written t) ∙ is), part_none c i written);
      counted = part_counted;
    }
