-- The exponents of a block (4.3.3, 4.4.3.25 to .29, 6.1.3). Those in force are seven rows of 256, one for each slot.
use Rattle.std.specs.Prelude.{Bool, true, false, ◌&&◌, ◌||◌, not, cond, List, ◌++◌, ℕ, ◌+◌, ◌-◌, ◌*◌, ◌/◌, ◌%◌, ◌^◌, eqb, ltb, ℤ, pos, get_or, set, replicate}
use Rattle.std.proofs.lemmas.List.Edits.{sets}
use Rattle.syntax.specs.declared.Item.{Item}
use Rattle.syntax.specs.declared.Refusal.{Refusal}
use Rattle.syntax.specs.Grammar.{Grammar, done, ◌>>=◌, ◌>>◌, nth, part_of, take, note, refuse_if, when, read_if, for}
use Rattle.syntax.specs.Names as Name
use Rattle.syntax.specs.Refusals.{no_coupling_exponents, no_channel_exponents, no_lfe_exponents, bad_group, bad_exponent}
use Rattle.slots.specs.Slots.{CPL, LFE, first_coupled, past_coupled, is_new}
use Rattle.slots.specs.declared.Coupling.{Coupling}
use Rattle.slots.specs.declared.Cover.{Cover}
use Rattle.slots.specs.declared.Strategies.{Strategies}

-- ---- one set, 6.1.3: a first exponent, and then differences, three to a group, each of them for 1, 2 or 4 bins

-- strategy 1 is D15, 2 is D25 and 3 is D45: an exponent stands for 1, 2 or 4 bins
abbrev pub bins_each : ℕ → ℕ
bins_each strategy = 2 ^ (strategy - 1)

abbrev pub group_count : (slot strategy start end : ℕ) → ℕ
group_count slot strategy start end =
    let bins = 3 * bins_each strategy in
    cond (eqb slot CPL) ((end - start) / bins) (cond (eqb slot LFE) 2 ((end - 1 + bins - 3) / bins))

-- the three differences of a group, each 2 too high
abbrev pub differences : ℕ → ℕ × ℕ × ℕ
differences group = (group / 25, group % 25 / 5, group % 5)

unfoldable pub step : (before difference : ℕ) → Grammar ℕ
step before difference = do
  refuse_if (ltb (before + difference) 2 || ltb 26 (before + difference)) bad_exponent
  done (before + difference - 2)

-- the three exponents of a group, from the exponent before it
unfoldable pub unpack : (last group : ℕ) → Grammar (ℕ × ℕ × ℕ)
unpack last group = do
  refuse_if (ltb 124 group) bad_group
  let (x, y, z) = differences group
  a ← step last x
  b ← step a y
  c ← step b z
  done (a, b, c)

-- the last exponent that was made, and the row of all
pub record Unpacked : Type 0 where
  pub last : ℕ
  pub row : List ℤ

-- three exponents, each for as many bins as the strategy says
abbrev pub spread : (bins a b c : ℕ) → List ℤ
spread bins a b c = replicate bins (pos a) ++ replicate bins (pos b) ++ replicate bins (pos c)

-- group number n of a set whose groups begin at bin `first`
unfoldable pub group : (item : ℕ → Item) (bins first n : ℕ) → Unpacked → Grammar Unpacked
group item bins first n u = do
  grouped ← take (item n) 7
  three ← unpack u.last grouped
  let (a, b, c) = three
  done (record { last = c; row = sets u.row (first + n * (3 * bins)) (spread bins a b c) })

-- the names of the first exponent and of the groups, and their index
abbrev pub first_name : ℕ → ℕ
first_name slot = cond (eqb slot CPL) Name.cplabsexp (cond (eqb slot LFE) Name.lfeabsexp Name.absexp)

abbrev pub group_name : ℕ → ℕ
group_name slot = cond (eqb slot CPL) Name.cplexps (cond (eqb slot LFE) Name.lfeexps Name.exps)

abbrev pub exponent_index : ℕ → ℕ
exponent_index slot = cond (ltb slot CPL) slot 0

-- The first exponent is that of bin 0; for coupling it is doubled, stands for no bin and is not judged.
abbrev pub unpacked_first : (slot absexp : ℕ) → Unpacked
unpacked_first slot absexp =
    cond (eqb slot CPL)
    (record { last = 2 * absexp; row = replicate 256 (pos 0) })
    (record { last = absexp; row = set (replicate 256 (pos 0)) 0 (pos absexp) })

abbrev pub first_grouped : (slot start : ℕ) → ℕ
first_grouped slot start = cond (eqb slot CPL) start 1

unfoldable pub exponent_set : (blk slot strategy start end : ℕ) → Grammar (List ℤ)
exponent_set blk slot strategy start end = do
  absexp ← take (nth blk (first_name slot) (exponent_index slot)) 4
  unpacked ← for 0 (group_count slot strategy start end) (unpacked_first slot absexp)
      (group (part_of blk (group_name slot) (exponent_index slot)) (bins_each strategy) (first_grouped slot start))
  done unpacked.row

-- ---- the sets of a block

pub record Exponents : Type 0 where
  pub cover : Cover
  pub exps : List (List ℤ)

-- were exponents of exactly these bins sent?
abbrev pub covers : Cover → (slot start end : ℕ) → Bool
covers c slot start end = get_or c.sent slot false && (eqb (get_or c.start slot 0) start && eqb (get_or c.end slot 0) end)

abbrev pub covering : (slot start end : ℕ) → Cover → Cover
covering slot start end c = record { sent = set c.sent slot true; start = set c.start slot start; end = set c.end slot end }

unfoldable pub slot_exponents : (blk : ℕ) → Refusal → (slot strategy start end : ℕ) → Exponents → Grammar Exponents
slot_exponents blk refusal slot strategy start end e = do
  refuse_if (not (is_new strategy) && not (covers e.cover slot start end)) refusal
  read_if (is_new strategy) e do
    row ← exponent_set blk slot strategy start end
    done (record { cover = covering slot start end e.cover; exps = set e.exps slot row })

unfoldable pub channel_exponents : (blk : ℕ) (chexpstr ends : List ℕ) (ch : ℕ) → Exponents → Grammar Exponents
channel_exponents blk chexpstr ends ch e = do
  e ← slot_exponents blk no_channel_exponents ch (get_or chexpstr ch 0) 0 (get_or ends ch 0) e
  when (is_new (get_or chexpstr ch 0)) (note (nth blk Name.gainrng ch) 2)
  done e

unfoldable pub exponents : (blk nfchans : ℕ) (lfeon : Bool) → Coupling → Strategies → (ends : List ℕ) → Exponents → Grammar Exponents
exponents blk nfchans lfeon c s ends old = do
  e ← read_if c.cplinu old (slot_exponents blk no_coupling_exponents CPL s.cplexpstr (first_coupled c.cplbegf) (past_coupled c.cplendf) old)
  e ← for 0 nfchans e (channel_exponents blk s.chexpstr ends)
  read_if lfeon e (slot_exponents blk no_lfe_exponents LFE s.lfeexpstr 0 7 e)
