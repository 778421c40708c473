-- Delta bit allocation (4.3.3, 4.4.3.47 to 4.4.3.57): for each slot up to eight segments, kept from block to block.
use Rattle.std.specs.Prelude.{Bool, ◌&&◌, cond, List, [], ◌∷◌, ℕ, ◌+◌, ◌*◌, eqb, get_or, set, replicate}
use Rattle.std.proofs.lemmas.List.Edits.{sets}
use Rattle.syntax.specs.declared.Item.{Item}
use Rattle.syntax.specs.Grammar.{Grammar, done, ◌>>=◌, ◌>>◌, one, nth, part_of, take, flag, refuse_if, read_if, for}
use Rattle.syntax.specs.Names as Name
use Rattle.syntax.specs.Refusals.{no_delta, bad_delta}
use Rattle.slots.specs.Slots.{CPL, no_deltas}
use Rattle.slots.specs.declared.Deltas.{Deltas}
use Rattle.parameters.specs.declared.delta.Coded.{Coded}

-- cpldeltbae and deltbae (4.4.3.48, .49; Table 4.11): 0 keeps the segments, 1 announces new ones, 2 clears them
unfoldable pub delta_code : (blk slot : ℕ) → Item → Coded → Grammar Coded
delta_code blk slot item d = do
  deltbae ← take item 2
  refuse_if (eqb deltbae 0 && eqb blk 0) no_delta
  refuse_if (eqb deltbae 3) bad_delta
  done (record { codes = set d.codes slot deltbae; deltas = cond (eqb deltbae 2) (set d.deltas slot no_deltas) d.deltas })

unfoldable pub channel_code : (blk ch : ℕ) → Coded → Grammar Coded
channel_code blk ch = delta_code blk ch (nth blk Name.deltbae ch)

-- a segment (4.4.3.51 to .53, .55 to .57): the bands that it skips, its length and its code. The names of coupling's stand before those of the channels.
abbrev pub delta_name : (slot coupling channel : ℕ) → ℕ
delta_name slot coupling channel = cond (eqb slot CPL) coupling channel

unfoldable pub segment : (blk slot seg : ℕ) → List ℕ → Grammar (List ℕ)
segment blk slot seg segments = do
  deltoffst ← take (part_of blk (delta_name slot Name.cpldeltoffst Name.deltoffst) slot seg) 5
  deltlen ← take (part_of blk (delta_name slot Name.cpldeltlen Name.deltlen) slot seg) 4
  deltba ← take (part_of blk (delta_name slot Name.cpldeltba Name.deltba) slot seg) 3
  done (sets segments (seg * 3) (deltoffst ∷ deltlen ∷ deltba ∷ []))

-- deltnseg (4.4.3.50, .54) is one less than the segments
unfoldable pub new_deltas : (blk slot : ℕ) → Grammar Deltas
new_deltas blk slot = do
  deltnseg ← take (nth blk (delta_name slot Name.cpldeltnseg Name.deltnseg) slot) 3
  segments ← for 0 (deltnseg + 1) (replicate 24 0) (segment blk slot)
  done (record { count = deltnseg + 1; segments = segments })

-- a slot that announced new segments
unfoldable pub slot_deltas : (blk : ℕ) (codes : List ℕ) (slot : ℕ) → List Deltas → Grammar (List Deltas)
slot_deltas blk codes slot deltas = read_if (eqb (get_or codes slot 0) 1) deltas do
  new ← new_deltas blk slot
  done (set deltas slot new)

-- all codes, and then all new segments
unfoldable pub coded_deltas : (blk nfchans : ℕ) (cplinu : Bool) → List Deltas → Grammar (List Deltas)
coded_deltas blk nfchans cplinu old = do
  let d : Coded = record { codes = replicate 7 0; deltas = old }
  d ← read_if cplinu d (delta_code blk CPL (one blk Name.cpldeltbae) d)
  d ← for 0 nfchans d (channel_code blk)
  new ← slot_deltas blk d.codes CPL d.deltas
  for 0 nfchans new (slot_deltas blk d.codes)

-- Where deltbaie (4.4.3.47) is 0 the segments stay; in block 0 there are none.
unfoldable pub deltas : (blk nfchans : ℕ) (cplinu : Bool) → List Deltas → Grammar (List Deltas)
deltas blk nfchans cplinu old = do
  deltbaie ← flag (one blk Name.deltbaie)
  read_if deltbaie (cond (eqb blk 0) (replicate 7 no_deltas) old) (coded_deltas blk nfchans cplinu old)
