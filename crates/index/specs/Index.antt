-- An index beside a capture: an entry for each frame that the walk meets, and how an index is extended when bytes have come.
use Rattle.std.specs.Prelude.{Bool, cond, ◌&&◌, ◌||◌, List, [], ◌∷◌, ◌++◌, ℕ, zero, suc, ◌+◌, ◌*◌, ◌/◌, eqb, leb, ltb, ℤ, length, get_or}
use Rattle.std.proofs.lemmas.List.Edits.{sets}
use Rattle.syntax.specs.Names as Name
use Rattle.ac3.specs.Later.{is_short}
use Rattle.ac3.specs.Promise.{Call, call, listed, answer_to}
use Rattle.rows.specs.Found.{value_of}
use Rattle.salvage.specs.Walk.{no_fields, is_full}
use Rattle.index.specs.Refusals.{Answer}
use Rattle.index.specs.declared.outcome.Entry.{Entry}

-- ---- an entry: place, length, acmod, and the dialnorms of the first and the second programme

-- so many are its numbers
abbrev pub entry_width : ℕ
entry_width = 5

abbrev pub numbers : Entry → List ℕ
numbers e = e.place ∷ e.size ∷ e.acmod ∷ e.dialnorm ∷ e.second ∷ []

-- the numbers of all
unfoldable pub numbers_of : List Entry → List ℕ
numbers_of [] = []
numbers_of (e ∷ es) = numbers e ++ numbers_of es

-- the entry of the frame at a place; a second programme is there where acmod is 0
abbrev pub entry_of : Call → Entry
entry_of c =
    let header = (answer_to c).0.summary.header in
    record {
      place = c.place;
      size = header.bytes;
      acmod = header.acmod;
      dialnorm = value_of Name.dialnorm (listed c);
      second = cond (eqb header.acmod 0) (value_of Name.dialnorm2 (listed c)) 0;
    }

-- ---- the walk

-- what it met from a place on, where it ended, and the field room after its parses; the refusal is 37 or 0
pub record Walk : Type 0 where
  pub entries : List Entry
  pub refusal : ℕ
  pub reach : ℕ
  pub room : List ℤ

-- It ends where bytes that come may change the answer, and where the field room is too short.
abbrev pub is_over : (refusal : ℕ) → Bool
is_over n = is_short n || is_full n

abbrev pub over : (refusal reach : ℕ) (room : List ℤ) → Walk
over refusal reach room = record { entries = []; refusal = refusal; reach = reach; room = room }

infixr 20 ◌before◌
abbrev pub ◌before◌ : List Entry → Walk → Walk
es before w = record { entries = es ++ w.entries; refusal = w.refusal; reach = w.reach; room = w.room }

-- what is met at a place, and how far the walk goes on from there: by the frame's length, or by one byte
abbrev pub met : Call → List Entry
met c = cond (eqb (answer_to c).0.refusal 0) (entry_of c ∷ []) []

abbrev pub stride : Call → ℕ
stride c = let a = (answer_to c).0 in cond (eqb a.refusal 0) a.summary.header.bytes 1

module _ (capture : List ℕ) where
  -- at most so many steps; the next parse gets the field room as this one leaves it
  unfoldable pub walk : ℕ → (place : ℕ) (room : List ℤ) → Walk
  walk zero place room = over 0 place room
  walk (suc n) place room =
      let c = call capture place room in
      let refusal = (answer_to c).0.refusal in
      cond (is_over refusal)
      (over (cond (is_full refusal) no_fields 0) place (answer_to c).1)
      (met c before walk n (place + stride c) (answer_to c).1)

  -- no walk has more steps than the capture has bytes
  abbrev pub walk_from : (place : ℕ) (room : List ℤ) → Walk
  walk_from place room = walk (length capture) place room

-- ---- a call

-- no room for an entry; the last entry is not the frame that is there
abbrev pub no_room : ℕ
no_room = 55

abbrev pub not_there : ℕ
not_there = 56

-- how many entries there is room for
abbrev pub room_in : (index : List ℕ) → ℕ
room_in index = length index / entry_width

-- entry i of an index
abbrev pub entry_in : (index : List ℕ) (i : ℕ) → Entry
entry_in index i =
    let at = i * entry_width in
    record {
      place = get_or index at 0;
      size = get_or index (at + 1) 0;
      acmod = get_or index (at + 2) 0;
      dialnorm = get_or index (at + 3) 0;
      second = get_or index (at + 4) 0;
    }

-- but for the place
abbrev pub same_entry : Entry → Entry → Bool
same_entry e f = eqb e.size f.size && (eqb e.acmod f.acmod && (eqb e.dialnorm f.dialnorm && eqb e.second f.second))

-- Where the walk of a call begins, and the field room then; or 56.
pub record Start : Type 0 where
  pub refusal : ℕ
  pub place : ℕ
  pub room : List ℤ

abbrev pub start : (refusal place : ℕ) (room : List ℤ) → Start
start refusal place room = record { refusal = refusal; place = place; room = room }

-- the byte after a frame
abbrev pub ends_at : Call → ℕ
ends_at c = c.place + (entry_of c).size

-- from the end of the last entry, if parsing at its place gives that entry
abbrev pub after : Call → Entry → Start
after c last =
    cond (eqb (answer_to c).0.refusal 0 && same_entry (entry_of c) last)
    (start 0 (ends_at c) (answer_to c).1)
    (start not_there 0 (answer_to c).1)

unfoldable pub begin : (capture : List ℕ) (rows : List ℤ) (index : List ℕ) (entries : ℕ) → Start
begin capture rows index zero = start 0 0 rows
begin capture rows index (suc n) =
    cond (ltb n (room_in index))
    (let last = entry_in index n in after (call capture last.place rows) last)
    (start not_there 0 rows)

-- the index and the count after a walk that met these; a refusal leaves them as they were
abbrev pub refused : (refusal entries : ℕ) (index : List ℕ) → Answer × List ℕ
refused refusal entries index = (record { refusal = refusal; entries = entries }, index)

abbrev pub entered : (index : List ℕ) (entries : ℕ) → List Entry → Answer × List ℕ
entered index entries es = (record { refusal = 0; entries = entries + length es }, sets index (entries * entry_width) (numbers_of es))

unfoldable pub extended : (index : List ℕ) (entries : ℕ) → Walk → Answer × List ℕ
extended index entries w =
    cond (eqb w.refusal 0)
    (cond (leb (entries + length w.entries) (room_in index)) (entered index entries w.entries) (refused no_room entries index))
    (refused w.refusal entries index)

-- and the field room after it
abbrev pub answered_by : (index : List ℕ) (entries : ℕ) → Walk → (Answer × List ℕ) × List ℤ
answered_by index entries w = (extended index entries w, w.room)

-- the answer to a call, and the index and the field room after it
unfoldable pub indexed : (capture : List ℕ) (rows : List ℤ) (index : List ℕ) (entries : ℕ) → (Answer × List ℕ) × List ℤ
indexed capture rows index entries =
    let s = begin capture rows index entries in
    cond (eqb s.refusal 0) (answered_by index entries (walk_from capture s.place s.room)) (refused s.refusal entries index, s.room)
