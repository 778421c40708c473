-- What an index is, in the request's words: theorems about the definition, which the contract of `index` carries to the caller. That
-- refusals 1 and 4 alone can change when bytes come is a theorem of its own, `stays` of ac3/specs/Later (of every grammar with a frame limit:
-- syntax/specs/Later). `proofs/Indexes.antt`, `proofs/Extends.antt` and `proofs/Meets.antt` prove the theorems of this page.
use Rattle.std.specs.Prelude.{Bool, true, cond, ◌||◌, List, [], ◌∷◌, ◌++◌, map, ◌≡◌, ℕ, ◌+◌, ◌*◌, ◌/◌, ◌≤◌, ◌<◌, eqb, ℤ, length, take, drop, get_or}
use Rattle.syntax.specs.Names as Name
use Rattle.syntax.specs.Numbers.{row_width}
use Rattle.ac3.specs.Later.{is_short}
use Rattle.ac3.specs.Promise.{call, listed, answer_to, Accepted}
use Rattle.ac3.specs.RowBound.{most_rows}
use Rattle.rows.specs.Found.{value_of}
use Rattle.rows.specs.Framed.{frame_bytes_of}
use Rattle.salvage.specs.Salvages.{answer_at, Each}
use Rattle.salvage.specs.Walk.{no_fields}
use Rattle.salvage.specs.Walk as salvage
use Rattle.index.specs.Index.{entry_width, numbers_of, room_in, entry_in, no_room, not_there, Walk, walk_from, indexed}
use Rattle.index.specs.Refusals.{Answer}
use Rattle.index.specs.declared.outcome.Entry.{Entry}

-- ---- every entry is a frame

-- parsing accepts there, with the field room as it was lent, and tells these numbers
pub record Right (capture : List ℕ) (rows : List ℤ) (e : Entry) : Type 0 where
  pub accepted : Accepted (call capture e.place rows)
  pub size : e.size ≡ frame_bytes_of (call capture e.place rows)
  pub acmod : e.acmod ≡ (answer_to (call capture e.place rows)).0.summary.header.acmod
  pub dialnorm : e.dialnorm ≡ value_of Name.dialnorm (listed (call capture e.place rows))
  pub second : e.acmod ≡ 0 → e.second ≡ value_of Name.dialnorm2 (listed (call capture e.place rows))
  pub no_second : ¬ (e.acmod ≡ 0) → e.second ≡ 0

-- ---- every call

-- none; field room, index room, the last entry
abbrev pub is_number : (refusal : ℕ) → Bool
is_number n = eqb n 0 || (eqb n no_fields || (eqb n no_room || eqb n not_there))

-- what is told, and the index after it
module _ (capture : List ℕ) (rows : List ℤ) (index : List ℕ) (entries : ℕ) where
  abbrev pub told : Answer
  told = (indexed capture rows index entries).0.0

  abbrev pub made : List ℕ
  made = (indexed capture rows index entries).0.1

pub record Holds (capture : List ℕ) (rows : List ℤ) (index : List ℕ) (entries : ℕ) (a : Answer) (after : List ℕ) (room : List ℤ) : Type 0 where
  pub numbered : is_number a.refusal ≡ true
  -- a refusal: no number is touched, and there are as many entries as before
  pub refused : ¬ (a.refusal ≡ 0) → (after ≡ index) × (a.entries ≡ entries)
  -- else: the old entries stay, and so does what is behind the new ones
  pub more : a.refusal ≡ 0 → (entries ≤ a.entries) × (a.entries ≤ room_in index)
  pub old : a.refusal ≡ 0 → take (entries * entry_width) after ≡ take (entries * entry_width) index
  pub rest : a.refusal ≡ 0 → drop (a.entries * entry_width) after ≡ drop (a.entries * entry_width) index
  -- each entry, from the last one that was there on, is a frame
  pub right : a.refusal ≡ 0 → (i : ℕ) → entries ≤ i + 1 → i < a.entries → Right capture rows (entry_in after i)
  -- with room for the most rows that a frame can have 37 is not given
  pub enough_fields : most_rows ≤ length rows / row_width → ¬ (a.refusal ≡ no_fields)
  pub long : length after ≡ length index
  pub rows_long : length room ≡ length rows

abbrev pub Indexes : Type 0
Indexes =
    (capture : List ℕ) (rows : List ℤ) (index : List ℕ) (entries : ℕ)
    → Holds capture rows index entries (told capture rows index entries) (made capture rows index entries) (indexed capture rows index entries).1

-- ---- extending equals making afresh

-- The entries in front of an index are those that were made afresh from this capture, with a field room as long as this.
pub record Made (capture : List ℕ) (rows : List ℤ) (index : List ℕ) (entries : ℕ) : Type 0 where
  -- in some room
  pub lent : List ℕ
  pub answered : told capture rows lent 0 ≡ record { refusal = 0; entries = entries }
  pub fits : entries ≤ room_in index
  pub same : take (entries * entry_width) index ≡ take (entries * entry_width) (made capture rows lent 0)

-- extending them beside making afresh in the same rooms
pub record Extended (capture : List ℕ) (rows : List ℤ) (index : List ℕ) (entries : ℕ) : Type 0 where
  pub same_refusal : (told capture rows index entries).refusal ≡ (told capture rows index 0).refusal
  pub same_index : made capture rows index entries ≡ made capture rows index 0
  pub same_answer : (told capture rows index entries).refusal ≡ 0 → told capture rows index entries ≡ told capture rows index 0
  -- so one that was extended may be extended again
  pub made_again : (told capture rows index entries).refusal ≡ 0 → Made capture rows (made capture rows index entries) (told capture rows index entries).entries

-- bytes were appended, and the field room holds what it holds now
abbrev pub Extends : Type 0
Extends =
    (capture more : List ℕ) (rows later : List ℤ) (index : List ℕ) (entries : ℕ) → length later ≡ length rows → Made capture rows index entries
    → Extended (capture ++ more) later index entries

-- ---- the entries are the frames that a salvage meets before the first place that is refused with 1 or 4

-- the frames of a salvage's list
unfoldable pub frames_in : List salvage.Entry → List salvage.Entry
frames_in [] = []
frames_in (e ∷ es) = cond (eqb e.kind 0) (e ∷ []) [] ++ frames_in es

-- a byte of a frame that is not its first
abbrev pub Inside : (place : ℕ) → Entry → Type 0
Inside place e = (e.place < place) × (place < e.place + e.size)

pub record Meets (capture : List ℕ) (rows : List ℤ) (w : Walk) : Type 0 where
  -- it ended at a place that is refused with 1 or 4
  pub ended : is_short (answer_at capture rows w.reach).refusal ≡ true
  -- which is the first: one before it lies inside a frame that was met
  pub first : (place : ℕ) → place < w.reach → is_short (answer_at capture rows place).refusal ≡ true
      → (i : ℕ) × (i < length w.entries) × Inside place (get_or w.entries i (record { place = 0; size = 0; acmod = 0; dialnorm = 0; second = 0 }))
  -- a salvage that is not refused lists the entries' frames, and then only frames from that place on
  pub frames : (rooms : salvage.Rooms) → (salvage.salvage capture rooms rows).refusal ≡ 0
      → (later : List salvage.Entry)
      × (frames_in (salvage.salvage capture rooms rows).entries ≡ map (λ e. salvage.frame e.place e.size) w.entries ++ later)
      × Each (λ e. w.reach ≤ e.place) later

-- of every walk from byte 0 that was not stopped by the field room
abbrev pub MeetsFrames : Type 0
MeetsFrames = (capture : List ℕ) (rows : List ℤ) → (walk_from capture 0 rows).refusal ≡ 0 → Meets capture rows (walk_from capture 0 rows)

-- and what it met are the numbers in front of every index that was made afresh, or in steps
abbrev pub ListsThem : Type 0
ListsThem =
    (capture : List ℕ) (rows : List ℤ) (index : List ℕ) (entries : ℕ) → Made capture rows index entries
    → ((walk_from capture 0 rows).refusal ≡ 0) × (take (entries * entry_width) index ≡ numbers_of (walk_from capture 0 rows).entries)
