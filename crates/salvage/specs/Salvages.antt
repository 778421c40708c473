-- What a salvage does, in the request's words: theorems about the definition, which the contract of `salvage` carries to the caller.
-- `proofs/Salvages.antt` and `proofs/Unbroken.antt` prove them.
use Rattle.std.specs.Prelude.{Bool, true, false, cond, ◌||◌, List, [], ◌∷◌, ◌++◌, ◌≡◌, ℕ, zero, suc, ◌+◌, ◌*◌, ◌/◌, ◌≤◌, ◌<◌, eqb, ℤ, length, get_or, drop}
use Rattle.syntax.specs.Numbers.{row_width}
use Rattle.ac3.specs.Frame.{answer}
use Rattle.ac3.specs.RowBound.{most_rows}
use Rattle.ac3.specs.declared.Answer as parse
use Rattle.salvage.specs.Walk.{Entry, frame, entry_width, Rooms, Kept, no_output, no_entry, no_fields, bytes_at, is_met, salvage}
use Rattle.salvage.specs.Lent.{salvaged}

-- what parsing answers at a place, with the field room as it was lent
abbrev pub answer_at : (capture : List ℕ) (rows : List ℤ) (place : ℕ) → parse.Answer
answer_at capture rows place = (answer capture place rows).0

abbrev pub size_at : (capture : List ℕ) (rows : List ℤ) (place : ℕ) → ℕ
size_at capture rows place = (answer_at capture rows place).summary.header.bytes

-- ---- a list of entries

abbrev pub Each : (Entry → Type 0) → List Entry → Type 0
Each P [] = Unit {0}
Each P (e ∷ es) = P e × Each P es

abbrev pub IsFrame : Entry → Type 0
IsFrame e = e.kind ≡ 0

abbrev pub IsGap : Entry → Type 0
IsGap e = e.kind ≡ 1

-- the entries lie end to end, and none is empty
abbrev pub Tiles : (from : ℕ) → List Entry → (to : ℕ) → Type 0
Tiles from [] to = from ≡ to
Tiles from (e ∷ es) to = (e.place ≡ from) × (0 < e.size) × Tiles (from + e.size) es to

-- the byte is in one of the entries, and in no other
abbrev pub Covers : (byte : ℕ) → Entry → Type 0
Covers byte e = (e.place ≤ byte) × (byte < e.place + e.size)

pub record InOne (byte : ℕ) (es : List Entry) : Type 0 where
  pub index : ℕ
  pub listed : index < length es
  pub covers : Covers byte (get_or es index (frame 0 0))
  pub only : (other : ℕ) → other < length es → Covers byte (get_or es other (frame 0 0)) → other ≡ index

-- no two neighbours are gaps
abbrev pub GapsApart : List Entry → Type 0
GapsApart [] = Unit {0}
GapsApart (e ∷ []) = Unit {0}
GapsApart (e ∷ f ∷ es) = ¬ (IsGap e × IsGap f) × GapsApart (f ∷ es)

-- the listed frames' bytes, one after the other
unfoldable pub frames_in : (capture : List ℕ) → List Entry → List ℕ
frames_in capture [] = []
frames_in capture (e ∷ es) = cond (eqb e.kind 0) (bytes_at capture e.place e.size) [] ++ frames_in capture es

-- a listed frame is one that parsing accepts there, and as long as listed; in a gap no frame is met
pub record Right (capture : List ℕ) (rows : List ℤ) (e : Entry) : Type 0 where
  pub kinds : e.kind ≤ 1
  pub accepted : IsFrame e → ((answer_at capture rows e.place).refusal ≡ 0) × (size_at capture rows e.place ≡ e.size)
  pub unmet : IsGap e → (place : ℕ) → e.place ≤ place → place < e.place + e.size → is_met (answer_at capture rows place).refusal ≡ false

-- ---- every salvage, refused or not

-- none; output room, list room, field room
abbrev pub is_number : (refusal : ℕ) → Bool
is_number n = eqb n 0 || (eqb n no_output || (eqb n no_entry || eqb n no_fields))

-- whole frames and entries, from byte 0 to where they reach
pub record Entered (capture : List ℕ) (rooms : Rooms) (rows : List ℤ) (k : Kept) (reach : ℕ) : Type 0 where
  pub inside : reach ≤ length capture
  pub tiles : Tiles 0 k.entries reach
  pub right : Each (Right capture rows) k.entries
  -- neighbouring gaps are one gap
  pub apart : GapsApart k.entries
  -- the output is the frames, one after the other
  pub output : k.output ≡ frames_in capture k.entries
  -- and there is room for all of it
  pub listed : length k.entries ≤ rooms.entries
  pub written : length k.output ≤ rooms.bytes

-- and why it reaches no further
pub record Whole (capture : List ℕ) (rooms : Rooms) (rows : List ℤ) (k : Kept) : Type 0 where
  pub reach : ℕ
  pub entered : Entered capture rooms rows k reach
  pub numbered : is_number k.refusal ≡ true
  -- 35: the next bytes are a frame, for which too little of the output is left
  pub lacks_output : k.refusal ≡ no_output → ((answer_at capture rows reach).refusal ≡ 0) × (rooms.bytes < length k.output + size_at capture rows reach)
  -- 36: all entries are used
  pub lacks_entry : k.refusal ≡ no_entry → length k.entries ≡ rooms.entries
  -- 37: the next bytes are a frame for which the field room is too short
  pub lacks_fields : k.refusal ≡ no_fields → (answer_at capture rows reach).refusal ≡ 7

pub record Salvages (capture : List ℕ) (rooms : Rooms) (rows : List ℤ) : Type 0 where
  pub whole : Whole capture rooms rows (salvage capture rooms rows)
  -- one that was not refused reaches the capture's end
  pub all : (salvage capture rooms rows).refusal ≡ 0 → whole.reach ≡ length capture
  -- so each byte of the capture is in exactly one listed frame or gap
  pub each_byte : (salvage capture rooms rows).refusal ≡ 0 → (byte : ℕ) → byte < length capture → InOne byte (salvage capture rooms rows).entries
  -- and without a gap it comes out the same
  pub same : (salvage capture rooms rows).refusal ≡ 0 → Each IsFrame (salvage capture rooms rows).entries → (salvage capture rooms rows).output ≡ capture
  -- with room for the most rows that a frame can have 37 is not given
  pub enough_fields : most_rows ≤ length rows / row_width → ¬ ((salvage capture rooms rows).refusal ≡ no_fields)

-- ---- a capture without a gap

-- from the place on the capture is so many frames, end to end
abbrev pub Frames : (capture : List ℕ) (rows : List ℤ) (count place : ℕ) → Type 0
Frames capture rows zero place = place ≡ length capture
Frames capture rows (suc n) place = ((answer_at capture rows place).refusal ≡ 0) × Frames capture rows n (place + size_at capture rows place)

-- it comes out the same, where the rooms are large enough
abbrev pub ComesOutTheSame : (capture : List ℕ) (rooms : Rooms) (rows : List ℤ) → Type 0
ComesOutTheSame capture rooms rows =
    (count : ℕ) → Frames capture rows count 0 → count ≤ rooms.entries → length capture ≤ rooms.bytes
    → ((salvage capture rooms rows).refusal ≡ 0) × ((salvage capture rooms rows).output ≡ capture)

-- ---- what was lent: nothing after the entries and the frames is touched, refused or not

pub record Rest (before after : List ℕ) (used : ℕ) : Type 0 where
  pub within : used ≤ length before
  pub long : length after ≡ length before
  pub rest : drop used after ≡ drop used before

pub record Untouched (capture : List ℕ) (rows : List ℤ) (list out : List ℕ) : Type 0 where
  pub list_rest : Rest list (salvaged capture rows list out).0.1.0 ((salvaged capture rows list out).0.0.entries * entry_width)
  pub out_rest : Rest out (salvaged capture rows list out).0.1.1 (salvaged capture rows list out).0.0.bytes
  pub rows_long : length (salvaged capture rows list out).1 ≡ length rows
