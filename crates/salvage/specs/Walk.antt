-- The walk over a broken capture. Where a frame is accepted it is listed and written, and the walk goes on after it; elsewhere it goes on by
-- one byte, and what it passed is a gap, entered when the next frame or the end is met.
use Rattle.std.specs.Prelude.{Bool, cond, ◌||◌, ◌&&◌, List, [], ◌∷◌, ◌++◌, ℕ, zero, suc, ◌+◌, ◌-◌, eqb, leb, ltb, ℤ, length, take, drop}
use Rattle.ac3.specs.Frame.{answer}
use Rattle.ac3.specs.declared.Answer as parse

-- ---- what is kept

-- kind 0 is a frame, kind 1 a gap
pub record Entry : Type 0 where
  pub kind : ℕ
  pub place : ℕ
  pub size : ℕ

abbrev pub frame : (place size : ℕ) → Entry
frame place size = record { kind = 0; place = place; size = size }

abbrev pub gap : (from to : ℕ) → Entry
gap from to = record { kind = 1; place = from; size = to - from }

-- so many are the numbers of an entry
abbrev pub entry_width : ℕ
entry_width = 3

-- how many entries and how many bytes there is room for
pub record Rooms : Type 0 where
  pub entries : ℕ
  pub bytes : ℕ

-- what was kept so far; the refusal is 0 where none was met
pub record Kept : Type 0 where
  pub refusal : ℕ
  pub entries : List Entry
  pub output : List ℕ

abbrev pub nothing : Kept
nothing = record { refusal = 0; entries = []; output = [] }

-- too little room for output, list entries or fields: what is kept stays
abbrev pub no_output : ℕ
no_output = 35

abbrev pub no_entry : ℕ
no_entry = 36

abbrev pub no_fields : ℕ
no_fields = 37

abbrev pub refuse : ℕ → Kept → Kept
refuse n k = record { refusal = n; entries = k.entries; output = k.output }

-- with one more entry, and the bytes of its frame
abbrev pub with : Entry → List ℕ → Kept → Kept
with e bytes k = record { refusal = 0; entries = k.entries ++ (e ∷ []); output = k.output ++ bytes }

-- nothing more is done after a refusal
infixl 20 ◌then◌
abbrev pub ◌then◌ : Kept → (Kept → Kept) → Kept
k then next = cond (eqb k.refusal 0) (next k) k

module _ (rooms : Rooms) where
  -- the bytes that are in no entry yet, if there are any, are entered as one gap
  unfoldable pub close_gap : (from to : ℕ) → Kept → Kept
  close_gap from to k =
      cond (ltb from to)
      (cond (ltb (length k.entries) rooms.entries) (with (gap from to) [] k) (refuse no_entry k))
      k

  -- a frame is listed only if it is written
  unfoldable pub keep_frame : (place : ℕ) (bytes : List ℕ) → Kept → Kept
  keep_frame place bytes k =
      cond (ltb (length k.entries) rooms.entries)
      (cond (leb (length k.output + length bytes) rooms.bytes) (with (frame place (length bytes)) bytes k) (refuse no_output k))
      (refuse no_entry k)

-- ---- the walk

-- a frame is met where parsing accepts, or answers that the field room is too short
abbrev pub is_full : (refusal : ℕ) → Bool
is_full refusal = eqb refusal 7

abbrev pub is_met : (refusal : ℕ) → Bool
is_met refusal = eqb refusal 0 || is_full refusal

abbrev pub bytes_at : (capture : List ℕ) (place size : ℕ) → List ℕ
bytes_at capture place size = take size (drop place capture)

-- The bytes before the place are gone through, those from `from` on are in no entry yet.
pub record Walk : Type 0 where
  pub from : ℕ
  pub place : ℕ
  pub kept : Kept
  pub room : List ℤ

-- from byte 0
abbrev pub begun : (rows : List ℤ) → Walk
begun rows = record { from = 0; place = 0; kept = nothing; room = rows }

module _ (capture : List ℕ) (rooms : Rooms) where
  -- the gap before a frame is entered before that frame's checks
  unfoldable pub meet : (parsed : parse.Answer) (from place : ℕ) → Kept → Kept
  meet parsed from place kept =
      close_gap rooms from place kept
      then λ k. cond (is_full parsed.refusal) (refuse no_fields k) (keep_frame rooms place (bytes_at capture place parsed.summary.header.bytes) k)

  -- past a frame that is met, or on by one byte; the next parse gets the field room as this one leaves it
  unfoldable pub onward : parse.Answer × List ℤ → Walk → Walk
  onward (parsed, room) w =
      let after = w.place + parsed.summary.header.bytes in
      cond (is_met parsed.refusal)
      (record { from = after; place = after; kept = meet parsed w.from w.place w.kept; room = room })
      (record { from = w.from; place = w.place + 1; kept = w.kept; room = room })

  -- nothing is done after a refusal or at the end
  abbrev pub goes : Walk → Bool
  goes w = eqb w.kept.refusal 0 && ltb w.place (length capture)

  unfoldable pub step : Walk → Walk
  step w = cond (goes w) (onward (answer capture w.place w.room) w) w

  unfoldable pub walk : ℕ → Walk → Walk
  walk zero w = w
  walk (suc n) w = walk n (step w)

  -- no walk has more steps than the capture has bytes
  unfoldable pub walked : (rows : List ℤ) → Walk
  walked rows = walk (length capture) (begun rows)

  -- the last gap is entered when the end is met
  unfoldable pub salvage : (rows : List ℤ) → Kept
  salvage rows = let w = walked rows in w.kept then close_gap rooms w.from w.place
