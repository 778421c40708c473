-- What the ninth number of a row means: its part. Rows of one name, block and index are numbered from 0 in the order in which they stand.
-- So in each block the bands of a channel's coordinates are 0, 1, 2 and so on without a gap, and so are the groups of a set of exponents
-- and the segments of a slot. A row with any other name has no part.
use Rattle.std.specs.Prelude.{Bool, false, ◌&&◌, cond, List, [], ◌∷◌, ◌↔◌, ◌≡◌, ℕ, zero, suc, ◌+◌, ◌*◌, ◌<◌, T, eqb, ℤ, pos, negsuc, get_or, drop}
use Rattle.syntax.specs.declared.Item.{Item}
use Rattle.syntax.specs.Names as Name
use Rattle.syntax.specs.Numbers.{row_width}
use Rattle.syntax.specs.Run.{Row, rows_of}
use Rattle.ac3.specs.Frame.{syncframe}
use Rattle.ac3.specs.Marked.{among}
use Rattle.ac3.specs.Promise.{Call, answer_to}
use Rattle.ac3.specs.Rooms.{said, row_count}

-- the names whose rows have a part: a band, a group, a segment
abbrev pub parted : List ℕ
parted =
    Name.cplcoexp ∷ Name.cplcomant ∷ Name.cplexps ∷ Name.exps ∷ Name.lfeexps ∷ Name.cpldeltoffst ∷ Name.cpldeltlen ∷ Name.cpldeltba
    ∷ Name.deltoffst ∷ Name.deltlen ∷ Name.deltba ∷ []

-- ---- of the definition's rows

-- are two items of the same name, block and index?
abbrev pub same_field : Item → Item → Bool
same_field i j = eqb i.name j.name && (eqb i.block j.block && eqb i.index j.index)

-- how many of these rows are of an item's name, block and index
unfoldable pub alike : Item → List Row → ℕ
alike i [] = 0
alike i (r ∷ rs) = cond (same_field i r.item) (alike i rs + 1) (alike i rs)

-- the part of an item whose row stands after these; 255 stands for "none"
pub record PartFits (before : List Row) (i : Item) : Type 0 where
  pub none : ¬ T (among i.name parted) → i.part ≡ 255
  pub counted : T (among i.name parted) → i.part ≡ alike i before
  pub some : T (among i.name parted) → i.part < 255

abbrev pub PartsFit : (before : List Row) → List Row → Type 0
PartsFit before [] = Unit {0}
PartsFit before (r ∷ rs) = PartFits before r.item × PartsFit (r ∷ before) rs

abbrev pub PartsOfRows : Type 0
PartsOfRows = (s : List ℕ) (room : ℕ) → PartsFit [] (rows_of syncframe s room)

-- ---- of a room

-- are two numbers the same?
abbrev pub same : ℤ → ℤ → Bool
same (pos m) (pos n) = eqb m n
same (negsuc m) (negsuc n) = eqb m n
same (pos m) (negsuc n) = false
same (negsuc m) (pos n) = false

-- a number of the row at the front of a room
abbrev pub number : (column : ℕ) → List ℤ → ℤ
number column room = get_or room column (pos 0)

-- are the rows at the front of two rooms of the same name, block and index?
abbrev pub same_front : List ℤ → List ℤ → Bool
same_front x y = same (number 0 x) (number 0 y) && (same (number 3 x) (number 3 y) && same (number 4 x) (number 4 y))

-- how many of the first n rows of a room are of this row's name, block and index
unfoldable pub alike_in : (row : List ℤ) (n : ℕ) → List ℤ → ℕ
alike_in row zero room = 0
alike_in row (suc n) room = cond (same_front row room) 1 0 + alike_in row n (drop row_width room)

-- ---- what a caller holds after a call

-- the room from row i on, whether that row's name has parts, its part, and how many rows before it are of its name, block and index
abbrev pub from_row : Call → ℕ → List ℤ
from_row c i = drop (i * row_width) (answer_to c).1

abbrev pub has_part : Call → ℕ → Bool
has_part c i = among (said 0 (from_row c i)) parted

abbrev pub part_at : Call → ℕ → ℤ
part_at c i = number 8 (from_row c i)

abbrev pub alike_before : Call → ℕ → ℕ
alike_before c i = alike_in (from_row c i) i (answer_to c).1

-- of every row that was written, whether the call was accepted or refused
pub record PartsOfRooms : Type 0 where
  -- -1 exactly where the name is none of the eleven
  pub none : (c : Call) (i : ℕ) → i < row_count c → (part_at c i ≡ negsuc 0) ↔ ¬ T (has_part c i)
  -- and else the number of rows before it of the same name, block and index
  pub counted : (c : Call) (i : ℕ) → i < row_count c → T (has_part c i) → part_at c i ≡ pos (alike_before c i)
