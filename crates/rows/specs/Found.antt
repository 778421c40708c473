-- What is found by name in the room after a call: the first row of that name in the definition's list, with all its numbers.
use Rattle.std.specs.Prelude.{Bool, false, cond, List, [], ◌∷◌, ◌++◌, ◌≡◌, ℕ, zero, suc, ◌*◌, ◌<◌, eqb, ℤ, pos, length, take, drop}
use Rattle.bits.specs.Bits.{value}
use Rattle.syntax.specs.declared.Role.TheVariants.{Sync, Crc1, FrameSize}
use Rattle.syntax.specs.Grammar.{plain, roled}
use Rattle.syntax.specs.Names as Name
use Rattle.syntax.specs.Numbers.{row_width, numbers}
use Rattle.syntax.specs.Rows.{is_span}
use Rattle.syntax.specs.Run.{Row, row, steering, unsteering}
use Rattle.ac3.specs.Promise.{Call, input, listed, answer_to, Accepted}
use Rattle.rows.specs.Look.{first, value_in}

-- how many rows of a list stand before the first one of which a test says yes: all where it says so of none
unfoldable pub index_where : (says : Row → Bool) → List Row → ℕ
index_where says [] = 0
index_where says (r ∷ rs) = cond (says r) 0 (suc (index_where says rs))

-- before the first one of this name
abbrev pub index_of : (name : ℕ) → List Row → ℕ
index_of name rs = index_where (λ r. eqb r.item.name name) rs

-- its value; 0 where none has the name
unfoldable pub value_of : (name : ℕ) → List Row → ℕ
value_of name [] = 0
value_of name (r ∷ rs) = cond (eqb r.item.name name) r.value (value_of name rs)

-- row i of the list is r, which has this name, and no row before it has
abbrev pub First : (name : ℕ) → List Row → ℕ → Row → Type 0
First name [] i r = ⊥
First name (x ∷ xs) zero r = (x ≡ r) × (r.item.name ≡ name)
First name (x ∷ xs) (suc i) r = (¬ (x.item.name ≡ name)) × First name xs i r

-- the numbers of row i of a run
abbrev pub row_at : ℕ → List ℤ → List ℤ
row_at i rows = take row_width (drop (i * row_width) rows)

-- accepted or not: what a caller finds by this name in the rows that were written
pub record Looked (c : Call) (name : ℕ) : Type 0 where
  pub place : first (answer_to c).0.rows name (answer_to c).1 ≡ index_of name (listed c)
  pub valued : value_in (answer_to c).0.rows name (answer_to c).1 ≡ pos (value_of name (listed c))
  -- where something is found it is the definition's first row of the name
  pub found : index_of name (listed c) < length (listed c) → (r : Row) × First name (listed c) (index_of name (listed c)) r
  -- the definition's first row of the name is found, with its numbers: position, width and the value that the bits there spell, if it is no span
  pub index : (i : ℕ) (r : Row) → First name (listed c) i r → index_of name (listed c) ≡ i
  pub row_numbers : (i : ℕ) (r : Row) → First name (listed c) i r → row_at i (answer_to c).1 ≡ numbers r
  pub row_value : (i : ℕ) (r : Row) → First name (listed c) i r → value_of name (listed c) ≡ r.value
  pub row_bits : (i : ℕ) (r : Row) → First name (listed c) i r → is_span r.kind ≡ false → r.value ≡ value (input c) r.at r.width

abbrev pub LooksUp : Type 0
LooksUp = (c : Call) (name : ℕ) → Looked c name

-- ---- the rows with which every accepted frame opens

abbrev pub opening : List ℕ → List Row
opening s =
    row steering (roled Sync Name.syncword) 0 16 (value s 0 16)
    ∷ row unsteering (roled Crc1 Name.crc1) 16 16 (value s 16 16)
    ∷ row steering (roled FrameSize Name.fscod) 32 2 (value s 32 2)
    ∷ row steering (roled FrameSize Name.frmsizecod) 34 6 (value s 34 6)
    ∷ row steering (plain Name.bsid) 40 5 (value s 40 5)
    ∷ row unsteering (plain Name.bsmod) 45 3 (value s 45 3)
    ∷ row steering (plain Name.acmod) 48 3 (value s 48 3)
    ∷ []

abbrev pub Opens : Type 0
Opens = (c : Call) → Accepted c → (later : List Row) × (listed c ≡ opening (input c) ++ later)

-- so these are found by their names in rows 3, 5 and 6
pub record Headed (c : Call) : Type 0 where
  pub frmsizecod : First Name.frmsizecod (listed c) 3 (row steering (roled FrameSize Name.frmsizecod) 34 6 (value (input c) 34 6))
  pub bsmod : First Name.bsmod (listed c) 5 (row unsteering (plain Name.bsmod) 45 3 (value (input c) 45 3))
  pub acmod : First Name.acmod (listed c) 6 (row steering (plain Name.acmod) 48 3 (value (input c) 48 3))

abbrev pub HeadRows : Type 0
HeadRows = (c : Call) → Accepted c → Headed c
