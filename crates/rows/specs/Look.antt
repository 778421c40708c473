-- The first row of a name among the first rows of a run of numbers, and its value.
use Rattle.std.specs.Prelude.{Bool, false, ◌&&◌, cond, List, ℕ, zero, suc, ◌+◌, ◌*◌, eqb, leb, ltb, ℤ, pos, negsuc, length, get_or, drop}
use Rattle.syntax.specs.Numbers.{row_width}

-- where name and value stand among the numbers of a row
abbrev pub name_column : ℕ
name_column = 0

abbrev pub value_column : ℕ
value_column = 7

-- a row's number is this name
abbrev pub is_name : ℕ → ℤ → Bool
is_name name (pos n) = eqb n name
is_name name (negsuc n) = false

-- the row in front has this name
abbrev pub named : ℕ → List ℤ → Bool
named name rows = is_name name (get_or rows name_column (pos 0))

-- how many of the first `count` rows stand before the first one of which a test says yes: all where it says so of none. (Public because
-- operations look for rows by more than their name.)
unfoldable pub first_where : (test : List ℤ → Bool) (count : ℕ) → List ℤ → ℕ
first_where test zero rows = 0
first_where test (suc n) rows = cond (leb row_width (length rows) && test rows) 0 (suc (first_where test n (drop row_width rows)))

-- before the first one of this name
abbrev pub first : (count name : ℕ) → List ℤ → ℕ
first count name rows = first_where (named name) count rows

-- its value; 0 where none has the name
unfoldable pub value_in : (count name : ℕ) → List ℤ → ℤ
value_in count name rows = let i = first count name rows in cond (ltb i count) (get_or rows (i * row_width + value_column) (pos 0)) (pos 0)
