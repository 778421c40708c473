-- How one number stands in each form. A number from -1 to 2,147,483,647 goes by its stored value, one more: 0 to 2,147,483,648.
use Rattle.std.specs.Prelude.{cond, List, [], ◌∷◌, ◌++◌, ℕ, zero, suc, ◌+◌, ◌-◌, ◌/◌, ◌%◌, eqb, ltb}

-- groups of seven bits, lowest first, the high bit set while more follow; the first argument bounds their count
unfoldable pub groups_in : ℕ → ℕ → List ℕ
groups_in zero v = []
groups_in (suc most) v = cond (ltb v 128) (v ∷ []) ((128 + v % 128) ∷ groups_in most (v / 128))

unfoldable pub groups : ℕ → List ℕ
unfolding groups_in
groups v = groups_in 10 v

-- decimal digits, with no leading zero; the first argument bounds their count
unfoldable pub decimal_in : ℕ → ℕ → List ℕ
decimal_in zero n = []
decimal_in (suc most) n = cond (ltb n 10) ((48 + n) ∷ []) (decimal_in most (n / 10) ++ ((48 + n % 10) ∷ []))

unfoldable pub decimal : ℕ → List ℕ
unfolding decimal_in
decimal n = decimal_in 20 n

-- a stored number as text: `-1` for 0
unfoldable pub signed : ℕ → List ℕ
unfolding decimal
signed v = cond (eqb v 0) (45 ∷ 49 ∷ []) (decimal (v - 1))

-- what stands after a number that `left` numbers follow on its line: a space or the line feed
abbrev pub separator : ℕ → ℕ
separator left = cond (eqb left 0) 10 32

-- the words of the last line, one after the other: "audio refused "
abbrev pub letters : List ℕ
letters = 97 ∷ 117 ∷ 100 ∷ 105 ∷ 111 ∷ 32 ∷ 114 ∷ 101 ∷ 102 ∷ 117 ∷ 115 ∷ 101 ∷ 100 ∷ 32 ∷ []
