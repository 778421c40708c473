-- A grammar says which fields a frame has: a decision tree on the values that are read.
-- What stands in a span, and the value of a `free` field, never reach the tree, by construction.
use Rattle.std.specs.Prelude.{ℕ, zero, suc, ◌+◌, ◌-◌, Bool, true, false, ◌&&◌, not, List, eqb, set}
use Rattle.syntax.specs.declared.Item.{Item}
use Rattle.syntax.specs.declared.Refusal.{Refusal}
use Rattle.syntax.specs.declared.Role.{Role}
use Rattle.syntax.specs.declared.Role.TheVariants.{Plain}

pub data Grammar (A : Type 0) : Type 0 where
  done : A → Grammar A  -- finished, with an answer
  refuse : Refusal → Grammar A  -- a value was judged bad
  field : Item → ℕ → (ℕ → Grammar A) → Grammar A  -- a value of this width, which may steer the rest
  free : Item → ℕ → Grammar A → Grammar A  -- a value of this width that is recorded and steers nothing
  span : Item → ℕ → Grammar A → Grammar A  -- a span of this width, recorded with value 0
  walk : Item → List ℕ → Grammar A → Grammar A  -- a span walked piece by piece, and recorded after the walk
  frame : Refusal → (bytes : ℕ) → Grammar A → Grammar A  -- the frame has this many bytes: refused if the input has fewer
  here : (ℕ → Grammar A) → Grammar A  -- the bit reached, for the answer

infixl 1 ◌>>=◌ ◌>>◌
-- one grammar, and then the one that its answer chooses
unfoldable pub ◌>>=◌ : {A B : Type 0} → Grammar A → (A → Grammar B) → Grammar B
done a >>= f = f a
refuse x >>= f = refuse x
field i w k >>= f = field i w (λ v. k v >>= f)
free i w k >>= f = free i w (k >>= f)
span i w k >>= f = span i w (k >>= f)
walk i ws k >>= f = walk i ws (k >>= f)
frame x n k >>= f = frame x n (k >>= f)
here k >>= f = here (λ at. k at >>= f)

abbrev pub ◌>>◌ : {A B : Type 0} → Grammar A → Grammar B → Grammar B
g >> h = g >>= (λ _. h)

-- ---- items; 255 stands for no block, no index and no part

-- outside the blocks: of no role, and of a role
abbrev pub plain : ℕ → Item
plain name = record { name = name; role = Plain; block = 255; index = 255; part = 255 }

abbrev pub roled : Role → ℕ → Item
roled role name = record { name = name; role = role; block = 255; index = 255; part = 255 }

-- in a block: of no role, with no index and with one, and the part of one that is sent for each; of a role
abbrev pub one : (block name : ℕ) → Item
one block name = record { name = name; role = Plain; block = block; index = 255; part = 255 }

abbrev pub nth : (block name index : ℕ) → Item
nth block name index = record { name = name; role = Plain; block = block; index = index; part = 255 }

abbrev pub part_of : (block name index part : ℕ) → Item
part_of block name index part = record { name = name; role = Plain; block = block; index = index; part = part }

abbrev pub one_roled : ℕ → Role → ℕ → Item
one_roled block role name = record { name = name; role = role; block = block; index = 255; part = 255 }

-- ---- words for writing a grammar

-- a value that may steer the rest
abbrev pub take : Item → ℕ → Grammar ℕ
take i w = field i w done

-- a flag: one bit
abbrev pub flag : Item → Grammar Bool
flag i = field i 1 (λ v. done (eqb v 1))

-- a value that steers nothing
abbrev pub note : Item → ℕ → Grammar (Unit {0})
note i w = free i w (done tt)

abbrev pub pass : Item → ℕ → Grammar (Unit {0})
pass i w = span i w (done tt)

abbrev pub pieces : Item → List ℕ → Grammar (Unit {0})
pieces i ws = walk i ws (done tt)

abbrev pub framed : Refusal → (bytes : ℕ) → Grammar (Unit {0})
framed x n = frame x n (done tt)

abbrev pub position : Grammar ℕ
position = here done

-- what was read is judged
abbrev pub refuse_if : (bad : Bool) → Refusal → Grammar (Unit {0})
refuse_if true x = refuse x
refuse_if false x = done tt

-- a flag that announces what a block needs: block 0 must have it set
abbrev pub announced : (block name : ℕ) → Refusal → Grammar Bool
announced block name x = do
  sent ← flag (one block name)
  refuse_if (eqb block 0 && not sent) x
  done sent

-- a part that is there only where a test holds
abbrev pub when : Bool → Grammar (Unit {0}) → Grammar (Unit {0})
when true g = g
when false g = done tt

-- what is read where the test holds, and else what is kept
abbrev pub read_if : {A : Type 0} → Bool → (kept : A) → Grammar A → Grammar A
read_if true kept g = g
read_if false kept g = done kept

-- ---- loops

-- n turns, for the numbers from i on, with what is carried from one turn to the next
unfoldable pub turns : {A : Type 0} → (i n : ℕ) → A → (ℕ → A → Grammar A) → Grammar A
turns i zero a body = done a
turns i (suc n) a body = body i a >>= λ next. turns (i + 1) n next body

-- for each number from `first` up to, not including, `last`
abbrev pub for : {A : Type 0} → (first last : ℕ) → A → (ℕ → A → Grammar A) → Grammar A
for first last a body = turns first (last - first) a body

abbrev pub each : (last : ℕ) → (ℕ → Grammar (Unit {0})) → Grammar (Unit {0})
each last g = for 0 last tt (λ i _. g i)

-- the first entries of an array, read one after the other
abbrev pub filling : {A : Type 0} → (ℕ → Grammar A) → ℕ → List A → Grammar (List A)
filling g i array = g i >>= λ a. done (set array i a)

abbrev pub fill : {A : Type 0} → (last : ℕ) → List A → (ℕ → Grammar A) → Grammar (List A)
fill last array g = for 0 last array (filling g)
