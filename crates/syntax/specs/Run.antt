-- What a grammar does on an input: the list of rows, where it stands after them, and how it ended.
use Rattle.std.specs.Prelude.{cond, ◌≡◌, List, [], ◌∷◌, ◌++◌, ℕ, zero, suc, ◌+◌, ◌-◌, ◌*◌, ltb, length}
use Rattle.bits.specs.Bits.{value}
use Rattle.syntax.specs.declared.Item.{Item}
use Rattle.syntax.specs.declared.Refusal.{Refusal}
use Rattle.syntax.specs.Refusals.{past, full}
use Rattle.syntax.specs.Grammar.{Grammar, done, refuse, field, free, span, walk, frame, here}

pub data Kind : Type 0 where
  steering unsteering spanning : Kind

pub record Row : Type 0 where
  pub kind : Kind
  pub item : Item
  pub at : ℕ
  pub width : ℕ
  pub value : ℕ

-- where a run stands
pub record Spot : Type 0 where
  pub size : ℕ  -- the input's bytes
  pub limit : ℕ  -- the frame's end, in bits
  pub at : ℕ  -- the first bit not yet read
  pub left : ℕ  -- the rows that may still be written

pub data End (A : Type 0) : Type 0 where
  reached : A → End A
  refused : Refusal → End A

pub record Result (A : Type 0) : Type 0 where
  pub rows : List Row
  pub spot : Spot
  pub end : End A

-- ---- the checks that refuse

-- nothing is in the way; or this refusal, which stands at this bit
pub data Check : Type 0 where
  clear : Check
  stop : Refusal → ℕ → Check

-- one more row, where so many are left
unfoldable pub room_check : (left bit : ℕ) → Check
room_check zero bit = stop full bit
room_check (suc left) bit = clear

-- An item's bits are held against the limit piece by piece: past it, at the start of the first piece that would end there.
-- Then its row is held against the room: full, at the bit `when_full`.
unfoldable pub check : Item → (limit left when_full : ℕ) → List ℕ → (at : ℕ) → Check
check i limit left when_full [] at = room_check left when_full
check i limit left when_full (w ∷ ws) at = cond (ltb limit (at + w)) (stop (past i) at) (check i limit left when_full ws (at + w))

unfoldable pub sum : List ℕ → ℕ
sum [] = 0
sum (w ∷ ws) = w + sum ws

abbrev pub row_check : Item → Spot → ℕ → Check
row_check i p w = check i p.limit p.left p.at (w ∷ []) p.at

-- of a walk the full room shows at its end
abbrev pub walk_check : Item → Spot → List ℕ → Check
walk_check i p ws = check i p.limit p.left (p.at + sum ws) ws p.at

abbrev pub frame_check : Spot → Refusal → (bytes : ℕ) → Check
frame_check p x n = cond (ltb p.size n) (stop x p.at) clear

-- ---- the run

abbrev pub row : Kind → Item → (at width value : ℕ) → Row
row kind i at w v = record { kind = kind; item = i; at = at; width = w; value = v }

-- past a row of width w
abbrev pub beyond : ℕ → Spot → Spot
beyond w p = record { size = p.size; limit = p.limit; at = p.at + w; left = p.left - 1 }

abbrev pub within : ℕ → Spot → Spot
within n p = record { size = p.size; limit = n * 8; at = p.at; left = p.left }

abbrev pub standing : ℕ → Spot → Spot
standing bit p = record { size = p.size; limit = p.limit; at = bit; left = p.left }

abbrev pub ended : {A : Type 0} → Spot → End A → Result A
ended p e = record { rows = []; spot = p; end = e }

infixl 30 ◌after◌
-- these rows, and then a result
abbrev pub ◌after◌ : {A : Type 0} → Result A → List Row → Result A
r after before = record { rows = before ++ r.rows; spot = r.spot; end = r.end }

unfoldable pub unless : {A : Type 0} → Check → Spot → (Unit {0} → Result A) → Result A
unless clear p rest = rest tt
unless (stop x bit) p rest = ended (standing bit p) (refused x)

unfoldable pub run : {A : Type 0} → Grammar A → List ℕ → Spot → Result A
run (done a) s p = ended p (reached a)
run (refuse x) s p = ended p (refused x)
run (field i w k) s p =
    let v = value s p.at w in
    unless (row_check i p w) p (λ _. run (k v) s (beyond w p) after row steering i p.at w v ∷ [])
run (free i w k) s p = unless (row_check i p w) p (λ _. run k s (beyond w p) after row unsteering i p.at w (value s p.at w) ∷ [])
run (span i w k) s p = unless (row_check i p w) p (λ _. run k s (beyond w p) after row spanning i p.at w 0 ∷ [])
run (walk i ws k) s p = unless (walk_check i p ws) p (λ _. run k s (beyond (sum ws) p) after row spanning i p.at (sum ws) 0 ∷ [])
run (frame x n k) s p = unless (frame_check p x n) p (λ _. run k s (within n p))
run (here k) s p = run (k p.at) s p

-- a run, and then what its answer chooses, from where it stands
unfoldable pub continue : {A B : Type 0} → Result A → (A → Spot → Result B) → Result B
continue r next = elim r.end [ reached a ↦ next a r.spot after r.rows | refused x ↦ ended r.spot (refused x) after r.rows ]

-- ---- a whole input of this many bytes, with room for this many rows: nothing may be read until a frame's size is known

abbrev pub start : (size room : ℕ) → Spot
start size room = record { size = size; limit = 0; at = 0; left = room }

abbrev pub parse : {A : Type 0} → Grammar A → List ℕ → ℕ → Result A
parse g s room = run g s (start (length s) room)

abbrev pub rows_of : {A : Type 0} → Grammar A → List ℕ → ℕ → List Row
rows_of g s room = (parse g s room).rows

abbrev pub end_of : {A : Type 0} → Grammar A → List ℕ → ℕ → ℕ
end_of g s room = (parse g s room).spot.at

pub record Accepts {A : Type 0} (g : Grammar A) (s : List ℕ) (room : ℕ) : Type 0 where
  pub answer : A
  pub accepted : (parse g s room).end ≡ reached answer
