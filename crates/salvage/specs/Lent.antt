-- What the caller of a salvage is told, and what the lent runs hold after it.
use Rattle.std.specs.Prelude.{List, [], ◌∷◌, ◌++◌, ◌≡◌, ℕ, ◌*◌, ◌/◌, ◌≤◌, ℤ, length, drop}
use Rattle.salvage.specs.Walk.{Entry, entry_width, Rooms, Kept, walked, salvage}
use Rattle.salvage.specs.Refusals.{Answer}

-- in front of a lent run, the rest of which is as it was
abbrev pub in_front : List ℕ → List ℕ → List ℕ
in_front xs run = xs ++ drop (length xs) run

-- kind, place and length of each entry
unfoldable pub numbers : List Entry → List ℕ
numbers [] = []
numbers (e ∷ es) = e.kind ∷ e.place ∷ e.size ∷ numbers es

abbrev pub rooms_in : (list out : List ℕ) → Rooms
rooms_in list out = record { entries = length list / entry_width; bytes = length out }

-- the answer, the list and the output
abbrev pub shown : (list out : List ℕ) → Kept → Answer × (List ℕ × List ℕ)
shown list out k =
    (record { refusal = k.refusal; entries = length k.entries; bytes = length k.output }, (in_front (numbers k.entries) list, in_front k.output out))

-- the answer to a call, and the list, the output and the field room after it
abbrev pub salvaged : (capture : List ℕ) (rows : List ℤ) (list out : List ℕ) → (Answer × (List ℕ × List ℕ)) × List ℤ
salvaged capture rows list out =
    let rooms = rooms_in list out in
    (shown list out (salvage capture rooms rows), (walked capture rooms rows).room)

-- ---- the contracts of the code's parts (no part of the definition)

-- the runs that were lent hold what is kept
pub record Holds (list out : List ℕ) (state : Answer × (List ℕ × List ℕ)) (k : Kept) : Type 0 where
  pub same : state ≡ shown list out k
  pub listed : length k.entries * entry_width ≤ length list
  pub written : length k.output ≤ length out

-- of what it finds kept in the lent runs the code makes what the definition's step makes of it
pub record Does (step : Rooms → Kept → Kept) (before after : Answer × (List ℕ × List ℕ)) : Type 0 where
  pub does : (list out : List ℕ) (k : Kept) → Holds list out before k → Holds list out after (step (rooms_in list out) k)
