-- The words of the code's contracts; no part of the definition. A reader stands at a place, and a result beside a place is an outcome.
use Rattle.std.specs.Prelude.{ℕ, ◌+◌, ◌-◌, ◌≡◌, cond, List, [], ◌∷◌, length, ltb, Result, Ok, Err}
use Rattle.syntax.specs.declared.Item.{Item}
use Rattle.syntax.specs.declared.Refusal.{Refusal}
use Rattle.syntax.specs.declared.Reader.{Reader}
use Rattle.syntax.specs.Refusals.{past}
use Rattle.syntax.specs.Grammar.{Grammar}
use Rattle.syntax.specs.Run.{spanning, row, room_check, row_check}
use Rattle.syntax.specs.Place.{Place, Outcome, got, no, spot, put, stand, except, and_then, exec}

abbrev pub place : Reader → Place
place c = record { at = c.at; limit = c.limit; count = c.count; room = c.rows.now }

abbrev pub outcome : {A : Type 0} → Result A Refusal → Place → Outcome A
outcome (Ok a) p = got a p
outcome (Err x) p = no x p

-- it reads the same bytes into the same rows, of which there are as many
pub record Same (c d : Reader) : Type 0 where
  pub bytes : d.bytes ≡ c.bytes
  pub lent : d.rows.ghost_name ≡ c.rows.ghost_name
  pub long : length d.rows.now ≡ length c.rows.now

-- what a reader promises: from c on, g gives the result r, and the reader is d then
pub record Reads {A : Type 0} (g : Grammar A) (c : Reader) (r : Result A Refusal) (d : Reader) : Type 0 where
  pub same : outcome r (place d) ≡ exec g c.bytes.now (place c)
  pub on : Same c d

-- a result beside what was lent: the grammar's answer is made of both
abbrev pub with_lent : {A B : Type 0} → (A → B) → Result A Refusal → Result B Refusal
with_lent f (Ok a) = Ok (f a)
with_lent f (Err x) = Err x

-- ---- a row: of one piece; and where all pieces were found to fit

abbrev pub recorded : Item → (w v : ℕ) → Place → Outcome (Unit {0})
recorded i w v p = except (row_check i (spot 0 p) w) p (λ _. got tt (put (row spanning i p.at w v) p))

abbrev pub entered : Item → (start w v : ℕ) → Place → Outcome (Unit {0})
entered i start w v p = except (room_check (spot 0 p).left p.at) p (λ _. got tt (put (row spanning i start w v) p))

-- what is promised where a row is written, or a walk goes on, whatever the bytes are
pub record Writes (next : Place → Outcome (Unit {0})) (c : Reader) (r : Result (Unit {0}) Refusal) (d : Reader) : Type 0 where
  pub same : outcome r (place d) ≡ next (place c)
  pub on : Same c d

-- ---- a walk: the reader goes on piece by piece, and the row from the walk's start is written at its end

abbrev pub stepped : Item → ℕ → Place → Outcome (Unit {0})
stepped i w p = cond (ltb p.limit (p.at + w)) (no (past i) p) (got tt (stand (p.at + w) p))

unfoldable pub walked : Item → List ℕ → Place → Outcome (Unit {0})
walked i [] p = got tt p
walked i (w ∷ ws) p = and_then (stepped i w p) (λ _ q. walked i ws q)

abbrev pub closed : Item → (start : ℕ) → Place → Outcome (Unit {0})
closed i start p = entered i start (p.at - start) 0 p
