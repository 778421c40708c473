-- Lines under a test: where it holds they are read, and where it does not nothing is. Assumes nothing.
use mathlib.Core.Bool.{Bool, true, false}
use mathlib.Core.Path.{◌≡◌}
use Rattle.std.specs.Prelude.{Result, Ok, Err, ℕ}
use Rattle.syntax.specs.declared.Reader.{Reader}
use Rattle.syntax.specs.declared.Item.{Item}
use Rattle.syntax.specs.declared.Refusal.{Refusal}
use Rattle.syntax.specs.Grammar.{Grammar, done, field, ◌>>=◌, ◌>>◌, note, when, read_if}
use Rattle.syntax.specs.Reads.{Reads}
use Rattle.syntax.proofs.Sequence.{then, stops, finished}

module _ {A : Type 0} (b : Bool) (kept : A) (g : Grammar A) {c : Reader} where
  pub there : {r : Result A Refusal} {d : Reader} → b ≡ true → Reads g c r d → Reads (read_if b kept g) c r d
  there e r = rw e r

  pub absent : b ≡ false → Reads (read_if b kept g) c (Ok kept) c
  absent e = rw e finished

module _ (b : Bool) (g : Grammar (Unit {0})) {c : Reader} where
  pub present : {r : Result (Unit {0}) Refusal} {d : Reader} → b ≡ true → Reads g c r d → Reads (when b g) c r d
  present e r = rw e r

  pub omitted : b ≡ false → Reads (when b g) c (Ok tt) c
  omitted e = rw e finished

-- an element that a constructor made is the grammar's, under a test too
pub noticed_if : (b : Bool) {i j : Item} (w : ℕ) {c d : Reader} {r : Result (Unit {0}) Refusal} → i ≡ j → Reads (when b (note i w)) c r d → Reads (when b (note j w)) c r d
noticed_if b w e r = rw (← e) r

pub took_if : {A : Type 0} (b : Bool) (kept : A) (w : ℕ) (k : ℕ → Grammar A) {i j : Item} {c d : Reader} {r : Result A Refusal}
    → i ≡ j → Reads (read_if b kept (field i w k)) c r d → Reads (read_if b kept (field j w k)) c r d
took_if b kept w k e r = rw (← e) r

-- two lines under one test are read like two lines under a test each
module _ (b : Bool) (g h : Grammar (Unit {0})) {c d : Reader} where
  pub under : {r : Result (Unit {0}) Refusal} {e : Reader} → Reads (when b g) c (Ok tt) d → Reads (when b h) d r e → Reads (when b (g >> h)) c r e
  unfolding ◌>>=◌
  under r q = go b r q
    where
      go : (b : Bool) {r : Result (Unit {0}) Refusal} {e : Reader} → Reads (when b g) c (Ok tt) d → Reads (when b h) d r e → Reads (when b (g >> h)) c r e
      go true r q = then _ r q
      go false r q = then {g = done (tt {0})} (λ _. done (tt {0})) r q

  pub under_stops : {x : Refusal} → Reads (when b g) c (Err x) d → Reads (when b (g >> h)) c (Err x) d
  unfolding ◌>>=◌
  under_stops r = go b r
    where
      go : (b : Bool) {x : Refusal} → Reads (when b g) c (Err x) d → Reads (when b (g >> h)) c (Err x) d
      go true r = stops _ r
      go false r = stops {g = done (tt {0})} (λ _. done (tt {0})) r
