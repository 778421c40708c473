-- Any two answers that a promise allows coincide: one law, and an instance of it for each kind of promise that public functions make.
-- docs/PROMISES.md says which function has which.
use Rattle.std.specs.Prelude.{Bool, cond, List, ◌≡◌, ℕ, ℤ, length, get_or, Result, Ok, Err}
use Rattle.syntax.specs.declared.Reader.{Reader}
use Rattle.syntax.specs.declared.Refusal.{Refusal}
use Rattle.syntax.specs.Grammar.{Grammar}
use Rattle.syntax.specs.Place.{Place, Outcome}
use Rattle.syntax.specs.Reads.{place, Reads, Writes}
use Rattle.ac3.specs.Promise.{Call, Promised}
use Rattle.ac3.specs.declared.Answer.{Answer}

-- the law: whatever is allowed is one
abbrev pub One : {X : Type 0} → (X → Type 0) → Type 0
One {X} Allowed = (x y : X) → Allowed x → Allowed y → x ≡ y

-- the same place, the numbers of the room among it, and the same result, a refusal or not
pub record SameReading {A : Type 0} (a b : Result A Refusal) (c d : Reader) : Type 0 where
  pub place : place c ≡ place d
  pub result : a ≡ b

pub record OneAnswer : Type 1 where
  -- an equation: of an answer, or of an answer with all that was lent
  pub equation : {X : Type 0} (y : X) → One (λ (x : X). x ≡ y)
  -- an equation at every entry of an array
  pub entries : {X : Type 0} (n : ℕ) (none : X) (f : ℕ → X) → One (λ (l : List X). (length l ≡ n) × ((i : ℕ) → get_or l i none ≡ f i))
  -- readers, and what writes a row
  pub reads : {A : Type 0} (g : Grammar A) (c₀ : Reader) (a b : Result A Refusal) (c d : Reader) → Reads g c₀ a c → Reads g c₀ b d → SameReading a b c d
  pub writes : (next : Place → Outcome (Unit {0})) (c₀ : Reader) (a b : Result (Unit {0}) Refusal) (c d : Reader)
      → Writes next c₀ a c → Writes next c₀ b d → SameReading a b c d
  -- judges
  pub judges : (bad : Bool) (x : Refusal) → One (λ (r : Result (Unit {0}) Refusal). r ≡ cond bad (Err x) (Ok tt))
  -- the parser's promise, by itself
  pub promises : (c : Call) → One (λ (x : Answer × List ℤ). Promised c x.0 x.1)
