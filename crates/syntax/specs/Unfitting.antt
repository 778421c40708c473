-- What did not fit, as a statement about a grammar: the name and the block that refusal 6 tells are those of the row that would have been
-- written next, and every other refusal tells neither. `proofs/Unfitting.antt` proves it of every grammar that gives no such refusal itself.
use Rattle.std.specs.Prelude.{Bool, ◌&&◌, not, List, ◌∷◌, ◌++◌, ◌≡◌, ℕ, ◌+◌, ◌<◌, T, eqb}
use Rattle.syntax.specs.declared.Item.{Item}
use Rattle.syntax.specs.declared.Refusal.{Refusal}
use Rattle.syntax.specs.Refusals.{name, block, number}
use Rattle.syntax.specs.Grammar.{Grammar, done, refuse, field, free, span, walk, frame, here}
use Rattle.syntax.specs.Run.{Row, refused, Result, parse}
use Rattle.syntax.specs.Unlimited.{read}

-- The rows of a reading without limits begin with those that were written, and the next one would end past the frame: its name and its
-- block are told.
pub record Next {A : Type 0} (unlimited : List Row) (r : Result A) (x : Refusal) : Type 0 where
  pub row : Row
  pub later : List Row
  pub goes_on : unlimited ≡ r.rows ++ row ∷ later
  pub past : r.spot.limit < row.at + row.width
  pub name : name x ≡ row.item.name
  pub block : block x ≡ row.item.block

-- neither a name nor a block is told
abbrev pub Neither : (name block : ℕ) → Type 0
Neither name block = (name ≡ 0) × (block ≡ 255)

module _ {A : Type 0} (g : Grammar A) where
  pub record Unfitting : Type 0 where
    pub next : (s : List ℕ) (room : ℕ) (x : Refusal) → (parse g s room).end ≡ refused x → number x ≡ 6 → Next (read g s 0).rows (parse g s room) x
    pub others : (s : List ℕ) (room : ℕ) (x : Refusal) → (parse g s room).end ≡ refused x → ¬ (number x ≡ 6) → Neither (name x) (block x)

-- ---- of which grammars

-- a value or the input's length was judged: another number than 6, no name and no block
abbrev pub is_judged : Refusal → Bool
is_judged x = not (eqb (number x) 6) && (eqb (name x) 0 && eqb (block x) 255)

-- such is every refusal that the grammar itself gives
pub data Judges {A : Type 0} : Grammar A → Type 0 where
  j_done : {a : A} → Judges (done a)
  j_refuse : {x : Refusal} → T (is_judged x) → Judges (refuse x)
  j_field : {i : Item} {w : ℕ} {k : ℕ → Grammar A} → ((v : ℕ) → Judges (k v)) → Judges (field i w k)
  j_free : {i : Item} {w : ℕ} {k : Grammar A} → Judges k → Judges (free i w k)
  j_span : {i : Item} {w : ℕ} {k : Grammar A} → Judges k → Judges (span i w k)
  j_walk : {i : Item} {ws : List ℕ} {k : Grammar A} → Judges k → Judges (walk i ws k)
  j_frame : {x : Refusal} {n : ℕ} {k : Grammar A} → T (is_judged x) → Judges k → Judges (frame x n k)
  j_here : {k : ℕ → Grammar A} → ((at : ℕ) → Judges (k at)) → Judges (here k)
