-- No part of the definition: what can be said of a grammar by looking through it, and words for it that statements use. Exactly the
-- editable names are read as values that steer nothing, of 1 to 16 bits, exactly the spans as spans, by name and by role, and every refusal
-- has one of the twenty-three numbers, and tells no name and no block unless it is 6, which is not the grammar's to give. The mantissas are
-- walked, and where nothing is walked there are none.
use Rattle.std.specs.Prelude.{Bool, true, false, not, ◌&&◌, ◌||◌, List, [], ◌∷◌, ℕ, T, eqb, leb}
use Rattle.syntax.specs.declared.Item.{Item}
use Rattle.syntax.specs.declared.Refusal.{Refusal}
use Rattle.syntax.specs.Refusals.{number}
use Rattle.syntax.specs.declared.Role.{Role}
use Rattle.syntax.specs.Grammar.{Grammar, done, refuse, field, free, span, walk, frame, here}
use Rattle.syntax.specs.Run.{Kind, steering, unsteering, spanning, Row, Check, clear, stop, End, reached, refused}
use Rattle.syntax.specs.Names as Name
use Rattle.syntax.specs.Names.{editable, spans}
use Rattle.syntax.specs.Numbers.{role_numbers}
use Rattle.syntax.specs.Unfitting.{is_judged}

-- is the name in the list?
abbrev pub among : ℕ → List ℕ → Bool
among n [] = false
among n (m ∷ ms) = eqb n m || among n ms

abbrev pub kind_fits : Kind → ℕ → Bool
kind_fits steering name = not (among name editable || among name spans)
kind_fits unsteering name = among name editable
kind_fits spanning name = among name spans

-- the numbers of the roles Skipfld, Addbsi and Mantissas, and whether a role is one of the three
abbrev pub span_roles : List ℕ
span_roles = 13 ∷ 14 ∷ 15 ∷ []

abbrev pub span_role : Role → Bool
span_role role = among (role_numbers role).0 span_roles

abbrev pub role_fits : Kind → Role → Bool
role_fits steering role = not (span_role role)
role_fits unsteering role = not (span_role role)
role_fits spanning role = span_role role

-- a value that steers nothing has 1 to 16 bits
abbrev pub width_fits : Kind → ℕ → Bool
width_fits steering w = true
width_fits unsteering w = leb 1 w && leb w 16
width_fits spanning w = true

abbrev pub WidthsFit : List Row → Type 0
WidthsFit [] = Unit {0}
WidthsFit (r ∷ rs) = T (width_fits r.kind r.width) × WidthsFit rs

-- each of these rows is of its name's and its role's kind
abbrev pub KindsFit : List Row → Type 0
KindsFit [] = Unit {0}
KindsFit (r ∷ rs) = T (kind_fits r.kind r.item.name) × T (role_fits r.kind r.item.role) × KindsFit rs

abbrev pub number_fits : ℕ → Bool
number_fits n = leb 1 n && leb n 23

-- a refusal, if it is one, is numbered
abbrev pub StopFits : Check → Type 0
StopFits clear = Unit {0}
StopFits (stop x bit) = T (number_fits (number x))

abbrev pub EndFits : {A : Type 0} → End A → Type 0
EndFits (reached a) = Unit {0}
EndFits (refused x) = T (number_fits (number x))

-- every field that the grammar can meet is of its name's and its role's kind, and every refusal is numbered and judged; and whether anything
-- may be walked
pub data Marked {A : Type 0} (walks : Bool) : Grammar A → Type 0 where
  m_done : {a : A} → Marked walks (done a)
  m_refuse : {x : Refusal} → T (number_fits (number x)) → T (is_judged x) → Marked walks (refuse x)
  m_field : {i : Item} {w : ℕ} {k : ℕ → Grammar A} → T (kind_fits steering i.name) → T (role_fits steering i.role) → ((v : ℕ) → Marked walks (k v)) → Marked walks (field i w k)
  m_free : {i : Item} {w : ℕ} {k : Grammar A} → T (kind_fits unsteering i.name) → T (role_fits unsteering i.role) → T (width_fits unsteering w) → Marked walks k → Marked walks (free i w k)
  m_span : {i : Item} {w : ℕ} {k : Grammar A} → T (kind_fits spanning i.name) → T (not (eqb i.name Name.mantissas)) → T (role_fits spanning i.role) → Marked walks k → Marked walks (span i w k)
  m_walk : {i : Item} {ws : List ℕ} {k : Grammar A} → T walks → T (kind_fits spanning i.name) → T (role_fits spanning i.role) → Marked walks k → Marked walks (walk i ws k)
  m_frame : {x : Refusal} {n : ℕ} {k : Grammar A} → T (number_fits (number x)) → T (is_judged x) → Marked walks k → Marked walks (frame x n k)
  m_here : {k : ℕ → Grammar A} → ((at : ℕ) → Marked walks (k at)) → Marked walks (here k)
