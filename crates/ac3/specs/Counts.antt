-- No part of the definition: what can be said of parts by looking through a grammar. The items of one name, block and index, a key, have
-- their parts in order; the others are not counted.
use Rattle.std.specs.Prelude.{Bool, not, cond, List, ◌≡◌, ℕ, ◌+◌, ◌<◌, ◌^◌, T, eqb, ltb}
use Rattle.syntax.specs.declared.Item.{Item}
use Rattle.syntax.specs.declared.Refusal.{Refusal}
use Rattle.syntax.specs.Grammar.{Grammar, done, refuse, field, free, span, walk, frame, here}
use Rattle.ac3.specs.Marked.{among}
use Rattle.ac3.specs.Parts.{parted, same_field}

-- every item that the grammar can meet is of a name without parts, and has none
pub data Unparted {A : Type 0} : Grammar A → Type 0 where
  u_done : {a : A} → Unparted (done a)
  u_refuse : {x : Refusal} → Unparted (refuse x)
  u_field : {i : Item} {w : ℕ} {f : ℕ → Grammar A} → T (not (among i.name parted)) → T (eqb i.part 255) → ((v : ℕ) → Unparted (f v)) → Unparted (field i w f)
  u_free : {i : Item} {w : ℕ} {g : Grammar A} → T (not (among i.name parted)) → T (eqb i.part 255) → Unparted g → Unparted (free i w g)
  u_span : {i : Item} {w : ℕ} {g : Grammar A} → T (not (among i.name parted)) → T (eqb i.part 255) → Unparted g → Unparted (span i w g)
  u_walk : {i : Item} {ws : List ℕ} {g : Grammar A} → T (not (among i.name parted)) → T (eqb i.part 255) → Unparted g → Unparted (walk i ws g)
  u_frame : {x : Refusal} {n : ℕ} {g : Grammar A} → Unparted g → Unparted (frame x n g)
  u_here : {f : ℕ → Grammar A} → ((at : ℕ) → Unparted (f at)) → Unparted (here f)

-- a name without parts has none, and every other has one below 255
abbrev pub labelled : Item → Bool
labelled i = cond (among i.name parted) (ltb i.part 255) (eqb i.part 255)

-- an item after n of the key, and how many there are with it
abbrev pub Right : (key : Item) (n : ℕ) → Item → Type 0
Right key n i = T (labelled i) × (T (same_field key i) → i.part ≡ n)

abbrev pub after : (key : Item) (n : ℕ) → Item → ℕ
after key n i = cond (same_field key i) (n + 1) n

-- After n items of the key every item that the grammar can meet is right; and what is answered, with how many there are then, has a
-- property.
pub data Counts {A : Type 0} (key : Item) (Q : A → ℕ → Type 0) : ℕ → Grammar A → Type 0 where
  c_done : {n : ℕ} {a : A} → Q a n → Counts key Q n (done a)
  c_refuse : {n : ℕ} {x : Refusal} → Counts key Q n (refuse x)
  c_field : {n : ℕ} {i : Item} {w : ℕ} {f : ℕ → Grammar A} → Right key n i → ((v : ℕ) → v < 2 ^ w → Counts key Q (after key n i) (f v)) → Counts key Q n (field i w f)
  c_free : {n : ℕ} {i : Item} {w : ℕ} {g : Grammar A} → Right key n i → Counts key Q (after key n i) g → Counts key Q n (free i w g)
  c_span : {n : ℕ} {i : Item} {w : ℕ} {g : Grammar A} → Right key n i → Counts key Q (after key n i) g → Counts key Q n (span i w g)
  c_walk : {n : ℕ} {i : Item} {ws : List ℕ} {g : Grammar A} → Right key n i → Counts key Q (after key n i) g → Counts key Q n (walk i ws g)
  c_frame : {n : ℕ} {x : Refusal} {bytes : ℕ} {g : Grammar A} → Counts key Q n g → Counts key Q n (frame x bytes g)
  c_here : {n : ℕ} {f : ℕ → Grammar A} → ((at : ℕ) → Counts key Q n (f at)) → Counts key Q n (here f)
