-- A walk: a cursor that went on piece by piece, and whose row was then written, read the grammar's `walk`. Assumes nothing.
use Prim.Native.Nat.{ℕ, ◌+◌, ◌-◌}
use native.Mathlib.Nat.{add-zero, add_assoc}
use native.Mathlib.Omega.{arith}
use mathlib.Core.Bool.{Bool, true, false}
use mathlib.Core.List.{List, [], ◌∷◌, ◌++◌}
use mathlib.Core.Path.{◌≡◌, refl, sym, ap, ◌∙◌}
use lib.Dec.{ltb}
use Rattle.std.specs.Prelude.{Result, Ok, Err}
use Rattle.syntax.specs.declared.Reader.{Reader}
use Rattle.syntax.specs.declared.Item.{Item}
use Rattle.syntax.specs.declared.Refusal.{Refusal}
use Rattle.syntax.specs.Grammar.{pieces}
use Rattle.syntax.specs.Run.{spanning, row, sum, Check, clear, stop, check, walk_check}
use Rattle.syntax.specs.Place.{Place, Outcome, got, no, spot, put, stand, except, and_then, exec}
use Rattle.syntax.specs.Reads.{place, closed, stepped, walked, Writes, Reads}
use Rattle.syntax.proofs.Sequence.{onward}

-- one walk and then another
then_then : (o : Outcome (Unit {0})) (f g : Place → Outcome (Unit {0})) → and_then (and_then o (λ _ q. f q)) (λ _ q. g q) ≡ and_then o (λ _ q. and_then (f q) (λ _ q. g q))
unfolding and_then
then_then (got a p) f g = refl
then_then (no x p) f g = refl

pub walked_append : (i : Item) (xs ys : List ℕ) (p : Place) → walked i (xs ++ ys) p ≡ and_then (walked i xs p) (λ _ q. walked i ys q)
unfolding walked and_then
walked_append i [] ys p = refl
walked_append i (w ∷ xs) ys p =
    ap (λ f. and_then (stepped i w p) f) (λ j _ q. walked_append i xs ys q j)
    ∙ sym (then_then (stepped i w p) (walked i xs) (walked i ys))

-- ---- what is left of a walk that began at bit `start`, from a place on: the pieces that are left, and then the row

abbrev left : Item → (start : ℕ) → List ℕ → Place → Outcome (Unit {0})
left i start ws p =
    let end = p.at + sum ws in
    except (check i p.limit (spot 0 p).left end ws p.at) p (λ _. got tt (put (row spanning i start (end - start) 0) p))

except_stand : {A : Type 0} (o : Check) (bit : ℕ) (p : Place) (rest : Unit {0} → Outcome A) → except o (stand bit p) rest ≡ except o p rest
unfolding except
except_stand clear bit p rest = refl
except_stand (stop why at) bit p rest = refl

module _ (i : Item) (start w : ℕ) (ws : List ℕ) (p : Place) where
  -- past a piece that fits, the same is left, with the piece's width in the sum
  fits : let end = p.at + sum (w ∷ ws) in
      left i start ws (stand (p.at + w) p)
      ≡ except (check i p.limit (spot 0 p).left end ws (p.at + w)) p (λ _. got tt (put (row spanning i start (end - start) 0) p))
  unfolding sum
  fits = rw (← add_assoc p.at w (sum ws)) (except_stand _ (p.at + w) p _)

  one_piece : and_then (stepped i w p) (λ _ q. left i start ws q) ≡ left i start (w ∷ ws) p
  unfolding check except and_then
  one_piece = go (ltb p.limit (p.at + w)) refl
    where
      go : (l : Bool) → ltb p.limit (p.at + w) ≡ l → and_then (stepped i w p) (λ _ q. left i start ws q) ≡ left i start (w ∷ ws) p
      go true f = simp f
      go false f = simp f fits

left_after : (i : Item) (start : ℕ) (ws : List ℕ) (p : Place) → and_then (walked i ws p) (λ _ q. closed i start q) ≡ left i start ws p
unfolding walked sum check and_then
left_after i start [] p = rw (add-zero p.at)
left_after i start (w ∷ ws) p =
    then_then (stepped i w p) (walked i ws) (closed i start)
    ∙ ap (λ f. and_then (stepped i w p) f) (λ j _ q. left_after i start ws q j)
    ∙ one_piece i start w ws p

-- a walk from where a reader stands, and the row that was written after it
module _ (ws : List ℕ) (i : Item) (s : List ℕ) (p : Place) where
  pieces_left : and_then (walked i ws p) (λ _ q. closed i p.at q) ≡ exec (pieces i ws) s p
  unfolding exec
  pieces_left =
      let width : p.at + sum ws - p.at ≡ sum ws = omega arith in
      left_after i p.at ws p ∙ ap (λ n. except (walk_check i (spot 0 p) ws) p (λ _. got tt (put (row spanning i p.at n 0) p))) width

module _ (ws : List ℕ) (i : Item) {c d : Reader} where
  pub closes : {r : Result (Unit {0}) Refusal} {e : Reader} → Writes (walked i ws) c (Ok tt) d → Writes (closed i c.at) d r e → Reads (pieces i ws) c r e
  unfolding and_then
  closes h w =
      record { same = w.same ∙ ap (λ o. and_then o (λ _ q. closed i c.at q)) h.same ∙ pieces_left ws i c.bytes.now (place c); on = onward h.on w.on }

  pub walk_stops : {x : Refusal} → Writes (walked i ws) c (Err x) d → Reads (pieces i ws) c (Err x) d
  unfolding and_then
  walk_stops h = record { same = ap (λ o. and_then o (λ _ q. closed i c.at q)) h.same ∙ pieces_left ws i c.bytes.now (place c); on = h.on }
