-- What a check says, from facts about numbers; and what a clear check says of the room. Assumes nothing.
use mathlib.Core.Bool.{Bool, true, false, cond}
use mathlib.Core.List.{List, [], ◌∷◌}
use mathlib.Core.Path.{◌≡◌, refl}
use Prim.Native.Nat.{ℕ, zero, suc, ◌+◌, ◌<◌}
use native.Mathlib.Omega.{arith}
use lib.Dec.{ltb}
use Rattle.syntax.specs.declared.Item.{Item}
use Rattle.syntax.specs.declared.Refusal.{Refusal}
use Rattle.syntax.specs.Refusals.{past, full}
use Rattle.syntax.specs.Run.{Check, clear, stop, room_check, check}
use Rattle.syntax.specs.Place.{Place, Outcome, no, except, stand}

-- there is no row left, or there is
pub room_none : (left bit : ℕ) → left ≡ 0 → room_check left bit ≡ stop full bit
unfolding room_check
room_none left bit none = rw none

pub room_some : (left bit : ℕ) → 0 < left → room_check left bit ≡ clear
unfolding room_check
room_some zero bit h = absurd (omega arith)
room_some (suc left) bit h = refl

-- a clear check: there is a row left
pub clear_room : (i : Item) (limit left when_full : ℕ) (ws : List ℕ) (at : ℕ) → check i limit left when_full ws at ≡ clear → 0 < left
unfolding check room_check
clear_room i limit zero when_full [] at e = let z : ◌≡◌ {A = ℕ} 0 1 = cc in omega arith
clear_room i limit (suc left) when_full [] at e = omega arith
clear_room i limit left when_full (w ∷ ws) at e = go (ltb limit (at + w)) (clear_room i limit left when_full ws (at + w)) e
  where
    go : (b : Bool) → (check i limit left when_full ws (at + w) ≡ clear → 0 < left)
        → cond b (stop (past i) at) (check i limit left when_full ws (at + w)) ≡ clear
        → 0 < left
    go true later e = let z : ◌≡◌ {A = ℕ} 0 1 = cc in omega arith
    go false later e = later e

-- what a check does to a run in place: `exec` at a field, a span, a walk or a frame is an `except`
module _ {A : Type 0} (p : Place) {c : Check} (rest : Unit {0} → Outcome A) where
  pub except_clear : c ≡ clear → except c p rest ≡ rest tt
  unfolding except
  except_clear e = rw e

  pub except_stop : {why : Refusal} {bit : ℕ} → c ≡ stop why bit → except c p rest ≡ no why (stand bit p)
  unfolding except
  except_stop e = rw e
