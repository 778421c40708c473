-- The order of the slots, channel by channel: coupling directly after the first coupled channel. Assumes nothing.
use mathlib.Core.Bool.{Bool, true, false, ◌&&◌}
use mathlib.Core.List.{List, ◌∷◌}
use mathlib.Core.Path.{◌≡◌, refl}
use Prim.Native.Nat.{ℕ, suc, ◌+◌}
use lib.ListN.{get_or}
use Rattle.slots.specs.Slots.{CPL, first_coupled, past_coupled, coupled}
use Rattle.slots.specs.declared.Coupling.{Coupling}
use Rattle.mantissas.specs.Parts.{part, channel_parts}

and-true : (b : Bool) → (b && true) ≡ b
and-true true = refl
and-true false = refl

and-false : (b : Bool) → (b && false) ≡ false
and-false true = refl
and-false false = refl

module _ (c : Coupling) (ends : List ℕ) (ch n : ℕ) (waiting : Bool) where
  pub first_coupled_lem : (waiting && coupled c ch) ≡ true
      → channel_parts c ends ch (suc n) waiting
      ≡ part ch 0 (get_or ends ch 0) ∷ part CPL (first_coupled c.cplbegf) (past_coupled c.cplendf) ∷ channel_parts c ends (ch + 1) n false
  unfolding channel_parts
  first_coupled_lem e = rw (e, and-false waiting)

  pub not_first : (waiting && coupled c ch) ≡ false → channel_parts c ends ch (suc n) waiting ≡ part ch 0 (get_or ends ch 0) ∷ channel_parts c ends (ch + 1) n waiting
  unfolding channel_parts
  not_first e = rw (e, and-true waiting)
