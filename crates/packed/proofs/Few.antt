-- A number's text is short, and so is all that a byte tells, so that a sum that is still about the room does not wrap. Assumes nothing.
use mathlib.Core.List.{List, [], ◌∷◌}
use Prim.Native.Nat.{ℕ, ◌-◌, ◌≤◌, zero-le}
use native.Mathlib.Omega.{arith}
use lib.Dec.{eqb, lit≤}
use lib.ListN.{length, length-append}
use Rattle.packed.specs.declared.Group.{Group}
use Rattle.packed.specs.declared.Group.TheVariants.{Going, Whole, Bad}
use Rattle.packed.specs.declared.Place.{Place}
use Rattle.packed.specs.declared.Place.TheVariants.{Count, Cell, Kind, Tail}
use Rattle.packed.specs.declared.Packed.{Packed}
use Rattle.packed.specs.declared.Packed.TheVariants.{At, Done, Halt}
use Rattle.listing.specs.Number.{separator, signed}
use Rattle.packed.specs.Packed.{group, say, spoken, tell}
use Rattle.listing.proofs.Decimals.{decimal_few}
use Rattle.packed.proofs.Cases.{by_test}

pub signed_few : (v : ℕ) → length (signed v) ≤ 20
unfolding signed
signed_few v = by_test (λ (l : List ℕ). length l ≤ 20) (eqb v 0) (λ _. lit≤ tt) (λ _. decimal_few (v - 1))

say_few : (p : Place) (v : ℕ) → length (say p v) ≤ 21
say_few Count v = zero-le
say_few (Cell rows left) v = omega (arith, length-append (signed v) (separator left ∷ []), signed_few v)
say_few Kind v = by_test (λ (l : List ℕ). length l ≤ 21) (eqb v 1) (λ _. lit≤ tt) (λ _. lit≤ tt)
say_few (Tail left) v = omega (arith, length-append (signed v) (separator left ∷ []), signed_few v)

spoken_few : (p : Place) (g : Group) → length (spoken p g) ≤ 21
spoken_few p (Going n k) = zero-le
spoken_few p (Whole v) = say_few p v
spoken_few p (Bad refusal) = zero-le

pub tell_few : (s : Packed) (b : ℕ) → length (tell s b) ≤ 21
tell_few (At p n k) b = spoken_few p (group n k b)
tell_few Done b = zero-le
tell_few (Halt refusal) b = zero-le
