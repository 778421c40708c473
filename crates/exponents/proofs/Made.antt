-- One group: its number, and then what is made of it or why it is refused; and what is beside a result that `?` hands on. Assumes nothing.
use mathlib.Core.Path.{◌≡◌, refl}
use Prim.Native.Nat.{ℕ, ◌+◌, ◌*◌}
use Rattle.std.specs.Prelude.{Result, Ok, Err, IsErrAnd}
use Rattle.std.proofs.lemmas.Result.{err_from_is_err_and}
use Rattle.syntax.specs.declared.Reader.{Reader}
use Rattle.syntax.specs.declared.Item.{Item}
use Rattle.syntax.specs.declared.Refusal.{Refusal}
use Rattle.syntax.specs.Grammar.{Grammar, refuse, take}
use Rattle.syntax.specs.Place.{exec}
use Rattle.syntax.specs.Reads.{Reads, with_lent}
use Rattle.syntax.proofs.Sequence.{then, stops, finished, unchanged}
use Rattle.exponents.specs.Exponents.{Unpacked, group}
use Rattle.exponents.specs.Made.{of_number, answered}

-- what `?` hands on is the refusal that it was given, whatever is lent
module _ {A B : Type 0} (f : A → B) (r : Result A Refusal) {x : Refusal} (is : IsErrAnd r (λ y. y ≡ x)) where
  pub refused_beside : {g : Grammar B} {c d : Reader} → Reads g c (Err x) d → Reads g c (with_lent f r) d
  refused_beside q = let p = err_from_is_err_and r is in rw (p.1, p.2) q

  pub refused_as : {g : Grammar B} → g ≡ refuse x → g ≡ answered (with_lent f r)
  refused_as e = let p = err_from_is_err_and r is in rw (p.1, p.2) e

-- what reads nothing comes to its result
comes_to : {A : Type 0} {c : Reader} (r : Result A Refusal) → Reads (answered r) c r c
unfolding exec
comes_to (Ok a) = finished
comes_to (Err x) = record { same = refl; on = unchanged }

module _ (item : ℕ → Item) (bins first n : ℕ) (u : Unpacked) {c d : Reader} where
  -- a group whose number was read
  pub of_group : {at number : ℕ} {r : Result Unpacked Refusal} → at ≡ first + n * (3 * bins)
      → Reads (take (item n) 7) c (Ok number) d → of_number bins at u number ≡ answered r → Reads (group item bins first n u) c r d
  unfolding group
  of_group {at} {number} {r} bin read is =
      let rest : Reads (of_number bins at u number) d r d = rw is (comes_to r) in
      then _ read (rw bin at rest)

  -- or was not
  pub no_group : {x : Refusal} → Reads (take (item n) 7) c (Err x) d → Reads (group item bins first n u) c (Err x) d
  unfolding group
  no_group read = stops _ read
