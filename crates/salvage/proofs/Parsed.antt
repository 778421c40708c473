-- What the walk asks of every parse: it moves on by a frame that is accepted and stays within the capture, and the answer owes to the room
-- its length alone. Each follows from what is proved of parsing. Assumes nothing.
use mathlib.Core.Bool.{Bool, true, false}
use mathlib.Core.List.{List}
use mathlib.Core.Path.{◌≡◌, refl, ap}
use Prim.Native.Nat.{ℕ, ◌+◌, ◌/◌, ◌≤◌, ◌<◌}
use native.Mathlib.Omega.{arith}
use borrow.Author.Tests.{eqb-true, eqb-false}
use lib.Dec.{eqb}
use lib.IntN.{ℤ}
use lib.ListN.{length, length-drop}
use Rattle.syntax.specs.Numbers.{row_width}
use Rattle.ac3.specs.Frame.{answer}
use Rattle.ac3.specs.Promise.{Call, call}
use Rattle.ac3.specs.declared.Answer as parse
use Rattle.ac3.proofs.Promise.{promised}
use Rattle.ac3.proofs.Within.{kept_within}
use Rattle.rows.proofs.Framed.{accepted_framed, rows_count}

module _ (capture : List ℕ) (place : ℕ) (room : List ℤ) where
  abbrev c : Call
  c = call capture place room

  abbrev told : parse.Answer
  told = (answer capture place room).0

  abbrev size : ℕ
  size = told.summary.header.bytes

  pub moves : told.refusal ≡ 0 → 0 < size
  moves ok = omega (arith, (accepted_framed c ok).some)

  -- a refusal tells no bytes
  pub ends_inside : place ≤ length capture → place + size ≤ length capture
  ends_inside inside = go (eqb told.refusal 0) refl
    where
      go : (b : Bool) → eqb told.refusal 0 ≡ b → place + size ≤ length capture
      go true e = omega (arith, (accepted_framed c (eqb-true _ 0 e)).inside, length-drop place capture)
      go false e = omega (arith, ap (λ s. s.header.bytes) ((promised c refl).without_summary (eqb-false _ 0 e)))

  pub same_room : length (answer capture place room).1 ≡ length room
  same_room = (kept_within c told (answer capture place room).1 (promised c refl)).long

pub same_answer : (capture : List ℕ) (place : ℕ) (room other : List ℤ) → length room ≡ length other → (answer capture place room).0 ≡ (answer capture place other).0
same_answer capture place room other long = (rows_count (call capture place other) (call capture place room) refl (ap (λ n. n / row_width) long)).answer
