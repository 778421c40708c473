-- What did not fit is told of the grammar; and the answer tells the grammar's refusal, unless it is accepted. Assumes nothing.
use mathlib.Core.Path.{◌≡◌, refl, sym, ◌∙◌}
use native.Mathlib.Omega.{arith}
use Rattle.syntax.specs.declared.Refusal.{Refusal}
use Rattle.syntax.specs.Run.{End, reached, refused}
use Rattle.syntax.specs.Unfitting.{Next}
use Rattle.ac3.specs.Frame.{Audio}
use Rattle.ac3.specs.Promise.{Call, input, room_for, Reaches, Tells, answer_to}
use Rattle.ac3.specs.Unfitting.{unlimited, WhatDidNotFit}
use Rattle.ac3.proofs.Marked.{frame_unfitting}
use Rattle.ac3.proofs.Promise.{result, promised}

module _ (c : Call) where
  next_row : (answer_to c).0.refusal ≡ 6 → (x : Refusal) × Next (unlimited c) (result c) x × Tells (answer_to c).0 x
  next_row six = go (result c).end refl
    where
      go : (e : End Audio) → (result c).end ≡ e → (x : Refusal) × Next (unlimited c) (result c) x × Tells (answer_to c).0 x
      go (reached a) is =
          let ok : Reaches c = record { answer = a; accepted = is } in
          absurd (omega (arith, six, (promised c refl).complete ok))
      go (refused x) is =
          let told = (promised c refl).which x is in
          (x, frame_unfitting.next (input c) (room_for c) x is (sym told.refusal ∙ six), told)

pub what_did_not_fit : WhatDidNotFit
what_did_not_fit = record { next = next_row; others = λ c. (promised c refl).others }
