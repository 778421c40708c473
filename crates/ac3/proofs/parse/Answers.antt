-- `ac3::parse` meets its contract: the part that starts at the place is what is left when as many bytes are dropped. Assumes nothing.
use mathlib.Core.List.{List}
use mathlib.Core.Path.{◌≡◌}
use Prim.Native.Nat.{ℕ, ◌-◌}
use lib.IntN.{ℤ}
use lib.ListN.{length, drop, length-drop, drop_of_length-le}
use lib.Seq.{take_all}
use Rattle.std.proofs.Common.{arith}
use Rattle.ac3.specs.Frame.{answer}
use Rattle.ac3.specs.Promise.{call, Promised}
use Rattle.ac3.specs.Within.{Within}
use Rattle.ac3.specs.declared.Answer.{Answer}
use Rattle.ac3.proofs.Promise.{promised}
use Rattle.ac3.proofs.Told.{told_nothing}
use Rattle.ac3.proofs.Within.{kept_within}
use Rattle.ac3.proofs.parse.Goals as goal

-- the definition's answer keeps the promise, and what follows from it
kept : (capture : List ℕ) (place : ℕ) (room : List ℤ) {a : Answer} {after : List ℤ} → (a, after) ≡ answer capture place room
    → Promised (call capture place room) a after × Within (call capture place room) a after
kept capture place room e = let all = promised (call capture place room) e in (all, kept_within _ _ _ all)

pub returns-then-capture-place : goal.returns-then-capture-place
returns-then-capture-place c =
    let told : (c.refused.result, c.args.rows.now) ≡ answer c.args.capture.now c.args.place c.args.rows.now =
    rw (c.refused.ensures, drop_of_length-le c.args.capture.now {i = c.args.place} (omega arith)) (told_nothing _) in
    let all = kept c.args.capture.now c.args.place c.args.rows.now told in
    record { rows_after = told; promised = all.0; within = all.1 }

pub returns : goal.returns
returns c =
    let rest = drop c.args.place c.args.capture.now in
    let told : (c.syncframe.result, c.syncframe.new.rows) ≡ answer c.args.capture.now c.args.place c.args.rows.now =
    rw (take_all (length c.args.capture.now - c.args.place) rest (omega (arith, length-drop c.args.place c.args.capture.now))) at c.syncframe.ensures in
    let all = kept c.args.capture.now c.args.place c.args.rows.now told in
    record { rows_after = told; promised = all.0; within = all.1 }
