-- `writer::numbers` meets its contract: a turn writes one more, and all that fit are all. Assumes nothing.
use Rattle.std.proofs.Common.{◌≡◌, ◌∙◌, ◌+◌, map, pos, take, get_or, set, to_z, of_z, w32, ap, sym, rules, arith}
use mathlib.Core.Path.{ap₂}
use lib.ListN.{get_or-map, length-map}
use mir.ValLaws.{to_z-of_z}
use Rattle.std.proofs.lemmas.List.Edits.{sets}
use Rattle.writer.proofs.Written.{store, whole}
use Rattle.writer.proofs.numbers.Goals as goal

pub loop-i-preserved : goal.loop-i-preserved
loop-i-preserved c =
    let i = c.loop-i.i in
    let all = map pos c.args.from.now in
    let shown : to_z w32 (of_z w32 c.from.result) ≡ get_or all i (pos 0) = to_z-of_z w32 c.from.result (search rules) ∙ c.from.ensures ∙ sym (get_or-map (λ x. pos x) c.args.from.now i 0) in
    let place : i ≡ 0 + i = omega arith in
    ap (λ l. set l i (to_z w32 (of_z w32 c.from.result))) c.loop-i.invariant
    ∙ ap₂ (set (sets c.args.run.now 0 (take i all))) place shown
    ∙ store all c.args.run.now 0 i (pos 0) (omega (arith, length-map c.args.from.now (λ x. pos x)))

pub returns : goal.returns
returns c =
    c.loop-i.invariant ∙ whole (map pos c.args.from.now) c.args.run.now 0 c.loop-i.i (omega (arith, length-map c.args.from.now (λ x. pos x)))
