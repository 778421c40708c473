-- What is accepted is written in two parts, the row count and what the reading tells.
use Rattle.std.proofs.Common.{◌≡◌, ◌+◌, ◌≤◌, min, ap, sym, ◌∙◌, length, arith}
use Rattle.packed.specs.declared.Text.TheVariants.{Line}
use Rattle.packed.specs.Machine.{after, told}
use Rattle.listing.specs.Number.{groups}
use Rattle.packed.specs.Text.{step, tell, verdict, count, text_verdict, text_packed}
use Rattle.packed.proofs.Answers.{converts, exact, parts}
use Rattle.packed.proofs.pack.Goals as goal

pub returns : goal.returns
returns c =
    let l = c.args.listing.now in
    let out = c.args.out.now in
    let seen = c.read-seen.ensures in
    let same : c.read-seen.new.out ≡ out = seen.1.0 in
    let read = c.in_ok-count.ensures in
    let k = sym read.1 ∙ ap count seen.0 in
    let put = rw (k, same) at c.put_groups-at.ensures in
    let a = groups (count (after step (Line 1) l)) in
    let b = told step tell (Line 1) l in
    let more : c.read-seen.result.told ≡ min (length b) (length out + 1) = omega (arith, seen.1.1) in
    let fits : c.capped-size.result ≤ length out = rw same at c.if-room-size.false in
    let n = exact a b (rw k at c.groups_size.ensures.0) more (rw same at c.capped-size.ensures) fits in
    converts (text_verdict l) (text_packed l) out (sym read.0 ∙ ap verdict seen.0) (omega (arith, n, fits)) n (parts out a b put.0 put.1 c.read.ensures.1.1)
