-- What is accepted is written.
use Rattle.std.proofs.Common.{◌≡◌, ◌≤◌, ap, sym, ◌∙◌, length, arith}
use Rattle.packed.specs.Packed.{verdict, packed_verdict, packed_text}
use Rattle.packed.proofs.Answers.{converts}
use Rattle.packed.proofs.unpack.Goals as goal

pub returns : goal.returns
returns c =
    let p = c.args.packed.now in
    let out = c.args.out.now in
    let seen = c.read-seen.ensures in
    let same : c.read-seen.new.out ≡ out = seen.1.0 in
    let fits : c.read-seen.result.told ≤ length out = rw same at c.if-out-seen.false in
    converts (packed_verdict p) (packed_text p) out (sym c.in_ok-whole.ensures ∙ ap verdict seen.0) (omega (arith, seen.1.1, fits)) (omega (arith, seen.1.1, fits)) (rw same at c.read.ensures.1.1)
