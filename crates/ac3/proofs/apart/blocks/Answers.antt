-- `ac3::apart::blocks` meets its contract: the claim is held against what the header is answered with for a room of this length. Assumes
-- nothing.
use mathlib.Core.Bool.{Bool, true, false, ◌&&◌, beq}
use mathlib.Core.Path.{◌≡◌, refl, ◌∙◌}
use lib.Dec.{eqb}
use Rattle.std.proofs.Math.Bool.{and_assoc}
use Rattle.ac3.specs.Apart.{same_flag, same_answer}
use Rattle.ac3.specs.declared.HeaderAnswer.{HeaderAnswer}
use Rattle.ac3.proofs.apart.blocks.Goals as goal

-- what is derived looks at the numbers one after the other
flags : (a b : Bool) → beq a b ≡ same_flag a b
flags true true = refl
flags true false = refl
flags false true = refl
flags false false = refl

alike : (a b : HeaderAnswer) → let h = a.header in let k = b.header in
    (eqb a.refusal b.refusal && (eqb a.rows b.rows && (eqb a.bit b.bit && (eqb a.name b.name && (eqb a.block b.block
    && (eqb h.bytes k.bytes && (eqb h.fscod k.fscod && (eqb h.bsid k.bsid && (eqb h.acmod k.acmod && beq h.lfeon k.lfeon)))))))))
    ≡ same_answer a b
alike a b = rw (flags a.header.lfeon b.header.lfeon) (simp and_assoc)

pub returns : goal.returns
returns c =
    let same : c.eq.result ≡ same_answer c.args.claim c.header_again-own.result = c.eq.ensures ∙ alike c.args.claim c.header_again-own.result in
    c.afresh_if.ensures ∙ rw (same, c.header_again-own.ensures c.args.rows.now refl) refl
