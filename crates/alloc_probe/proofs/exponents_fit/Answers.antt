-- `alloc_probe::exponents_fit` meets its contract. Assumes nothing.
use Rattle.std.proofs.Common.{◌≡◌, ◌∙◌, sym, ap, Bool, ◌&&◌, List, [], ℕ, suc, ◌+◌, ◌<◌, ℤ, length, drop, w16, rules, arith}
use mathlib.Core.Bool.{and-true, and_assoc, and_comm}
use lib.ListN.{drop_of_length-le}
use lib.Seq.{drop-cons}
use mir.ValLaws.{to_z-of_z}
use Rattle.alloc.specs.Allocation.{at}
use Rattle.alloc_probe.specs.Accepted.{is_exponent, exponents_fit}
use Rattle.alloc_probe.proofs.exponents_fit.Goals as goal
use Rattle.alloc_probe.proofs.exponents_fit.Goals.{then-is_exponent, else-is_exponent}

-- one exponent more
one_more : (es : List ℤ) (bin : ℕ) (fit t : Bool) → bin < length es → t ≡ (is_exponent (at es bin) && fit) → (fit && exponents_fit (drop bin es)) ≡ (t && (exponents_fit (drop (bin + 1) es)))
unfolding exponents_fit
one_more es bin fit t h e =
    let next : bin + 1 ≡ suc bin = omega arith in
    let rest = exponents_fit (drop (suc bin) es) in
    let here : exponents_fit (drop bin es) ≡ (is_exponent (at es bin) && rest) = ap exponents_fit (drop-cons es bin _ h) in
    rw (e, next, here) (sym (and_assoc fit (is_exponent (at es bin)) rest) ∙ ap (λ (b : Bool). (b && rest)) (and_comm fit (is_exponent (at es bin))))

pub loop-bin-preserved : goal.loop-bin-preserved
loop-bin-preserved c =
    let here = c.loop-bin in
    let es = c.args.exponents.now in
    let e = at es here.bin in
    let is : c.is_exponent.result ≡ is_exponent e = rw (to_z-of_z w16 e (search rules)) at c.is_exponent.ensures in
    let found : c.if-is_exponent.fit ≡ (is_exponent e && here.fit) =
    elim c.if-is_exponent.branch [
      | then-is_exponent w ↦ w.fit-is ∙ ap (λ (b : Bool). (b && here.fit)) (sym w.if-is_exponent.true ∙ is)
      | else-is_exponent w ↦ w.fit-is ∙ w.if-is_exponent.false ∙ ap (λ (b : Bool). (b && here.fit)) (sym w.if-is_exponent.false ∙ is)
    ] in
    (omega arith, here.invariant.1 ∙ one_more es here.bin here.fit c.if-is_exponent.fit (omega arith) found)

pub returns : goal.returns
unfolding exponents_fit
returns c =
    let here = c.loop-bin in
    let es = c.args.exponents.now in
    let none : drop here.bin es ≡ [] = drop_of_length-le es {i = here.bin} (omega arith) in
    sym (here.invariant.1 ∙ ap (λ (l : List ℤ). (here.fit && exponents_fit l)) none ∙ and-true here.fit)
