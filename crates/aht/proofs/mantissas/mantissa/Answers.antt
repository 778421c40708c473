-- By what was read.
use Rattle.std.proofs.Common.{◌-◌, sym, ◌∙◌, arith, eq-eqb}
use Rattle.std.proofs.lemmas.Grind.{common_steps}
use Rattle.bits.proofs.Window.{power}
use Rattle.aht.specs.Aht.{mantissa}
use Rattle.aht.proofs.Walking.{exit}
use Rattle.aht.proofs.Tags.{mantissa_past, mantissa_tag, mantissa_small}
use Rattle.aht.proofs.mantissas.mantissa.Goals as goal

pub returns-then-gain-eq1 : goal.returns-then-gain-eq1
unfolding mantissa
returns-then-gain-eq1 c = rw (eq-eqb c.args.gain 1 c.if-gain-eq1.true) c.pass.ensures

pub returns-in_err-value : goal.returns-in_err-value
returns-in_err-value c =
    rw (exit c.from_residual.result c.in_err-value.field-0.0 c.from_residual.ensures.1, c.in_err-value.ensures.0) (sym (mantissa_past _ _ _ _ _ _ c.if-gain-eq1.false c.small_bits-small.ensures c.in_err-value.ensures.1))

pub returns-then-value-small : goal.returns-then-value-small
returns-then-value-small c =
    let tag = sym c.in_ok-value.ensures.0 ∙ c.if-value-small.true ∙ power (c.small_bits-small.result - 1) (grind (arith, common_steps)) in
    c.pass-then-value-small.ensures
    ∙ (rw c.large_bits.ensures (sym (mantissa_tag _ _ _ _ c.args.m _ c.if-gain-eq1.false c.small_bits-small.ensures c.in_ok-value.ensures.1 tag)))

pub returns : goal.returns
returns c =
    sym (mantissa_small _ _ _ _ c.args.m _ c.if-gain-eq1.false c.small_bits-small.ensures c.in_ok-value.ensures.1
    (λ tag. c.if-value-small.false (c.in_ok-value.ensures.0 ∙ tag ∙ sym (power (c.small_bits-small.result - 1) (grind (arith, common_steps))))))
