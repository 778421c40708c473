-- `mantissas::in_use::parts_in_use` meets its contract: LFE is last, where it is on. Assumes nothing.
use mathlib.Core.List.{append-nil}
use mathlib.Core.Path.{◌≡◌, sym, ◌∙◌}
use Prim.Native.Nat.{◌-◌}
use native.Mathlib.Omega.{arith}
use Rattle.mantissas.specs.Parts.{channel_parts, parts}
use Rattle.mantissas.specs.Sound.{listed}
use Rattle.mantissas.proofs.in_use.parts_in_use.Goals as goal

pub returns-then-lfeon-clause-result_value : goal.returns-then-lfeon-clause-result_value
unfolding parts channel_parts
returns-then-lfeon-clause-result_value c =
    let m : c.args.nfchans - c.loop-ch.ch ≡ 0 = omega arith in
    rw (c.push.ensures.result_value.0, sym (append-nil (listed c.loop-ch.order.parts)) ∙ (rw m at c.loop-ch.invariant.left), c.if-lfeon.true)

pub returns-else-lfeon-clause-result_value : goal.returns-else-lfeon-clause-result_value
unfolding parts channel_parts
returns-else-lfeon-clause-result_value c =
    let m : c.args.nfchans - c.loop-ch.ch ≡ 0 = omega arith in
    rw c.if-lfeon.false (sym (append-nil _) ∙ (rw m at c.loop-ch.invariant.left) ∙ sym (append-nil _))
