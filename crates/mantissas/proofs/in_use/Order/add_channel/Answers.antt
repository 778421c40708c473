-- `mantissas::in_use::Order::add_channel` meets its contract: the test says whether the channel is the first coupled one. Assumes nothing.
use mathlib.Core.List.{append_assoc}
use Rattle.mantissas.proofs.InOrder.{first_coupled_lem, not_first}
use Rattle.mantissas.proofs.in_use.Order.add_channel.Goals as goal

pub returns-then-self-coupling-clause-by_index : goal.returns-then-self-coupling-clause-by_index
returns-then-self-coupling-clause-by_index c n =
    let a = c.args in
    rw (c.push-then-self-coupling.ensures.result_value.0, c.push.ensures.result_value.0, c.past_coupled-end.ensures, c.first_coupled-start.ensures, first_coupled_lem a.coupling.now a.ends.now a.ch n a.self.now.waiting c.if-self-coupling.true)
    (simp append_assoc)

pub returns-else-self-coupling-clause-by_index : goal.returns-else-self-coupling-clause-by_index
returns-else-self-coupling-clause-by_index c n =
    let a = c.args in
    rw (c.push.ensures.result_value.0, not_first a.coupling.now a.ends.now a.ch n a.self.now.waiting c.if-self-coupling.false)
    (simp append_assoc)
