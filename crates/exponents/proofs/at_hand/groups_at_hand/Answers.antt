-- `exponents::at_hand::groups_at_hand` meets its contract: a turn reads the group that is at hand. Assumes nothing.
use mathlib.Core.Path.{◌≡◌}
use native.Mathlib.Omega.{arith}
use Prim.Native.Nat.{◌*◌}
use Rattle.bits.proofs.Window.{value_lt}
use Rattle.syntax.specs.Grammar.{part_of}
use Rattle.syntax.proofs.Sequence.{turn, leaves, ends}
use Rattle.exponents.specs.Exponents.{bins_each}
use Rattle.exponents.proofs.AtHand.{room, taken}
use Rattle.exponents.proofs.Bins.{group_fits, group_numbered}
use Rattle.exponents.proofs.Made.{of_group}
use Rattle.exponents.proofs.at_hand.groups_at_hand.Goals as goal

pub write_group-requires : goal.write_group-requires
write_group-requires c =
    let set = c.args.set in
    let n = c.loop-n.n in
    let hand = c.requires.at_hand in
    let fits = group_fits set.first n set.count (3 * bins_each set.strategy) c.loop-n-test.true c.requires.grouping.within in (
      room hand n c.loop-n-test.true c.loop-n.rows c.loop-n.invariant.0.on.long,
      (group_numbered set.first n set.strategy c.requires.grouping.strategy fits, (omega (arith, hand.frame, c.loop-n-test.true), rw c.get_at_hand-group.ensures (value_lt _ _ 7))),
    )

pub unpack_group-requires-clause-strategy_bound : goal.unpack_group-requires-clause-strategy_bound
unpack_group-requires-clause-strategy_bound c = (c.requires.grouping.strategy, rw c.get_at_hand-group.ensures (value_lt _ _ 7))

pub returns-in-Err-clause-reads : goal.returns-in-Err-clause-reads
returns-in-Err-clause-reads c =
    let set = c.args.set in
    let l = c.loop-n in
    let item = part_of set.blk set.name set.index in
    let took = taken c.requires.at_hand l.n c.loop-n-test.true l.rows l.invariant.0.on.long (item l.n) c.get_at_hand-group.ensures c.write_group.ensures c.write_group.auto.rows in
    let read = of_group item _ _ _ _ (rw c.bins_each-width.ensures) took c.in-Err.ensures.group_value in
    rw c.go_past.ensures (leaves l.invariant.0 c.loop-n-test.true read)

pub loop-n-preserved : goal.loop-n-preserved
loop-n-preserved c =
    let set = c.args.set in
    let l = c.loop-n in
    let item = part_of set.blk set.name set.index in
    let took = taken c.requires.at_hand l.n c.loop-n-test.true l.rows l.invariant.0.on.long (item l.n) c.get_at_hand-group.ensures c.write_group.ensures c.write_group.auto.rows in
    let read = of_group item _ _ _ _ (rw c.bins_each-width.ensures) took c.in-Ok.ensures.group_value in
    (turn l.invariant.0 c.loop-n-test.true read, record { last = c.in-Ok.ensures.last_bound; row = c.unpack_group.ensures.sound_row })

pub returns-clause-reads : goal.returns-clause-reads
returns-clause-reads c =
    let all : c.loop-n.n ≡ c.args.set.count = omega (arith, c.loop-n.auto.n-end, c.loop-n-test.false) in
    rw c.go_past-2.ensures (rw all at (ends c.loop-n.invariant.0 c.loop-n-test.false))
