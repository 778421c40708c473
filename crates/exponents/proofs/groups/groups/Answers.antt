-- `exponents::groups::groups` meets its contract: a turn reads a group, or is refused. Assumes nothing.
use Rattle.syntax.specs.Grammar.{part_of}
use Rattle.syntax.proofs.Sequence.{took, turn, leaves, ends}
use Rattle.exponents.proofs.Made.{refused_beside, of_group, no_group}
use Rattle.exponents.proofs.groups.groups.Goals as goal

pub returns-in_err-group-clause-reads : goal.returns-in_err-group-clause-reads
returns-in_err-group-clause-reads c =
    refused_beside _ _ c.from_residual.ensures.1
    (leaves c.loop-n.invariant.0 c.loop-n-test.true (no_group _ _ _ _ _ (took c.part_of.ensures c.in_err-group.ensures.reads)))

pub returns-in_err-exponent-clause-reads : goal.returns-in_err-exponent-clause-reads
returns-in_err-exponent-clause-reads c =
    let set = c.args.set in
    let read = of_group (part_of set.blk set.name set.index) _ _ _ _ (rw c.bins_each-width.ensures) (took c.part_of.ensures c.in_ok-group.ensures.reads) c.in_err-exponent.ensures.group_value in
    refused_beside _ _ c.from_residual-in_err-exponent.ensures.1 (leaves c.loop-n.invariant.0 c.loop-n-test.true read)

pub loop-n-preserved : goal.loop-n-preserved
loop-n-preserved c =
    let set = c.args.set in
    let read = of_group (part_of set.blk set.name set.index) _ _ _ _ (rw c.bins_each-width.ensures) (took c.part_of.ensures c.in_ok-group.ensures.reads) c.in_ok-exponent.ensures.group_value in
    (turn c.loop-n.invariant.0 c.loop-n-test.true read, record { last = c.in_ok-exponent.ensures.last_bound; row = c.unpack_group.ensures.sound_row })

pub returns-clause-reads : goal.returns-clause-reads
returns-clause-reads c = ends c.loop-n.invariant.0 c.loop-n-test.false
