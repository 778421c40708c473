-- `exponents::sets::exponent_set` meets its contract: the first exponent and then the groups, all within the row. Assumes nothing.
use Rattle.syntax.proofs.Sequence.{then, stops, took, finished}
use Rattle.exponents.specs.Exponents.{exponent_set}
use Rattle.exponents.proofs.Bins.{within}
use Rattle.exponents.proofs.Made.{refused_beside}
use Rattle.exponents.proofs.sets.exponent_set.Goals as goal

pub returns-in_err-absexp-clause-reads : goal.returns-in_err-absexp-clause-reads
unfolding exponent_set
returns-in_err-absexp-clause-reads c =
    refused_beside _ _ c.from_residual.ensures.1 (stops _ (took (rw c.names-first_name.ensures at c.nth.ensures) c.in_err-absexp.ensures.reads))

pub all_groups-requires-clause-grouping : goal.all_groups-requires-clause-grouping
all_groups-requires-clause-grouping c =
    let set = c.args.set in
    let bounds = c.requires.sound_set in
    record { strategy = bounds.strategy; within = rw (c.first_grouped.ensures, c.group_count.ensures) (within set.slot set.strategy set.start set.end bounds.strategy bounds.start bounds.end) }

pub returns-in_err-all_groups-clause-reads : goal.returns-in_err-all_groups-clause-reads
unfolding exponent_set
returns-in_err-all_groups-clause-reads c =
    let groups = rw c.names-first_name.ensures at c.in_err-all_groups.ensures.reads in
    refused_beside _ _ c.from_residual-in_err-all_groups.ensures.1
    (rw (← c.first_grouped.ensures, ← c.group_count.ensures)
    (then _ (took (rw c.names-first_name.ensures at c.nth.ensures) c.in_ok-absexp.ensures.reads)
    (rw (← c.first_exponent-last.ensures.row_after) (stops _ groups))))

pub returns-clause-reads : goal.returns-clause-reads
unfolding exponent_set
returns-clause-reads c =
    let groups = rw c.names-first_name.ensures at c.in_ok-all_groups.ensures.reads in
    rw (← c.first_grouped.ensures, ← c.group_count.ensures)
    (then _ (took (rw c.names-first_name.ensures at c.nth.ensures) c.in_ok-absexp.ensures.reads)
    (rw (← c.first_exponent-last.ensures.row_after) (then _ groups finished)))
