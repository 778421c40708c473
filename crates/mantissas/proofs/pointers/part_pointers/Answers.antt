-- `mantissas::pointers::part_pointers` meets its contract: the test says whether every pointer is 0, and else the allocation is asked for what the
-- definition says. Assumes nothing.
use mathlib.Core.List.{[]}
use native.Mathlib.Omega.{arith}
use lib.ListN.{get_or, replicate}
use Rattle.tables.specs.Tables.{bap}
use Rattle.alloc.proofs.Laws.{pointers_back, pointers_below}
use Rattle.mantissas.specs.Mantissas.{pointers}
use Rattle.mantissas.proofs.Allocated.{none_below, silent_lists}
use Rattle.mantissas.proofs.pointers.part_pointers.Goals as goal

pub returns-then-not-by-clause-end_value : goal.returns-then-not-by-clause-end_value
unfolding pointers
returns-then-not-by-clause-end_value c =
    let a = c.args in
    rw (c.if-not-by.true, c.pointers_of.ensures, c.parameters_of.ensures.0, c.zeros-pointers.ensures) (pointers_back (replicate 256 0) bap (get_or a.exps.now a.p.slot []) _ (omega (arith, c.requires.2.end)))

pub returns-then-not-by-clause-entries : goal.returns-then-not-by-clause-entries
returns-then-not-by-clause-entries c =
    let a = c.args in
    rw (c.pointers_of.ensures, c.zeros-pointers.ensures) (pointers_below (replicate 256 0) (get_or a.exps.now a.p.slot []) _ (none_below 256))

pub returns-else-not-by-clause-end_value : goal.returns-else-not-by-clause-end_value
returns-else-not-by-clause-end_value c = rw (c.if-not-by.false, c.zeros-pointers.ensures) (silent_lists 256 c.args.p.start c.args.p.end)

pub returns-else-not-by-clause-entries : goal.returns-else-not-by-clause-entries
returns-else-not-by-clause-entries c = rw c.zeros-pointers.ensures (none_below 256)
