-- `channels::coordinates::coordinates` meets its contract: the invariant says which bands are left. Assumes nothing.
use Rattle.syntax.proofs.Sequence.{refused, then, stops, noticed, turn, leaves, ends}
use Rattle.channels.specs.Coupling.{coordinate}
use Rattle.channels.proofs.coordinates.coordinates.Goals as goal

pub returns-in_err-note : goal.returns-in_err-note
unfolding coordinate
returns-in_err-note c =
    refused c.from_residual.ensures.1 (leaves c.loop-bnd.invariant c.loop-bnd-test.true (stops _ (noticed c.part_of.ensures c.in_err-note.ensures)))

pub returns-in_err-note-2 : goal.returns-in_err-note-2
unfolding coordinate
returns-in_err-note-2 c =
    refused c.from_residual-in_err-note-2.ensures.1
    (leaves c.loop-bnd.invariant c.loop-bnd-test.true
    (then _ (noticed c.part_of.ensures c.in_ok-note.ensures)
    (noticed c.part_of-in-loop-bnd.ensures c.in_err-note-2.ensures)))

pub loop-bnd-preserved : goal.loop-bnd-preserved
unfolding coordinate
loop-bnd-preserved c =
    turn c.loop-bnd.invariant c.loop-bnd-test.true
    (then _ (noticed c.part_of.ensures c.in_ok-note.ensures)
    (noticed c.part_of-in-loop-bnd.ensures c.in_ok-note-2.ensures))

pub returns : goal.returns
returns c = ends c.loop-bnd.invariant c.loop-bnd-test.false
