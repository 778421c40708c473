-- `salvage::keep_frame` meets its contract: the frame goes to the front of what is left of the output, which is behind the frames that are
-- there. Assumes nothing.
use Rattle.std.proofs.Common.{refl, ◌+◌, ◌≤◌, length, arith}
use Rattle.salvage.proofs.Lent.{part_back}
use Rattle.salvage.proofs.Steps.{frame_unlisted, frame_unwritten, frame_kept}
use Rattle.salvage.proofs.keep_frame.Goals as goal

pub returns-then-list-done : goal.returns-then-list-done
returns-then-list-done c = frame_unlisted _ _ c.if-list-done.true

pub returns-then-out-done : goal.returns-then-out-done
returns-then-out-done c = frame_unwritten _ _ (omega (arith, c.if-list-done.false)) (omega (arith, c.requires, c.if-out-done.true))

pub returns : goal.returns
returns c =
    let a = c.args in
    let fits : a.done.now.bytes + length a.frame.now ≤ length a.out.now = omega (arith, c.requires, c.if-out-done.false) in
    frame_kept _ _ (omega (arith, c.if-list-done.false)) fits refl c.put_entry.ensures (part_back a.done.now.bytes a.out.now a.frame.now fits c.copy.ensures)
