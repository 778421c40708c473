-- `mantissas::memos::forget_new` meets its contract: what is kept of a slot with new exponents is forgotten, and else it is true. Assumes nothing.
use mathlib.Core.Path.{sym, ◌∙◌}
use Rattle.mantissas.proofs.Kept.{all_done, slot_forgotten, slot_left}
use Rattle.mantissas.proofs.memos.forget_new.Goals as goal
use Rattle.mantissas.proofs.memos.forget_new.Goals.{then-is_new, else-is_new}

pub loop-slot-preserved : goal.loop-slot-preserved
loop-slot-preserved c fscod exps kept =
    let before = c.loop-slot.invariant fscod exps kept in
    elim c.if-is_new.branch [
      | then-is_new w ↦ rw w.memos-is (slot_forgotten before c.loop-slot-test.true)
      | else-is_new w ↦ rw w.memos-is (slot_left before c.loop-slot-test.true (sym c.is_new.ensures ∙ w.if-is_new.false))
    ]

pub returns : goal.returns
returns c fscod exps kept = all_done c.loop-slot-test.false (c.loop-slot.invariant fscod exps kept)
