-- `mantissas::memos::counts_of` meets its contract: what is kept was counted from the same, or is counted anew and kept. Assumes nothing.
use mathlib.Core.List.{[]}
use mathlib.Core.Path.{◌∙◌}
use lib.ListN.{get_or}
use Rattle.mantissas.proofs.Counted.{pointers_at_most}
use Rattle.mantissas.proofs.Kept.{kept_counts, kept_new, keeps}
use Rattle.mantissas.proofs.memos.counts_of.Goals as goal

pub returns-then-same_basis-clause-value : goal.returns-then-same_basis-clause-value
returns-then-same_basis-clause-value c =
    let a = c.args in
    c.counts_in.ensures
    ∙ kept_counts a.by.now.fscod a.by.now.st a.exps.now a.p (rw c.deltas_of.ensures.0 at c.if-deltas_of-ne0.false) (get_or a.memos.now a.p.slot []) (c.requires.kept.each a.p.slot c.requires.sound_setting.2.slot)
    (rw c.memo.ensures at (c.same_basis.ensures c.if-same_basis.true))

pub returns-then-same_basis-clause-at_most : goal.returns-then-same_basis-clause-at_most
returns-then-same_basis-clause-at_most c =
    let a = c.args in
    let is =
    c.counts_in.ensures
    ∙ kept_counts a.by.now.fscod a.by.now.st a.exps.now a.p (rw c.deltas_of.ensures.0 at c.if-deltas_of-ne0.false) (get_or a.memos.now a.p.slot []) (c.requires.kept.each a.p.slot c.requires.sound_setting.2.slot)
    (rw c.memo.ensures at (c.same_basis.ensures c.if-same_basis.true)) in
    rw is (pointers_at_most a.by.now.fscod a.by.now.st a.exps.now a.p c.requires.sound_setting.2.end)

pub returns-clause-kept_2 : goal.returns-clause-kept_2
returns-clause-kept_2 c =
    let a = c.args in
    let none = rw c.deltas_of.ensures.0 at c.if-deltas_of-ne0.false in
    rw c.memo-2.ensures
    (keeps a.by.now.fscod a.p.slot a.memos.now a.exps.now _ c.requires.sound_setting.2.slot c.requires.kept (kept_new a.by.now.fscod a.by.now.st a.exps.now a.p none c.count_slot-counts.result c.count_slot-counts.ensures.value))
