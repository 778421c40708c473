-- `salvage::is_sync` meets its contract: two bytes spell the word, so it is 0B 77 exactly when they are. Assumes nothing.
use Rattle.std.proofs.Common.{sym, ◌∙◌, ◌+◌, arith}
use borrow.Author.Tests.{ne_eqb}
use Rattle.salvage.proofs.Unsynced.{synced, not_synced}
use Rattle.salvage.proofs.is_sync.Goals as goal

pub returns-then-capture-place-eq11 : goal.returns-then-capture-place-eq11
returns-then-capture-place-eq11 c =
    let a = c.args in
    let byte = c.type_inv.capture in
    sym (synced a.capture.now a.place (omega (arith, byte a.place)) (omega (arith, byte (a.place + 1))) c.if-capture-place-eq11.true)

pub returns-else-capture-place-eq11 : goal.returns-else-capture-place-eq11
returns-else-capture-place-eq11 c =
    let a = c.args in
    let byte = c.type_inv.capture in
    ne_eqb _ _ c.if-capture-place-eq11.false ∙ sym (not_synced a.capture.now a.place (omega (arith, byte a.place)) (omega (arith, byte (a.place + 1))) c.if-capture-place-eq11.false)
