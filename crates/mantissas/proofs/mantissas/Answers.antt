-- `mantissas::mantissas` meets its contract: what is kept is true from the start, and then a judge, and a walk that is closed by its row. Assumes
-- nothing.
use mathlib.Core.Path.{◌≡◌, ap, ◌∙◌}
use native.Mathlib.Omega.{arith}
use Rattle.std.specs.Prelude.{Ok, Err}
use Rattle.syntax.specs.Reads.{Writes, walked}
use Rattle.syntax.proofs.Sequence.{then, stops, refused, judged, standing, finished}
use Rattle.syntax.proofs.Walk.{closes, walk_stops}
use Rattle.mantissas.specs.Mantissas.{silent, none_open, widths, all_pointers, by_slot, mantissas}
use Rattle.mantissas.specs.Parts.{parts}
use Rattle.mantissas.proofs.Walks.{walked_from}
use Rattle.mantissas.proofs.mantissas.Goals as goal

pub returns-in_err-refuse_if-clause-reads : goal.returns-in_err-refuse_if-clause-reads
unfolding mantissas
returns-in_err-refuse_if-clause-reads c =
    let a = c.args in
    let is_silent = c.is_silent-silent.ensures ∙ ap (silent a.st.offsets) c.parts_in_use-ps.ensures.result_value in
    refused c.from_residual.ensures.1 (stops _ (judged _ _ (rw (← is_silent) c.in_err-refuse_if.ensures)))

pub returns-in_err-refuse_if-clause-kept : goal.returns-in_err-refuse_if-clause-kept
returns-in_err-refuse_if-clause-kept c = c.forget_new.ensures c.args.block.fscod c.args.exps.now c.requires.kept_unless_new

pub count_parts-width-requires-clause-kept : goal.count_parts-width-requires-clause-kept
count_parts-width-requires-clause-kept c = c.forget_new.ensures c.args.block.fscod c.args.exps.now c.requires.kept_unless_new

pub returns-in_err-walk-clause-reads : goal.returns-in_err-walk-clause-reads
unfolding mantissas
returns-in_err-walk-clause-reads c =
    let a = c.args in
    let ps = parts a.block.nfchans a.block.lfeon a.block.coupling a.block.ends in
    let is_silent = c.is_silent-silent.ensures ∙ ap (silent a.st.offsets) c.parts_in_use-ps.ensures.result_value in
    let ws = widths none_open (all_pointers a.block.fscod a.st a.exps.now (silent a.st.offsets ps) ps) in
    let walks : Writes (walked c.one_roled-item.result ws) a.r.now (Err c.in_err-walk.field-0.0) c.walk.new.r = rw (← is_silent, ← c.parts_in_use-ps.ensures.result_value) c.in_err-walk.ensures in
    refused c.from_residual-in_err-walk.ensures.1
    (then _ (judged _ _ (rw (← is_silent) c.in_ok-refuse_if.ensures)) (then _ standing (stops _ (rw c.one_roled-item.ensures at (walk_stops ws c.one_roled-item.result walks)))))

pub close-requires : goal.close-requires
close-requires c = omega (arith, walked_from _ _ c.in_ok-walk.ensures)

pub returns-in_err-close-clause-reads : goal.returns-in_err-close-clause-reads
unfolding mantissas
returns-in_err-close-clause-reads c =
    let a = c.args in
    let ps = parts a.block.nfchans a.block.lfeon a.block.coupling a.block.ends in
    let is_silent = c.is_silent-silent.ensures ∙ ap (silent a.st.offsets) c.parts_in_use-ps.ensures.result_value in
    let ws = widths none_open (all_pointers a.block.fscod a.st a.exps.now (silent a.st.offsets ps) ps) in
    let walks : Writes (walked c.one_roled-item.result ws) a.r.now (Ok tt) c.walk.new.r = rw (← is_silent, ← c.parts_in_use-ps.ensures.result_value) c.in_ok-walk.ensures in
    refused c.from_residual-in_err-close.ensures.1
    (then _ (judged _ _ (rw (← is_silent) c.in_ok-refuse_if.ensures)) (then _ standing (stops _ (rw c.one_roled-item.ensures at (closes ws c.one_roled-item.result walks c.in_err-close.ensures)))))

pub returns-clause-reads : goal.returns-clause-reads
unfolding mantissas
returns-clause-reads c =
    let a = c.args in
    let ps = parts a.block.nfchans a.block.lfeon a.block.coupling a.block.ends in
    let is_silent = c.is_silent-silent.ensures ∙ ap (silent a.st.offsets) c.parts_in_use-ps.ensures.result_value in
    let ws = widths none_open (all_pointers a.block.fscod a.st a.exps.now (silent a.st.offsets ps) ps) in
    let walks : Writes (walked c.one_roled-item.result ws) a.r.now (Ok tt) c.walk.new.r = rw (← is_silent, ← c.parts_in_use-ps.ensures.result_value) c.in_ok-walk.ensures in
    let bits : c.count_parts-width.result.bits ≡ by_slot ps ws = rw (← is_silent, ← c.parts_in_use-ps.ensures.result_value) c.count_parts-width.ensures.bits_value in
    rw bits
    (then _ (judged _ _ (rw (← is_silent) c.in_ok-refuse_if.ensures)) (then _ standing (then _ (rw c.one_roled-item.ensures at (closes ws c.one_roled-item.result walks c.in_ok-close.ensures)) finished)))
