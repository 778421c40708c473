-- The mode is read, then the gain words, and the bins go by the gains at their places.
use Rattle.std.proofs.Common.{◌≡◌, ◌+◌, ◌≤◌, sym, ◌∙◌, arith}
use Rattle.bits.proofs.Window.{value_lt}
use Rattle.aht.specs.Promises.{gain_place}
use Rattle.aht.specs.declared.outcome.Refusal.TheVariants.{BinsPastTheArray}
use Rattle.aht.proofs.Range.{range_past, range_inside}
use Rattle.aht.proofs.Walking.{exit}
use Rattle.aht.proofs.Whole.{bins_past, mode_past, words_read, words_refused}
use Rattle.aht.proofs.aht.Goals as goal

pub returns-in_err-hebap : goal.returns-in_err-hebap
returns-in_err-hebap c =
    let outside = range_past c.args.hebap.now c.args.first c.args.past c.min.ensures c.in_err-hebap.ensures.ok_part c.get.ensures.lookup in
    let why : c.in_err-hebap.field-0.0 ≡ BinsPastTheArray = cc (rw c.in_err-hebap.ensures.ok_part at c.in_err-hebap.ensures.value) in
    rw (exit c.from_residual.result c.in_err-hebap.field-0.0 c.from_residual.ensures.1, why) (sym (bins_past _ _ _ _ _ _ outside))

pub returns-in_err-gaqmod : goal.returns-in_err-gaqmod
returns-in_err-gaqmod c =
    let cut = range_inside c.args.hebap.now c.args.first c.args.past c.min.ensures c.in_ok-hebap.ensures.ok_part c.get.ensures.lookup in
    rw (exit c.from_residual-in_err-gaqmod.result c.in_err-gaqmod.field-0.0 c.from_residual-in_err-gaqmod.ensures.1, c.in_err-gaqmod.ensures.0)
    (sym (mode_past _ _ _ _ _ _ cut.0 (rw c.new-section.ensures.limit at c.in_err-gaqmod.ensures.1)))

pub overflow_cast-gaqmod : goal.overflow_cast-gaqmod
overflow_cast-gaqmod c = omega (arith, c.in_ok-gaqmod.ensures.0, value_lt c.new-section.result.bytes.now c.args.at 2)

pub returns-in_err-words_end : goal.returns-in_err-words_end
returns-in_err-words_end c =
    let cut = range_inside c.args.hebap.now c.args.first c.args.past c.min.ensures c.in_ok-hebap.ensures.ok_part c.get.ensures.lookup in
    rw (exit c.from_residual-in_err-words_end.result c.in_err-words_end.field-0.0 c.from_residual-in_err-words_end.ensures.1)
    (sym (words_refused _ _ _ _ _ _ cut.0 c.new-section.ensures.bytes c.new-section.ensures.limit cut.1 c.in_ok-gaqmod.ensures.1 c.in_ok-gaqmod.ensures.0 c.active_bins.ensures c.in_err-words_end.ensures))

pub bins-requires : goal.bins-requires
bins-requires c k h =
    let cut = range_inside c.args.hebap.now c.args.first c.args.past c.min.ensures c.in_ok-hebap.ensures.ok_part c.get.ensures.lookup in
    let read = words_read _ _ _ _ _ _ cut.0 c.new-section.ensures.bytes c.new-section.ensures.limit cut.1 c.in_ok-gaqmod.ensures.1 c.in_ok-gaqmod.ensures.0 c.active_bins.ensures c.in_ok-words_end.ensures in
    let near : gain_place (c.args.at + 2) c.in_ok-gaqmod.field-0 k ≤ c.new-section.result.limit = (read.held k (rw c.active_bins.ensures h)).1 in
    omega (arith, c.new-section.ensures.limit)

pub returns : goal.returns
returns c =
    let cut = range_inside c.args.hebap.now c.args.first c.args.past c.min.ensures c.in_ok-hebap.ensures.ok_part c.get.ensures.lookup in
    let read = words_read _ _ _ _ _ _ cut.0 c.new-section.ensures.bytes c.new-section.ensures.limit cut.1 c.in_ok-gaqmod.ensures.1 c.in_ok-gaqmod.ensures.0 c.active_bins.ensures c.in_ok-words_end.ensures in
    c.bins.ensures read.read (λ k h. (read.held k (rw c.active_bins.ensures h)).0) ∙ sym read.same
