-- `exponents::by_slot::channel_exponents` meets its contract: a `then` for each call. Assumes nothing.
use Rattle.syntax.proofs.Sequence.{then, stops, finished}
use Rattle.syntax.proofs.Under.{noticed_if}
use Rattle.exponents.specs.Exponents.{channel_exponents}
use Rattle.exponents.proofs.Made.{refused_beside}
use Rattle.exponents.proofs.by_slot.channel_exponents.Goals as goal

pub returns-in_err-covered-clause-reads : goal.returns-in_err-covered-clause-reads
unfolding channel_exponents
returns-in_err-covered-clause-reads c = refused_beside _ _ c.from_residual.ensures.1 (stops _ c.in_err-covered.ensures.reads)

pub returns-in_err-note_if-clause-reads : goal.returns-in_err-note_if-clause-reads
unfolding channel_exponents
returns-in_err-note_if-clause-reads c =
    refused_beside _ _ c.from_residual-in_err-note_if.ensures.1
    (then _ c.in_ok-covered.ensures.reads (stops _ (noticed_if _ _ c.nth.ensures c.in_err-note_if.ensures)))

pub returns-clause-reads : goal.returns-clause-reads
unfolding channel_exponents
returns-clause-reads c = then _ c.in_ok-covered.ensures.reads (then _ (noticed_if _ _ c.nth.ensures c.in_ok-note_if.ensures) finished)
