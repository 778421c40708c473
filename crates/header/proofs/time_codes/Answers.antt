-- `header::time_codes` meets its contract: a `then` for each call. Assumes nothing.
use Rattle.syntax.proofs.Sequence.{then, stops, refused, took}
use Rattle.syntax.proofs.Under.{noticed_if}
use Rattle.header.specs.Header.{time_codes}
use Rattle.header.proofs.time_codes.Goals as goal

pub returns-in_err-timecod1e : goal.returns-in_err-timecod1e
unfolding time_codes
returns-in_err-timecod1e c = refused c.from_residual.ensures.1 (stops _ (took c.plain.ensures c.in_err-timecod1e.ensures))

pub returns-in_err-note_if : goal.returns-in_err-note_if
unfolding time_codes
returns-in_err-note_if c = refused c.from_residual-in_err-note_if.ensures.1 (then _ (took c.plain.ensures c.in_ok-timecod1e.ensures) (stops _ (noticed_if _ _ c.plain-2.ensures c.in_err-note_if.ensures)))

pub returns-in_err-timecod2e : goal.returns-in_err-timecod2e
unfolding time_codes
returns-in_err-timecod2e c = refused c.from_residual-in_err-timecod2e.ensures.1 (then _ (took c.plain.ensures c.in_ok-timecod1e.ensures) (then _ (noticed_if _ _ c.plain-2.ensures c.in_ok-note_if.ensures) (stops _ (took c.plain-3.ensures c.in_err-timecod2e.ensures))))

pub returns : goal.returns
unfolding time_codes
returns c = then _ (took c.plain.ensures c.in_ok-timecod1e.ensures) (then _ (noticed_if _ _ c.plain-2.ensures c.in_ok-note_if.ensures) (then _ (took c.plain-3.ensures c.in_ok-timecod2e.ensures) ((noticed_if _ _ c.plain-4.ensures c.note_if-2.ensures))))
