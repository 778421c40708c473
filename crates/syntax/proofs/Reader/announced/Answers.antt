-- `syntax::Reader::announced` meets its contract: the flag, and what its judge reads. Assumes nothing.
use Rattle.syntax.proofs.Sequence.{then, stops, refused, took, judged, finished}
use Rattle.syntax.proofs.Reader.announced.Goals as goal

pub returns-in_err-sent : goal.returns-in_err-sent
returns-in_err-sent c = refused c.from_residual.ensures.1 (stops _ (took c.one.ensures c.in_err-sent.ensures))

pub returns-in_err-refuse_if : goal.returns-in_err-refuse_if
returns-in_err-refuse_if c = refused c.from_residual-in_err-refuse_if.ensures.1 (then _ (took c.one.ensures c.in_ok-sent.ensures) (stops _ (judged _ _ c.in_err-refuse_if.ensures)))

pub returns : goal.returns
returns c = then _ (took c.one.ensures c.in_ok-sent.ensures) (then _ (judged _ _ c.in_ok-refuse_if.ensures) finished)
