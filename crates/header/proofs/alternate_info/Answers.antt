-- `header::alternate_info` meets its contract: a `then` for each call, and an `under` for each line under a test. Assumes nothing.
use Rattle.syntax.proofs.Sequence.{then, stops, refused, took}
use Rattle.syntax.proofs.Under.{noticed_if, under, under_stops}
use Rattle.header.specs.Header.{alternate_info}
use Rattle.header.proofs.alternate_info.Goals as goal

pub returns-in_err-xbsi1e : goal.returns-in_err-xbsi1e
unfolding alternate_info
returns-in_err-xbsi1e c = refused c.from_residual.ensures.1 (stops _ (took c.plain.ensures c.in_err-xbsi1e.ensures))

pub returns-in_err-note_if : goal.returns-in_err-note_if
unfolding alternate_info
returns-in_err-note_if c = refused c.from_residual-in_err-note_if.ensures.1 (then _ (took c.plain.ensures c.in_ok-xbsi1e.ensures) (stops _ (under_stops _ _ _ (noticed_if _ _ c.plain-2.ensures c.in_err-note_if.ensures))))

pub returns-in_err-note_if-2 : goal.returns-in_err-note_if-2
unfolding alternate_info
returns-in_err-note_if-2 c = refused c.from_residual-in_err-note_if-2.ensures.1 (then _ (took c.plain.ensures c.in_ok-xbsi1e.ensures) (stops _ (under _ _ _ (noticed_if _ _ c.plain-2.ensures c.in_ok-note_if.ensures) (under_stops _ _ _ (noticed_if _ _ c.plain-3.ensures c.in_err-note_if-2.ensures)))))

pub returns-in_err-note_if-3 : goal.returns-in_err-note_if-3
unfolding alternate_info
returns-in_err-note_if-3 c = refused c.from_residual-in_err-note_if-3.ensures.1 (then _ (took c.plain.ensures c.in_ok-xbsi1e.ensures) (stops _ (under _ _ _ (noticed_if _ _ c.plain-2.ensures c.in_ok-note_if.ensures) (under _ _ _ (noticed_if _ _ c.plain-3.ensures c.in_ok-note_if-2.ensures) (under_stops _ _ _ (noticed_if _ _ c.plain-4.ensures c.in_err-note_if-3.ensures))))))

pub returns-in_err-note_if-4 : goal.returns-in_err-note_if-4
unfolding alternate_info
returns-in_err-note_if-4 c = refused c.from_residual-in_err-note_if-4.ensures.1 (then _ (took c.plain.ensures c.in_ok-xbsi1e.ensures) (stops _ (under _ _ _ (noticed_if _ _ c.plain-2.ensures c.in_ok-note_if.ensures) (under _ _ _ (noticed_if _ _ c.plain-3.ensures c.in_ok-note_if-2.ensures) (under _ _ _ (noticed_if _ _ c.plain-4.ensures c.in_ok-note_if-3.ensures) (under_stops _ _ _ (noticed_if _ _ c.plain-5.ensures c.in_err-note_if-4.ensures)))))))

pub returns-in_err-note_if-5 : goal.returns-in_err-note_if-5
unfolding alternate_info
returns-in_err-note_if-5 c = refused c.from_residual-in_err-note_if-5.ensures.1 (then _ (took c.plain.ensures c.in_ok-xbsi1e.ensures) (stops _ (under _ _ _ (noticed_if _ _ c.plain-2.ensures c.in_ok-note_if.ensures) (under _ _ _ (noticed_if _ _ c.plain-3.ensures c.in_ok-note_if-2.ensures) (under _ _ _ (noticed_if _ _ c.plain-4.ensures c.in_ok-note_if-3.ensures) (under _ _ _ (noticed_if _ _ c.plain-5.ensures c.in_ok-note_if-4.ensures) ((noticed_if _ _ c.plain-6.ensures c.in_err-note_if-5.ensures))))))))

pub returns-in_err-xbsi2e : goal.returns-in_err-xbsi2e
unfolding alternate_info
returns-in_err-xbsi2e c = refused c.from_residual-in_err-xbsi2e.ensures.1 (then _ (took c.plain.ensures c.in_ok-xbsi1e.ensures) (then _ (under _ _ _ (noticed_if _ _ c.plain-2.ensures c.in_ok-note_if.ensures) (under _ _ _ (noticed_if _ _ c.plain-3.ensures c.in_ok-note_if-2.ensures) (under _ _ _ (noticed_if _ _ c.plain-4.ensures c.in_ok-note_if-3.ensures) (under _ _ _ (noticed_if _ _ c.plain-5.ensures c.in_ok-note_if-4.ensures) ((noticed_if _ _ c.plain-6.ensures c.in_ok-note_if-5.ensures)))))) (stops _ (took c.plain-7.ensures c.in_err-xbsi2e.ensures))))

pub returns-in_err-note_if-6 : goal.returns-in_err-note_if-6
unfolding alternate_info
returns-in_err-note_if-6 c = refused c.from_residual-in_err-note_if-6.ensures.1 (then _ (took c.plain.ensures c.in_ok-xbsi1e.ensures) (then _ (under _ _ _ (noticed_if _ _ c.plain-2.ensures c.in_ok-note_if.ensures) (under _ _ _ (noticed_if _ _ c.plain-3.ensures c.in_ok-note_if-2.ensures) (under _ _ _ (noticed_if _ _ c.plain-4.ensures c.in_ok-note_if-3.ensures) (under _ _ _ (noticed_if _ _ c.plain-5.ensures c.in_ok-note_if-4.ensures) ((noticed_if _ _ c.plain-6.ensures c.in_ok-note_if-5.ensures)))))) (then _ (took c.plain-7.ensures c.in_ok-xbsi2e.ensures) (under_stops _ _ _ (noticed_if _ _ c.plain-8.ensures c.in_err-note_if-6.ensures)))))

pub returns-in_err-note_if-7 : goal.returns-in_err-note_if-7
unfolding alternate_info
returns-in_err-note_if-7 c = refused c.from_residual-in_err-note_if-7.ensures.1 (then _ (took c.plain.ensures c.in_ok-xbsi1e.ensures) (then _ (under _ _ _ (noticed_if _ _ c.plain-2.ensures c.in_ok-note_if.ensures) (under _ _ _ (noticed_if _ _ c.plain-3.ensures c.in_ok-note_if-2.ensures) (under _ _ _ (noticed_if _ _ c.plain-4.ensures c.in_ok-note_if-3.ensures) (under _ _ _ (noticed_if _ _ c.plain-5.ensures c.in_ok-note_if-4.ensures) ((noticed_if _ _ c.plain-6.ensures c.in_ok-note_if-5.ensures)))))) (then _ (took c.plain-7.ensures c.in_ok-xbsi2e.ensures) (under _ _ _ (noticed_if _ _ c.plain-8.ensures c.in_ok-note_if-6.ensures) (under_stops _ _ _ (noticed_if _ _ c.plain-9.ensures c.in_err-note_if-7.ensures))))))

pub returns-in_err-note_if-8 : goal.returns-in_err-note_if-8
unfolding alternate_info
returns-in_err-note_if-8 c = refused c.from_residual-in_err-note_if-8.ensures.1 (then _ (took c.plain.ensures c.in_ok-xbsi1e.ensures) (then _ (under _ _ _ (noticed_if _ _ c.plain-2.ensures c.in_ok-note_if.ensures) (under _ _ _ (noticed_if _ _ c.plain-3.ensures c.in_ok-note_if-2.ensures) (under _ _ _ (noticed_if _ _ c.plain-4.ensures c.in_ok-note_if-3.ensures) (under _ _ _ (noticed_if _ _ c.plain-5.ensures c.in_ok-note_if-4.ensures) ((noticed_if _ _ c.plain-6.ensures c.in_ok-note_if-5.ensures)))))) (then _ (took c.plain-7.ensures c.in_ok-xbsi2e.ensures) (under _ _ _ (noticed_if _ _ c.plain-8.ensures c.in_ok-note_if-6.ensures) (under _ _ _ (noticed_if _ _ c.plain-9.ensures c.in_ok-note_if-7.ensures) (under_stops _ _ _ (noticed_if _ _ c.plain-10.ensures c.in_err-note_if-8.ensures)))))))

pub returns-in_err-note_if-9 : goal.returns-in_err-note_if-9
unfolding alternate_info
returns-in_err-note_if-9 c = refused c.from_residual-in_err-note_if-9.ensures.1 (then _ (took c.plain.ensures c.in_ok-xbsi1e.ensures) (then _ (under _ _ _ (noticed_if _ _ c.plain-2.ensures c.in_ok-note_if.ensures) (under _ _ _ (noticed_if _ _ c.plain-3.ensures c.in_ok-note_if-2.ensures) (under _ _ _ (noticed_if _ _ c.plain-4.ensures c.in_ok-note_if-3.ensures) (under _ _ _ (noticed_if _ _ c.plain-5.ensures c.in_ok-note_if-4.ensures) ((noticed_if _ _ c.plain-6.ensures c.in_ok-note_if-5.ensures)))))) (then _ (took c.plain-7.ensures c.in_ok-xbsi2e.ensures) (under _ _ _ (noticed_if _ _ c.plain-8.ensures c.in_ok-note_if-6.ensures) (under _ _ _ (noticed_if _ _ c.plain-9.ensures c.in_ok-note_if-7.ensures) (under _ _ _ (noticed_if _ _ c.plain-10.ensures c.in_ok-note_if-8.ensures) (under_stops _ _ _ (noticed_if _ _ c.plain-11.ensures c.in_err-note_if-9.ensures))))))))

pub returns : goal.returns
unfolding alternate_info
returns c = then _ (took c.plain.ensures c.in_ok-xbsi1e.ensures) (then _ (under _ _ _ (noticed_if _ _ c.plain-2.ensures c.in_ok-note_if.ensures) (under _ _ _ (noticed_if _ _ c.plain-3.ensures c.in_ok-note_if-2.ensures) (under _ _ _ (noticed_if _ _ c.plain-4.ensures c.in_ok-note_if-3.ensures) (under _ _ _ (noticed_if _ _ c.plain-5.ensures c.in_ok-note_if-4.ensures) ((noticed_if _ _ c.plain-6.ensures c.in_ok-note_if-5.ensures)))))) (then _ (took c.plain-7.ensures c.in_ok-xbsi2e.ensures) (under _ _ _ (noticed_if _ _ c.plain-8.ensures c.in_ok-note_if-6.ensures) (under _ _ _ (noticed_if _ _ c.plain-9.ensures c.in_ok-note_if-7.ensures) (under _ _ _ (noticed_if _ _ c.plain-10.ensures c.in_ok-note_if-8.ensures) (under _ _ _ (noticed_if _ _ c.plain-11.ensures c.in_ok-note_if-9.ensures) ((noticed_if _ _ c.plain-12.ensures c.note_if-10.ensures))))))))
