-- `header::syncinfo` meets its contract: a `then` for each call. Assumes nothing.
use Rattle.syntax.proofs.Sequence.{then, stops, refused, took, noticed, judged, good, finished}
use mathlib.Core.Path.{◌∙◌}
use borrow.Author.Tests.{eqb-false}
use Rattle.header.specs.Header.{syncinfo}
use Rattle.header.proofs.Rate.{rated}
use Rattle.header.proofs.syncinfo.Goals as goal

pub returns-in_err-frame-clause-reads : goal.returns-in_err-frame-clause-reads
unfolding syncinfo
returns-in_err-frame-clause-reads c = refused c.from_residual.ensures.1 (stops _ c.in_err-frame.ensures)

pub returns-in_err-syncword-clause-reads : goal.returns-in_err-syncword-clause-reads
unfolding syncinfo
returns-in_err-syncword-clause-reads c = refused c.from_residual-in_err-syncword.ensures.1 (then _ c.in_ok-frame.ensures (stops _ (took c.roled.ensures c.in_err-syncword.ensures.reads)))

pub returns-in_err-refuse_if-clause-reads : goal.returns-in_err-refuse_if-clause-reads
unfolding syncinfo
returns-in_err-refuse_if-clause-reads c = refused c.from_residual-in_err-refuse_if.ensures.1 (then _ c.in_ok-frame.ensures (then _ (took c.roled.ensures c.in_ok-syncword.ensures.reads) (stops _ (judged _ _ c.in_err-refuse_if.ensures))))

pub returns-in_err-note-clause-reads : goal.returns-in_err-note-clause-reads
unfolding syncinfo
returns-in_err-note-clause-reads c = refused c.from_residual-in_err-note.ensures.1 (then _ c.in_ok-frame.ensures (then _ (took c.roled.ensures c.in_ok-syncword.ensures.reads) (then _ (judged _ _ c.in_ok-refuse_if.ensures) (stops _ (noticed c.roled-2.ensures c.in_err-note.ensures)))))

pub returns-in_err-fscod-clause-reads : goal.returns-in_err-fscod-clause-reads
unfolding syncinfo
returns-in_err-fscod-clause-reads c = refused c.from_residual-in_err-fscod.ensures.1 (then _ c.in_ok-frame.ensures (then _ (took c.roled.ensures c.in_ok-syncword.ensures.reads) (then _ (judged _ _ c.in_ok-refuse_if.ensures) (then _ (noticed c.roled-2.ensures c.in_ok-note.ensures) (stops _ (took c.roled-3.ensures c.in_err-fscod.ensures.reads))))))

pub returns-in_err-frmsizecod-clause-reads : goal.returns-in_err-frmsizecod-clause-reads
unfolding syncinfo
returns-in_err-frmsizecod-clause-reads c = refused c.from_residual-in_err-frmsizecod.ensures.1 (then _ c.in_ok-frame.ensures (then _ (took c.roled.ensures c.in_ok-syncword.ensures.reads) (then _ (judged _ _ c.in_ok-refuse_if.ensures) (then _ (noticed c.roled-2.ensures c.in_ok-note.ensures) (then _ (took c.roled-3.ensures c.in_ok-fscod.ensures.reads) (stops _ (took c.roled-4.ensures c.in_err-frmsizecod.ensures.reads)))))))

pub returns-in_err-refuse_if-2-clause-reads : goal.returns-in_err-refuse_if-2-clause-reads
unfolding syncinfo
returns-in_err-refuse_if-2-clause-reads c = refused c.from_residual-in_err-refuse_if-2.ensures.1 (then _ c.in_ok-frame.ensures (then _ (took c.roled.ensures c.in_ok-syncword.ensures.reads) (then _ (judged _ _ c.in_ok-refuse_if.ensures) (then _ (noticed c.roled-2.ensures c.in_ok-note.ensures) (then _ (took c.roled-3.ensures c.in_ok-fscod.ensures.reads) (then _ (took c.roled-4.ensures c.in_ok-frmsizecod.ensures.reads) (rw (← c.frame_bytes-bytes.ensures.0) (stops _ (judged _ _ c.in_err-refuse_if-2.ensures)))))))))

pub returns-in_err-frame-2-clause-reads : goal.returns-in_err-frame-2-clause-reads
unfolding syncinfo
returns-in_err-frame-2-clause-reads c = refused c.from_residual-in_err-frame-2.ensures.1 (then _ c.in_ok-frame.ensures (then _ (took c.roled.ensures c.in_ok-syncword.ensures.reads) (then _ (judged _ _ c.in_ok-refuse_if.ensures) (then _ (noticed c.roled-2.ensures c.in_ok-note.ensures) (then _ (took c.roled-3.ensures c.in_ok-fscod.ensures.reads) (then _ (took c.roled-4.ensures c.in_ok-frmsizecod.ensures.reads) (rw (← c.frame_bytes-bytes.ensures.0) (then _ (judged _ _ c.in_ok-refuse_if-2.ensures) (stops _ c.in_err-frame-2.ensures)))))))))

pub returns-clause-reads : goal.returns-clause-reads
unfolding syncinfo
returns-clause-reads c = then _ c.in_ok-frame.ensures (then _ (took c.roled.ensures c.in_ok-syncword.ensures.reads) (then _ (judged _ _ c.in_ok-refuse_if.ensures) (then _ (noticed c.roled-2.ensures c.in_ok-note.ensures) (then _ (took c.roled-3.ensures c.in_ok-fscod.ensures.reads) (then _ (took c.roled-4.ensures c.in_ok-frmsizecod.ensures.reads) (rw (← c.frame_bytes-bytes.ensures.0) (then _ (judged _ _ c.in_ok-refuse_if-2.ensures) (then _ c.in_ok-frame-2.ensures (finished)))))))))

pub returns-clause-fscod_bound : goal.returns-clause-fscod_bound
returns-clause-fscod_bound c =
    let some = eqb-false _ _ (good _ _ c.in_ok-refuse_if-2.ensures) in
    rated _ _ (λ none. some (c.frame_bytes-bytes.ensures.0 ∙ none))
