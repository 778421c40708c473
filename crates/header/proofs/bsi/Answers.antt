-- `header::bsi` meets its contract: a `then` for each call. Assumes nothing.
use Rattle.syntax.proofs.Sequence.{then, stops, refused, took, noticed, judged, finished}
use Rattle.syntax.proofs.Under.{noticed_if}
use Rattle.header.specs.Header.{bsi}
use Rattle.header.proofs.bsi.Goals as goal

pub returns-in_err-bsid-clause-reads : goal.returns-in_err-bsid-clause-reads
unfolding bsi
returns-in_err-bsid-clause-reads c = refused c.from_residual.ensures.1 (stops _ (took c.plain.ensures c.in_err-bsid.ensures.reads))

pub returns-in_err-refuse_if-clause-reads : goal.returns-in_err-refuse_if-clause-reads
unfolding bsi
returns-in_err-refuse_if-clause-reads c = refused c.from_residual-in_err-refuse_if.ensures.1 (then _ (took c.plain.ensures c.in_ok-bsid.ensures.reads) (stops _ (judged _ _ c.in_err-refuse_if.ensures)))

pub returns-in_err-note-clause-reads : goal.returns-in_err-note-clause-reads
unfolding bsi
returns-in_err-note-clause-reads c = refused c.from_residual-in_err-note.ensures.1 (then _ (took c.plain.ensures c.in_ok-bsid.ensures.reads) (then _ (judged _ _ c.in_ok-refuse_if.ensures) (stops _ (noticed c.plain-2.ensures c.in_err-note.ensures))))

pub returns-in_err-acmod-clause-reads : goal.returns-in_err-acmod-clause-reads
unfolding bsi
returns-in_err-acmod-clause-reads c = refused c.from_residual-in_err-acmod.ensures.1 (then _ (took c.plain.ensures c.in_ok-bsid.ensures.reads) (then _ (judged _ _ c.in_ok-refuse_if.ensures) (then _ (noticed c.plain-2.ensures c.in_ok-note.ensures) (stops _ (took c.plain-3.ensures c.in_err-acmod.ensures.reads)))))

pub returns-in_err-note_if-clause-reads : goal.returns-in_err-note_if-clause-reads
unfolding bsi
returns-in_err-note_if-clause-reads c = refused c.from_residual-in_err-note_if.ensures.1 (then _ (took c.plain.ensures c.in_ok-bsid.ensures.reads) (then _ (judged _ _ c.in_ok-refuse_if.ensures) (then _ (noticed c.plain-2.ensures c.in_ok-note.ensures) (then _ (took c.plain-3.ensures c.in_ok-acmod.ensures.reads) (stops _ (noticed_if _ _ c.plain-4.ensures c.in_err-note_if.ensures))))))

pub returns-in_err-note_if-2-clause-reads : goal.returns-in_err-note_if-2-clause-reads
unfolding bsi
returns-in_err-note_if-2-clause-reads c = refused c.from_residual-in_err-note_if-2.ensures.1 (then _ (took c.plain.ensures c.in_ok-bsid.ensures.reads) (then _ (judged _ _ c.in_ok-refuse_if.ensures) (then _ (noticed c.plain-2.ensures c.in_ok-note.ensures) (then _ (took c.plain-3.ensures c.in_ok-acmod.ensures.reads) (then _ (noticed_if _ _ c.plain-4.ensures c.in_ok-note_if.ensures) (stops _ (noticed_if _ _ c.plain-5.ensures c.in_err-note_if-2.ensures)))))))

pub returns-in_err-note_if-3-clause-reads : goal.returns-in_err-note_if-3-clause-reads
unfolding bsi
returns-in_err-note_if-3-clause-reads c = refused c.from_residual-in_err-note_if-3.ensures.1 (then _ (took c.plain.ensures c.in_ok-bsid.ensures.reads) (then _ (judged _ _ c.in_ok-refuse_if.ensures) (then _ (noticed c.plain-2.ensures c.in_ok-note.ensures) (then _ (took c.plain-3.ensures c.in_ok-acmod.ensures.reads) (then _ (noticed_if _ _ c.plain-4.ensures c.in_ok-note_if.ensures) (then _ (noticed_if _ _ c.plain-5.ensures c.in_ok-note_if-2.ensures) (stops _ (noticed_if _ _ c.plain-6.ensures c.in_err-note_if-3.ensures))))))))

pub returns-in_err-lfeon-clause-reads : goal.returns-in_err-lfeon-clause-reads
unfolding bsi
returns-in_err-lfeon-clause-reads c = refused c.from_residual-in_err-lfeon.ensures.1 (then _ (took c.plain.ensures c.in_ok-bsid.ensures.reads) (then _ (judged _ _ c.in_ok-refuse_if.ensures) (then _ (noticed c.plain-2.ensures c.in_ok-note.ensures) (then _ (took c.plain-3.ensures c.in_ok-acmod.ensures.reads) (then _ (noticed_if _ _ c.plain-4.ensures c.in_ok-note_if.ensures) (then _ (noticed_if _ _ c.plain-5.ensures c.in_ok-note_if-2.ensures) (then _ (noticed_if _ _ c.plain-6.ensures c.in_ok-note_if-3.ensures) (stops _ (took c.plain-7.ensures c.in_err-lfeon.ensures)))))))))

pub returns-in_err-programme_infos-clause-reads : goal.returns-in_err-programme_infos-clause-reads
unfolding bsi
returns-in_err-programme_infos-clause-reads c = refused c.from_residual-in_err-programme_infos.ensures.1 (then _ (took c.plain.ensures c.in_ok-bsid.ensures.reads) (then _ (judged _ _ c.in_ok-refuse_if.ensures) (then _ (noticed c.plain-2.ensures c.in_ok-note.ensures) (then _ (took c.plain-3.ensures c.in_ok-acmod.ensures.reads) (then _ (noticed_if _ _ c.plain-4.ensures c.in_ok-note_if.ensures) (then _ (noticed_if _ _ c.plain-5.ensures c.in_ok-note_if-2.ensures) (then _ (noticed_if _ _ c.plain-6.ensures c.in_ok-note_if-3.ensures) (then _ (took c.plain-7.ensures c.in_ok-lfeon.ensures) (stops _ c.in_err-programme_infos.ensures)))))))))

pub returns-in_err-note-2-clause-reads : goal.returns-in_err-note-2-clause-reads
unfolding bsi
returns-in_err-note-2-clause-reads c = refused c.from_residual-in_err-note-2.ensures.1 (then _ (took c.plain.ensures c.in_ok-bsid.ensures.reads) (then _ (judged _ _ c.in_ok-refuse_if.ensures) (then _ (noticed c.plain-2.ensures c.in_ok-note.ensures) (then _ (took c.plain-3.ensures c.in_ok-acmod.ensures.reads) (then _ (noticed_if _ _ c.plain-4.ensures c.in_ok-note_if.ensures) (then _ (noticed_if _ _ c.plain-5.ensures c.in_ok-note_if-2.ensures) (then _ (noticed_if _ _ c.plain-6.ensures c.in_ok-note_if-3.ensures) (then _ (took c.plain-7.ensures c.in_ok-lfeon.ensures) (then _ c.in_ok-programme_infos.ensures (stops _ (noticed c.plain-8.ensures c.in_err-note-2.ensures)))))))))))

pub returns-in_err-note-3-clause-reads : goal.returns-in_err-note-3-clause-reads
unfolding bsi
returns-in_err-note-3-clause-reads c = refused c.from_residual-in_err-note-3.ensures.1 (then _ (took c.plain.ensures c.in_ok-bsid.ensures.reads) (then _ (judged _ _ c.in_ok-refuse_if.ensures) (then _ (noticed c.plain-2.ensures c.in_ok-note.ensures) (then _ (took c.plain-3.ensures c.in_ok-acmod.ensures.reads) (then _ (noticed_if _ _ c.plain-4.ensures c.in_ok-note_if.ensures) (then _ (noticed_if _ _ c.plain-5.ensures c.in_ok-note_if-2.ensures) (then _ (noticed_if _ _ c.plain-6.ensures c.in_ok-note_if-3.ensures) (then _ (took c.plain-7.ensures c.in_ok-lfeon.ensures) (then _ c.in_ok-programme_infos.ensures (then _ (noticed c.plain-8.ensures c.in_ok-note-2.ensures) (stops _ (noticed c.plain-9.ensures c.in_err-note-3.ensures))))))))))))

pub returns-in_err-additional_info-clause-reads : goal.returns-in_err-additional_info-clause-reads
unfolding bsi
returns-in_err-additional_info-clause-reads c = refused c.from_residual-in_err-additional_info.ensures.1 (then _ (took c.plain.ensures c.in_ok-bsid.ensures.reads) (then _ (judged _ _ c.in_ok-refuse_if.ensures) (then _ (noticed c.plain-2.ensures c.in_ok-note.ensures) (then _ (took c.plain-3.ensures c.in_ok-acmod.ensures.reads) (then _ (noticed_if _ _ c.plain-4.ensures c.in_ok-note_if.ensures) (then _ (noticed_if _ _ c.plain-5.ensures c.in_ok-note_if-2.ensures) (then _ (noticed_if _ _ c.plain-6.ensures c.in_ok-note_if-3.ensures) (then _ (took c.plain-7.ensures c.in_ok-lfeon.ensures) (then _ c.in_ok-programme_infos.ensures (then _ (noticed c.plain-8.ensures c.in_ok-note-2.ensures) (then _ (noticed c.plain-9.ensures c.in_ok-note-3.ensures) (then _ c.in_ok-codes_or_alternate.ensures (stops _ c.in_err-additional_info.ensures)))))))))))))

pub returns-clause-reads : goal.returns-clause-reads
unfolding bsi
returns-clause-reads c = then _ (took c.plain.ensures c.in_ok-bsid.ensures.reads) (then _ (judged _ _ c.in_ok-refuse_if.ensures) (then _ (noticed c.plain-2.ensures c.in_ok-note.ensures) (then _ (took c.plain-3.ensures c.in_ok-acmod.ensures.reads) (then _ (noticed_if _ _ c.plain-4.ensures c.in_ok-note_if.ensures) (then _ (noticed_if _ _ c.plain-5.ensures c.in_ok-note_if-2.ensures) (then _ (noticed_if _ _ c.plain-6.ensures c.in_ok-note_if-3.ensures) (then _ (took c.plain-7.ensures c.in_ok-lfeon.ensures) (then _ c.in_ok-programme_infos.ensures (then _ (noticed c.plain-8.ensures c.in_ok-note-2.ensures) (then _ (noticed c.plain-9.ensures c.in_ok-note-3.ensures) (then _ c.in_ok-codes_or_alternate.ensures (then _ c.in_ok-additional_info.ensures (finished)))))))))))))

pub returns-in_err-codes_or_alternate-clause-reads : goal.returns-in_err-codes_or_alternate-clause-reads
unfolding bsi
returns-in_err-codes_or_alternate-clause-reads c = refused c.from_residual-in_err-codes_or_alternate.ensures.1 (then _ (took c.plain.ensures c.in_ok-bsid.ensures.reads) (then _ (judged _ _ c.in_ok-refuse_if.ensures) (then _ (noticed c.plain-2.ensures c.in_ok-note.ensures) (then _ (took c.plain-3.ensures c.in_ok-acmod.ensures.reads) (then _ (noticed_if _ _ c.plain-4.ensures c.in_ok-note_if.ensures) (then _ (noticed_if _ _ c.plain-5.ensures c.in_ok-note_if-2.ensures) (then _ (noticed_if _ _ c.plain-6.ensures c.in_ok-note_if-3.ensures) (then _ (took c.plain-7.ensures c.in_ok-lfeon.ensures) (then _ c.in_ok-programme_infos.ensures (then _ (noticed c.plain-8.ensures c.in_ok-note-2.ensures) (then _ (noticed c.plain-9.ensures c.in_ok-note-3.ensures) (stops _ c.in_err-codes_or_alternate.ensures))))))))))))
