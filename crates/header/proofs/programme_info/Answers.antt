-- `header::programme_info` meets its contract: a `then` for each call. Assumes nothing.
use Rattle.syntax.proofs.Sequence.{then, stops, refused, took, noticed}
use Rattle.syntax.proofs.Under.{noticed_if, present, omitted}
use Rattle.header.specs.Header.{programme_info}
use Rattle.header.proofs.programme_info.Goals as goal

pub returns-in_err-note : goal.returns-in_err-note
unfolding programme_info
returns-in_err-note c = refused c.from_residual.ensures.1 (stops _ (noticed c.roled.ensures c.in_err-note.ensures))

pub returns-in_err-compre : goal.returns-in_err-compre
unfolding programme_info
returns-in_err-compre c = refused c.from_residual-in_err-compre.ensures.1 (then _ (noticed c.roled.ensures c.in_ok-note.ensures) (stops _ (took c.roled-2.ensures c.in_err-compre.ensures)))

pub returns-in_err-note_if : goal.returns-in_err-note_if
unfolding programme_info
returns-in_err-note_if c = refused c.from_residual-in_err-note_if.ensures.1 (then _ (noticed c.roled.ensures c.in_ok-note.ensures) (then _ (took c.roled-2.ensures c.in_ok-compre.ensures) (stops _ (noticed_if _ _ c.roled-3.ensures c.in_err-note_if.ensures))))

pub returns-in_err-langcode : goal.returns-in_err-langcode
unfolding programme_info
returns-in_err-langcode c = refused c.from_residual-in_err-langcode.ensures.1 (then _ (noticed c.roled.ensures c.in_ok-note.ensures) (then _ (took c.roled-2.ensures c.in_ok-compre.ensures) (then _ (noticed_if _ _ c.roled-3.ensures c.in_ok-note_if.ensures) (stops _ (took c.plain.ensures c.in_err-langcode.ensures)))))

pub returns-in_err-note_if-2 : goal.returns-in_err-note_if-2
unfolding programme_info
returns-in_err-note_if-2 c = refused c.from_residual-in_err-note_if-2.ensures.1 (then _ (noticed c.roled.ensures c.in_ok-note.ensures) (then _ (took c.roled-2.ensures c.in_ok-compre.ensures) (then _ (noticed_if _ _ c.roled-3.ensures c.in_ok-note_if.ensures) (then _ (took c.plain.ensures c.in_ok-langcode.ensures) (stops _ (noticed_if _ _ c.plain-2.ensures c.in_err-note_if-2.ensures))))))

pub returns-in_err-audprodie : goal.returns-in_err-audprodie
unfolding programme_info
returns-in_err-audprodie c = refused c.from_residual-in_err-audprodie.ensures.1 (then _ (noticed c.roled.ensures c.in_ok-note.ensures) (then _ (took c.roled-2.ensures c.in_ok-compre.ensures) (then _ (noticed_if _ _ c.roled-3.ensures c.in_ok-note_if.ensures) (then _ (took c.plain.ensures c.in_ok-langcode.ensures) (then _ (noticed_if _ _ c.plain-2.ensures c.in_ok-note_if-2.ensures) (stops _ (took c.plain-3.ensures c.in_err-audprodie.ensures)))))))

pub returns-in_err-note-2 : goal.returns-in_err-note-2
unfolding programme_info
returns-in_err-note-2 c = refused c.from_residual-in_err-note-2.ensures.1 (then _ (noticed c.roled.ensures c.in_ok-note.ensures) (then _ (took c.roled-2.ensures c.in_ok-compre.ensures) (then _ (noticed_if _ _ c.roled-3.ensures c.in_ok-note_if.ensures) (then _ (took c.plain.ensures c.in_ok-langcode.ensures) (then _ (noticed_if _ _ c.plain-2.ensures c.in_ok-note_if-2.ensures) (then _ (took c.plain-3.ensures c.in_ok-audprodie.ensures) (present _ _ c.if-audprodie.true (stops _ (noticed c.plain-then-audprodie.ensures c.in_err-note-2.ensures)))))))))

pub returns-in_err-note-3 : goal.returns-in_err-note-3
unfolding programme_info
returns-in_err-note-3 c = refused c.from_residual-in_err-note-3.ensures.1 (then _ (noticed c.roled.ensures c.in_ok-note.ensures) (then _ (took c.roled-2.ensures c.in_ok-compre.ensures) (then _ (noticed_if _ _ c.roled-3.ensures c.in_ok-note_if.ensures) (then _ (took c.plain.ensures c.in_ok-langcode.ensures) (then _ (noticed_if _ _ c.plain-2.ensures c.in_ok-note_if-2.ensures) (then _ (took c.plain-3.ensures c.in_ok-audprodie.ensures) (present _ _ c.if-audprodie.true (then _ (noticed c.plain-then-audprodie.ensures c.in_ok-note-2.ensures) (noticed c.plain-then-audprodie-2.ensures c.in_err-note-3.ensures)))))))))

pub returns-in_ok-note-3 : goal.returns-in_ok-note-3
unfolding programme_info
returns-in_ok-note-3 c = then _ (noticed c.roled.ensures c.in_ok-note.ensures) (then _ (took c.roled-2.ensures c.in_ok-compre.ensures) (then _ (noticed_if _ _ c.roled-3.ensures c.in_ok-note_if.ensures) (then _ (took c.plain.ensures c.in_ok-langcode.ensures) (then _ (noticed_if _ _ c.plain-2.ensures c.in_ok-note_if-2.ensures) (then _ (took c.plain-3.ensures c.in_ok-audprodie.ensures) (present _ _ c.if-audprodie.true (then _ (noticed c.plain-then-audprodie.ensures c.in_ok-note-2.ensures) (noticed c.plain-then-audprodie-2.ensures c.in_ok-note-3.ensures))))))))

pub returns-else-audprodie : goal.returns-else-audprodie
unfolding programme_info
returns-else-audprodie c = then _ (noticed c.roled.ensures c.in_ok-note.ensures) (then _ (took c.roled-2.ensures c.in_ok-compre.ensures) (then _ (noticed_if _ _ c.roled-3.ensures c.in_ok-note_if.ensures) (then _ (took c.plain.ensures c.in_ok-langcode.ensures) (then _ (noticed_if _ _ c.plain-2.ensures c.in_ok-note_if-2.ensures) (then _ (took c.plain-3.ensures c.in_ok-audprodie.ensures) (omitted _ _ c.if-audprodie.false))))))
