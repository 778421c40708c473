-- `ac3::block::sections` meets its contract: a `then` for each section, in the order of the table; and this block is tallied with those
-- before it. Assumes nothing.
use mathlib.Core.List.{[]}
use mathlib.Core.Path.{◌≡◌, ◌∙◌}
use Rattle.std.specs.Prelude.{Result, Err, IsErrAnd, IfOk}
use Rattle.std.proofs.lemmas.Result.{err_from_is_err_and}
use Rattle.syntax.specs.declared.Reader.{Reader}
use Rattle.syntax.specs.declared.Refusal.{Refusal}
use Rattle.syntax.specs.Grammar.{Grammar}
use Rattle.syntax.specs.Reads.{Reads, with_lent}
use Rattle.syntax.proofs.Sequence.{then, stops, finished, standing}
use Rattle.ac3.specs.AudioBlock.{audio_block}
use Rattle.ac3.specs.Sent.{Sending}
use Rattle.ac3.proofs.Sent.{one_more_tallied}
use Rattle.ac3.proofs.block.sections.Goals as goal

-- of a block that was refused nothing is tallied
nobody : Sending
nobody = record { chincpl = []; cplcoe = [] }

-- what `?` hands on is the refusal that it was given, and leaves nothing to the next block
refusal : {A B : Type 0} (f : A → B) (P : A → Type 0) (r : Result A Refusal) {x : Refusal} → IsErrAnd r (λ y. y ≡ x)
    → {g : Grammar B} {c d : Reader} → Reads g c (Err x) d → Reads g c (with_lent f r) d × IfOk r P
refusal f P r h q = let p = err_from_is_err_and r h in rw (p.1, p.2) (q, tt)

pub returns-in_err-channel_settings-clause-reads : goal.returns-in_err-channel_settings-clause-reads
unfolding audio_block
returns-in_err-channel_settings-clause-reads c earlier before =
    let q = refusal _ _ _ c.from_residual.ensures.1 (rw (← c.nfchans-n.ensures.0) (then _ standing (stops _ c.in_err-channel_settings.ensures))) in (nobody, q.0, q.1)

pub returns-in_err-coupled-clause-reads : goal.returns-in_err-coupled-clause-reads
unfolding audio_block
returns-in_err-coupled-clause-reads c earlier before =
    let q = refusal _ _ _ c.from_residual-in_err-coupled.ensures.1 (rw (← c.nfchans-n.ensures.0) (then _ standing (then _ c.in_ok-channel_settings.ensures (stops _ c.in_err-coupled.ensures.reads)))) in (nobody, q.0, q.1)

pub returns-in_err-read-clause-reads : goal.returns-in_err-read-clause-reads
unfolding audio_block
returns-in_err-read-clause-reads c earlier before =
    let q = refusal _ _ _ c.from_residual-in_err-read.ensures.1 (rw (← c.nfchans-n.ensures.0) (then _ standing (then _ c.in_ok-channel_settings.ensures (then _ c.in_ok-coupled.ensures.reads (stops _ c.in_err-read.ensures.reads))))) in (nobody, q.0, q.1)

pub returns-in_err-alloc-clause-reads : goal.returns-in_err-alloc-clause-reads
unfolding audio_block
returns-in_err-alloc-clause-reads c earlier before =
    let q = refusal _ _ _ c.from_residual-in_err-alloc.ensures.1 (rw (← c.nfchans-n.ensures.0) (then _ standing (then _ c.in_ok-channel_settings.ensures (then _ c.in_ok-coupled.ensures.reads (then _ c.in_ok-read.ensures.reads (stops _ c.in_err-alloc.ensures.reads)))))) in (nobody, q.0, q.1)

pub returns-in_err-skip_field-clause-reads : goal.returns-in_err-skip_field-clause-reads
unfolding audio_block
returns-in_err-skip_field-clause-reads c earlier before =
    let q = refusal _ _ _ c.from_residual-in_err-skip_field.ensures.1 (rw (← c.nfchans-n.ensures.0) (then _ standing (then _ c.in_ok-channel_settings.ensures (then _ c.in_ok-coupled.ensures.reads (then _ c.in_ok-read.ensures.reads (then _ c.in_ok-alloc.ensures.reads (stops _ c.in_err-skip_field.ensures))))))) in (nobody, q.0, q.1)

pub returns-in_err-spanned-clause-reads : goal.returns-in_err-spanned-clause-reads
unfolding audio_block
returns-in_err-spanned-clause-reads c earlier before =
    let q = refusal _ _ _ c.from_residual-in_err-spanned.ensures.1 (rw (← c.nfchans-n.ensures.0) (then _ standing (then _ c.in_ok-channel_settings.ensures (then _ c.in_ok-coupled.ensures.reads (then _ c.in_ok-read.ensures.reads (then _ c.in_ok-alloc.ensures.reads (then _ c.in_ok-skip_field.ensures (stops _ c.in_err-spanned.ensures.reads)))))))) in (nobody, q.0, q.1)

pub returns-clause-reads : goal.returns-clause-reads
unfolding audio_block
returns-clause-reads c earlier before =
    let coupled = c.in_ok-coupled.coupled in
    let this : Sending = record { chincpl = coupled.coupling.chincpl; cplcoe = coupled.cplcoe } in
    let tallied = one_more_tallied earlier this before c.had_by_now-had.result c.had_by_now-had.ensures in (
      this,
      rw (c.counted-tally.ensures.value, c.sent_so_far-sent.ensures ∙ tallied.sent, ← c.nfchans-n.ensures.0)
          (then _ standing (then _ c.in_ok-channel_settings.ensures (then _ c.in_ok-coupled.ensures.reads (then _ c.in_ok-read.ensures.reads (then _ c.in_ok-alloc.ensures.reads (then _ c.in_ok-skip_field.ensures (then _ c.in_ok-spanned.ensures.reads finished))))))),
      rw (c.counted-tally.ensures.value, c.sent_so_far-sent.ensures) tallied,
    )
