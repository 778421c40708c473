-- Header and blocks apart: the header by itself, and the six blocks for one who holds a header answer. `HeaderAndBlocks` states
-- that the whole parse is both in turn, and that exactly the header's own answer is taken.
use Rattle.std.specs.Prelude.{Bool, false, ◌&&◌, not, cond, List, ℕ, eqb, ℤ}
use Rattle.syntax.specs.declared.Refusal.{Refusal}
use Rattle.syntax.specs.Refusals.{number, name, block}
use Rattle.syntax.specs.Place.{Place, Outcome, got, no, exec, and_then, fresh}
use Rattle.header.specs.Header.{header}
use Rattle.header.specs.declared.Header.{Header}
use Rattle.ac3.specs.Frame.{audio, no_summary, answered}
use Rattle.ac3.specs.Promise.{Call, input, with_room}
use Rattle.ac3.specs.declared.Answer.{Answer}
use Rattle.ac3.specs.declared.HeaderAnswer.{HeaderAnswer}

-- no header has more rows: two programmes, bsid 6 and all that may follow a flag
abbrev pub most_header_rows : ℕ
most_header_rows = 44

-- a refusal's header is all zeros
abbrev pub no_header : Header
no_header = record { bytes = 0; fscod = 0; bsid = 0; acmod = 0; lfeon = false }

abbrev pub header_read_at : Place → Header → HeaderAnswer
header_read_at p h = record { refusal = 0; rows = p.count; bit = p.at; name = 0; block = 255; header = h }

abbrev pub header_refused_at : Place → Refusal → HeaderAnswer
header_refused_at p x = record { refusal = number x; rows = p.count; bit = p.at; name = name x; block = block x; header = no_header }

unfoldable pub headed : Outcome Header → HeaderAnswer × List ℤ
headed (got h p) = (header_read_at p h, p.room)
headed (no x p) = (header_refused_at p x, p.room)

-- the header at a call's place, and the room after it
abbrev pub header_to : Call → HeaderAnswer × List ℤ
header_to c = headed (exec header (input c) (fresh c.room))

-- ---- blocks

abbrev pub same_flag : Bool → Bool → Bool
same_flag a b = cond a b (not b)

abbrev pub same_header : Header → Header → Bool
same_header a b = eqb a.bytes b.bytes && eqb a.fscod b.fscod && eqb a.bsid b.bsid && eqb a.acmod b.acmod && same_flag a.lfeon b.lfeon

-- two header answers, number by number
abbrev pub same_answer : HeaderAnswer → HeaderAnswer → Bool
same_answer a b =
    eqb a.refusal b.refusal && eqb a.rows b.rows && eqb a.bit b.bit && eqb a.name b.name && eqb a.block b.block
    && same_header a.header b.header

abbrev pub unfit : Answer
unfit = record { refusal = 24; rows = 0; bit = 0; name = 0; block = 255; summary = no_summary }

-- A claim fits where it is no refusal, and is what the header, read again, is answered with.
abbrev pub fits : Call → (claim : HeaderAnswer) → Bool
fits c claim = eqb claim.refusal 0 && same_answer claim (header_to c).0

-- Where it fits the header's rows are written afresh and the blocks follow; else it is 24, and the room is as it was.
unfoldable pub afresh_if : Bool → Call → Answer × List ℤ
afresh_if fits c = cond fits (answered (and_then (exec header (input c) (fresh c.room)) (λ h p. exec (audio h) (input c) p))) (unfit, c.room)

abbrev pub blocks_to : Call → (claim : HeaderAnswer) → Answer × List ℤ
blocks_to c claim = afresh_if (fits c claim) c

-- ---- both in turn

abbrev pub ended_at : HeaderAnswer → Answer
ended_at h = record { refusal = h.refusal; rows = h.rows; bit = h.bit; name = h.name; block = h.block; summary = no_summary }

-- the blocks go by the header's answer, in the room that it leaves; a header refusal ends it
unfoldable pub in_turn : Call → Answer × List ℤ
in_turn c =
    let h = header_to c in
    cond (eqb h.0.refusal 0) (blocks_to (with_room h.1 c) h.0) (ended_at h.0, h.1)
