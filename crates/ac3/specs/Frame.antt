-- A frame up to the end of its audio: the header and six blocks; and the answer to a call.
use Rattle.std.specs.Prelude.{true, false, List, [], ℕ, ℤ, pos, replicate, drop}
use Rattle.syntax.specs.declared.Refusal.{Refusal}
use Rattle.syntax.specs.Refusals.{number, name, block}
use Rattle.syntax.specs.Grammar.{Grammar, done, ◌>>=◌, position, for}
use Rattle.syntax.specs.Place.{Place, Outcome, got, no, exec, fresh}
use Rattle.header.specs.Header.{header}
use Rattle.header.specs.declared.Header.{Header}
use Rattle.slots.specs.Slots.{no_deltas}
use Rattle.ac3.specs.AudioBlock.{Carry, audio_block}
use Rattle.ac3.specs.declared.Answer.{Answer}
use Rattle.ac3.specs.declared.Summary.{Summary}
use Rattle.ac3.specs.declared.State.{State}
use Rattle.ac3.specs.declared.Tally.{Tally}

-- nothing was sent yet
abbrev pub unsent : State
unsent =
    record {
      coupling = record { cplinu = false; chincpl = replicate 5 false; phsflginu = false; cplbegf = 0; cplendf = 0; ncplbnd = 0 };
      bandwidths = record { sent = replicate 5 false; chbwcod = replicate 5 0 };
      cover = record { sent = replicate 7 false; start = replicate 7 0; end = replicate 7 0 };
      alloc = record {
        curve = record { sdcycod = 0; fdcycod = 0; sgaincod = 0; dbpbcod = 0; floorcod = 0 };
        offsets = record { csnroffst = 0; fsnroffst = replicate 7 0; fgaincod = replicate 7 0 };
        leak = record { sent = false; cplfleak = 0; cplsleak = 0 };
        deltas = replicate 7 no_deltas;
      };
    }

-- so many are the counts of mantissa bits: seven slots in each of six blocks
abbrev pub slot_counts : ℕ
slot_counts = 42

-- "coordinates sent" is yes until a block says otherwise
abbrev pub uncounted : Tally
uncounted = record { coupled = 0; coordinates = true; starts = replicate 6 0; mantissas = replicate 6 0; bits = replicate slot_counts 0 }

abbrev pub unread : Carry
unread = record { state = unsent; exps = replicate 7 (replicate 256 (pos 0)); tally = uncounted; blocks = [] }

-- the frame's answer
pub record Audio : Type 0 where
  pub header : Header
  pub tally : Tally
  pub end : ℕ

unfoldable pub audio : Header → Grammar Audio
audio h = do
  last ← for 0 6 unread (audio_block h)
  end ← position
  done (record { header = h; tally = last.tally; end = end })

unfoldable pub syncframe : Grammar Audio
syncframe = do
  h ← header
  audio h

-- ---- the answer to a call, and the lent room after it

abbrev pub summary_of : (rows : ℕ) → Audio → Summary
summary_of rows a = record { rows = rows; end = a.end; header = a.header; tally = a.tally }

-- a refusal's summary is all zeros
abbrev pub no_summary : Summary
no_summary =
    record {
      rows = 0;
      end = 0;
      header = record { bytes = 0; fscod = 0; bsid = 0; acmod = 0; lfeon = false };
      tally = record { coupled = 0; coordinates = false; starts = replicate 6 0; mantissas = replicate 6 0; bits = replicate slot_counts 0 };
    }

-- a refusal is told by its three numbers, and what is accepted by 0, no name and no block
abbrev pub accepted_at : Place → Summary → Answer
accepted_at p summary = record { refusal = 0; rows = p.count; bit = p.at; name = 0; block = 255; summary = summary }

abbrev pub answer_at : Place → Refusal → Answer
answer_at p x = record { refusal = number x; rows = p.count; bit = p.at; name = name x; block = block x; summary = no_summary }

unfoldable pub answered : Outcome Audio → Answer × List ℤ
answered (got a p) = (accepted_at p (summary_of p.count a), p.room)
answered (no x p) = (answer_at p x, p.room)

-- the frame at this byte of a capture: past the end there is nothing, which is too short
abbrev pub answer : (capture : List ℕ) (place : ℕ) (room : List ℤ) → Answer × List ℤ
answer capture place room = answered (exec syncframe (drop place capture) (fresh room))
