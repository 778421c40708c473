-- What bits and bytes that come later can change of an answer: nothing but refusals 1 and 4, and nothing at all if they come
-- after the bit reached and the length stays. `proofs/Later.antt` proves it.
use Rattle.std.specs.Prelude.{Bool, ◌||◌, List, ◌++◌, ◌≡◌, ℕ, ◌≤◌, ◌<◌, eqb, length}
use Rattle.bits.specs.Bits.{bit_at}
use Rattle.syntax.specs.Rows.{is_span, Agree}
use Rattle.ac3.specs.Apart.{header_to}
use Rattle.ac3.specs.Promise.{Call, input, listed, bit_of, answer_to}

-- fewer than six bytes, and fewer than the frame's
abbrev pub is_short : ℕ → Bool
is_short n = eqb n 1 || eqb n 4

-- the longest frame's bytes
abbrev pub longest : ℕ
longest = 3840

abbrev pub append_to : Call → List ℕ → Call
append_to c more = record { capture = c.capture ++ more; place = c.place; room = c.room }

-- as long, from the place on, and alike before bit e
pub record AlikeBefore (e : ℕ) (c d : Call) : Type 0 where
  pub long : length (input c) ≡ length (input d)
  pub room : c.room ≡ d.room
  pub bits : (p : ℕ) → p < e → bit_at (input c) p ≡ bit_at (input d) p

pub record LaterBytes : Type 0 where
  -- refusals 1 and 4 alone can change when bytes come: every other answer stays, and the room after it
  pub stays : (c : Call) (more : List ℕ) → ¬ ((answer_to c).0.refusal ≡ 1) → ¬ ((answer_to c).0.refusal ≡ 4) → answer_to (append_to c more) ≡ answer_to c
  pub header_stays : (c : Call) (more : List ℕ) → ¬ ((header_to c).0.refusal ≡ 1) → ¬ ((header_to c).0.refusal ≡ 4) → header_to (append_to c more) ≡ header_to c
  -- and they go once there are bytes for the longest frame
  pub no_1 : (c : Call) → longest ≤ length (input c) → ¬ ((answer_to c).0.refusal ≡ 1)
  pub no_4 : (c : Call) → longest ≤ length (input c) → ¬ ((answer_to c).0.refusal ≡ 4)
  -- from the bit reached on nothing matters, accepted or not
  pub idle : (c d : Call) → AlikeBefore (answer_to c).0.bit c d → answer_to d ≡ answer_to c
  pub header_idle : (c d : Call) → AlikeBefore (header_to c).0.bit c d → header_to d ≡ header_to c
  -- nor do spans
  pub spans_idle : (c d : Call) → length (input c) ≡ length (input d) → c.room ≡ d.room → Agree is_span (input c) (input d) (listed c) (bit_of c) → answer_to d ≡ answer_to c
