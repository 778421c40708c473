-- What is answered of the answer to the parse, where that is not seen at once; and bsmod as it stands in the rows is the definition's, which has
-- three bits. Assumes nothing.
use mathlib.Core.Bool.{true, false}
use mathlib.Core.List.{List, ◌++◌}
use Rattle.std.specs.Prelude.{Result, Ok, Err}
use mathlib.Core.Path.{◌≡◌, sym, ap, ◌∙◌}
use Prim.Native.Nat.{ℕ, ◌+◌, ◌*◌, ◌≤◌, ◌<◌, min}
use native.Mathlib.Omega.{arith}
use borrow.Author.Tests.{eq-eqb, ne_eqb, lt-ltb, le-ltb}
use lib.Dec.{eqb, ltb}
use lib.IntN.{ℤ}
use lib.ListN.{length, drop, length-drop}
use lib.Seq.{sets, length-take-le}
use Rattle.bits.specs.Bits.{value}
use Rattle.bits.proofs.Window.{value_lt}
use Rattle.signed.specs.Level.{clamp_z}
use Rattle.writer.proofs.Written.{in_front_lem}
use Rattle.syntax.specs.Names as Name
use Rattle.ac3.specs.Later.{longest}
use Rattle.ac3.specs.Promise.{Call, input, answer_to, Accepted}
use Rattle.ac3.specs.declared.Answer as parse
use Rattle.rows.specs.Look.{value_in}
use Rattle.rows.proofs.Found.{looks_up}
use Rattle.rows.proofs.Opening.{head_rows}
use Rattle.burst.specs.Burst.{burst_bytes, head_bytes, burst_of, word_at, mode_bits, opens, all_zero}
use Rattle.burst.specs.Answers.{frame_in, writing, reading, answered, bsmod_of, burst_write, burst_read}
use Rattle.burst.specs.declared.outcome.Refusal.TheVariants.{NoRoom, OtherMode}
use Rattle.burst.specs.declared.outcome.Refused.{Refused}
use Rattle.burst.specs.declared.outcome.Written.{Written}
use Rattle.rows.proofs.Framed.{accepted_framed}
use Rattle.burst.proofs.Laid.{burst_long}

-- ---- bsmod

module _ (c : Call) (ok : Accepted c) where
  pub bsmod_bits : bsmod_of c ≡ value (input c) 45 3
  bsmod_bits = (looks_up c Name.bsmod).row_value 5 _ (head_rows c ok).bsmod

  pub bsmod_lt : bsmod_of c < 8
  bsmod_lt = omega (arith, bsmod_bits, value_lt (input c) 45 3)

  pub bsmod_found : {b : ℕ} → b ≡ clamp_z (value_in (answer_to c).0.rows Name.bsmod (answer_to c).1) 7 → b ≡ bsmod_of c
  bsmod_found e = let held : min (bsmod_of c) 7 ≡ bsmod_of c = omega (arith, bsmod_lt) in e ∙ ap (λ z. clamp_z z 7) (looks_up c Name.bsmod).valued ∙ held

-- ---- of an answer

module _ (c : Call) {a : parse.Answer} {after : List ℤ} (is : (a, after) ≡ answer_to c) (ok : a.refusal ≡ 0) where
  abbrev accepted : Accepted c
  accepted = sym (ap (λ x. x.0.refusal) is) ∙ ok

  bytes_are : a.summary.header.bytes ≡ (answer_to c).0.summary.header.bytes
  bytes_are = ap (λ x. x.0.summary.header.bytes) is

  pub inside : a.summary.header.bytes ≤ length (input c)
  inside = omega (arith, bytes_are, (accepted_framed c accepted).inside)

  pub some : 0 < a.summary.header.bytes
  some = omega (arith, bytes_are, (accepted_framed c accepted).some)

  pub most : a.summary.header.bytes ≤ longest
  most = omega (arith, bytes_are, (accepted_framed c accepted).most)

  pub found : {b : ℕ} → b ≡ clamp_z (value_in a.rows Name.bsmod after) 7 → b ≡ bsmod_of c
  found e = bsmod_found c accepted (e ∙ (λ j. clamp_z (value_in (is j).0.rows Name.bsmod (is j).1) 7))

  frame_long : length (frame_in a (input c)) ≡ a.summary.header.bytes
  frame_long = length-take-le a.summary.header.bytes (input c) inside

-- ---- writing

module _ (lent : List ℤ) (out : List ℕ) (a : parse.Answer) (after : List ℤ) (b : ℕ) (s : List ℕ) where
  abbrev Writes : Result Written Refused → List ℕ → Type 0
  Writes r out' = (r, (after, out')) ≡ answered lent out (a, after) (writing a b s (length out))

  pub w_done : a.refusal ≡ 0 → burst_bytes ≤ length out
      → let burst = burst_of b (frame_in a s) in
      Writes (Ok (record { rows = a.rows; bytes = length burst })) (burst ++ drop (length burst) out)
  w_done h long = rw (eq-eqb a.refusal 0 h, le-ltb (length out) burst_bytes long)

module _ (capture : List ℕ) (place : ℕ) (rows : List ℤ) (out : List ℕ) where
  abbrev at : Call
  at = record { capture = capture; place = place; room = rows }

  module _ {a : parse.Answer} {after : List ℤ} (is : (a, after) ≡ answer_to at) where
    abbrev Wrote : Result Written Refused → List ℕ → Type 0
    Wrote r out' = (r, (after, out')) ≡ burst_write capture place rows out

    as_told : answered rows out (a, after) (writing a (bsmod_of at) (input at) (length out)) ≡ burst_write capture place rows out
    as_told = ap (λ x. answered rows out x (writing x.0 (bsmod_of at) (input at) (length out))) is

    module _ (ok : a.refusal ≡ 0) where
      pub ends : place + a.summary.header.bytes ≤ length capture
      ends = omega (arith, inside at is ok, some at is ok, length-drop place capture)

      pub fits : head_bytes + length (frame_in a (input at)) ≤ burst_bytes
      fits = omega (arith, frame_long at is ok, most at is ok)

      pub put_burst : {b : ℕ} {out' : List ℕ} (frame : List ℕ) → burst_bytes ≤ length out → b ≡ clamp_z (value_in a.rows Name.bsmod after) 7 → frame ≡ frame_in a (input at)
          → out' ≡ burst_of b frame ++ drop burst_bytes out → Wrote (Ok (record { rows = a.rows; bytes = burst_bytes })) out'
      put_burst frame long mode same put =
          let frame' = frame_in a (input at) in
          let size = burst_long (bsmod_of at) frame' fits in
          (λ j. (Ok (record { rows = a.rows; bytes = sym size j }), (after, (put ∙ (λ k. burst_of (found at is ok mode k) (same k) ++ drop (sym size k) out)) j)))
          ∙ w_done rows out a after (bsmod_of at) (input at) ok long
          ∙ as_told

-- ---- reading

module _ (lent : List ℤ) (out : List ℕ) (a : parse.Answer) (after : List ℤ) (b : ℕ) (burst : List ℕ) where
  abbrev Reads : Result Written Refused → List ℤ → List ℕ → Type 0
  Reads r room out' = (r, (room, out')) ≡ answered lent out (a, after) (reading a b burst (length out))

  abbrev bytes : ℕ
  bytes = a.summary.header.bytes

  module _ (size : eqb (length burst) burst_bytes ≡ true) where
    module _ (words : opens burst ≡ true) where
      module _ (ok : eqb a.refusal 0 ≡ true) where
        module _ (long : eqb (word_at burst 3) (8 * bytes) ≡ true) where
          module _ (zero-after : all_zero (drop (head_bytes + bytes) burst) ≡ true) where
            r_mode : eqb (mode_bits (word_at burst 2)) b ≡ false → Reads (Err (record { refusal = OtherMode; rows = a.rows })) after out
            r_mode h = rw (size, words, ok, long, zero-after, h)

            module _ (mode : eqb (mode_bits (word_at burst 2)) b ≡ true) where
              r_room : ltb (length out) bytes ≡ true → Reads (Err (record { refusal = NoRoom; rows = a.rows })) after out
              r_room h = rw (size, words, ok, long, zero-after, mode, h)

              pub r_done : ltb (length out) bytes ≡ false
                  → let frame = frame_in a (drop head_bytes burst) in
                  Reads (Ok (record { rows = a.rows; bytes = length frame })) after (frame ++ drop (length frame) out)
              r_done h = rw (size, words, ok, long, zero-after, mode, h)

module _ (burst : List ℕ) (rows : List ℤ) (out : List ℕ) where
  abbrev behind : Call
  behind = record { capture = burst; place = head_bytes; room = rows }

  abbrev Read : Result Written Refused → List ℤ → List ℕ → Type 0
  Read r after out' = (r, (after, out')) ≡ burst_read burst rows out

  module _ (size : length burst ≡ burst_bytes) where
    abbrev sized : eqb (length burst) burst_bytes ≡ true
    sized = eq-eqb (length burst) burst_bytes size

    module _ (words : opens burst ≡ true) {a : parse.Answer} {after : List ℤ} (is : (a, after) ≡ answer_to behind) where
      as_read : answered rows out (a, after) (reading a (bsmod_of behind) burst (length out)) ≡ burst_read burst rows out
      as_read = ap (λ x. answered rows out x (reading x.0 (bsmod_of behind) burst (length out))) is

      module _ (ok : a.refusal ≡ 0) where
        abbrev size_of : ℕ
        size_of = a.summary.header.bytes

        abbrev taken : eqb a.refusal 0 ≡ true
        taken = eq-eqb a.refusal 0 ok

        pub end_inside : head_bytes + size_of ≤ length burst
        end_inside = omega (arith, inside behind is ok, some behind is ok, length-drop head_bytes burst)

        module _ (fourth : word_at burst 3 ≡ 8 * size_of) where
          abbrev long : eqb (word_at burst 3) (8 * size_of) ≡ true
          long = eq-eqb (word_at burst 3) (8 * size_of) fourth

          module _ (zeros : all_zero (drop (head_bytes + size_of) burst) ≡ true) {b w : ℕ} (mode : b ≡ clamp_z (value_in a.rows Name.bsmod after) 7) (third : w ≡ word_at burst 2) where
            pub other_mode_lem : {r : Refused} → ¬ (mode_bits w ≡ b) → r ≡ record { refusal = OtherMode; rows = a.rows } → Read (Err r) after out
            other_mode_lem h k =
                ap (λ r. (Err r, (after, out))) k
                ∙ r_mode rows out a after (bsmod_of behind) burst sized words taken long zeros
                (ne_eqb (mode_bits (word_at burst 2)) (bsmod_of behind) (λ e. h (ap mode_bits third ∙ e ∙ sym (found behind is ok mode))))
                ∙ as_read

            module _ (same : mode_bits w ≡ b) where
              abbrev agreed : eqb (mode_bits (word_at burst 2)) (bsmod_of behind) ≡ true
              agreed = eq-eqb (mode_bits (word_at burst 2)) (bsmod_of behind) (ap mode_bits (sym third) ∙ same ∙ found behind is ok mode)

              pub room_short : {r : Refused} → length out < size_of → r ≡ record { refusal = NoRoom; rows = a.rows } → Read (Err r) after out
              room_short h k =
                  ap (λ r. (Err r, (after, out))) k ∙ r_room rows out a after (bsmod_of behind) burst sized words taken long zeros agreed (lt-ltb (length out) size_of h) ∙ as_read

              pub copied : {out' : List ℕ} (frame : List ℕ) → size_of ≤ length out → frame ≡ frame_in a (drop head_bytes burst) → out' ≡ sets out 0 frame
                  → Read (Ok (record { rows = a.rows; bytes = size_of })) after out'
              copied frame h e put =
                  let frame' = frame_in a (drop head_bytes burst) in
                  let size : length frame' ≡ size_of = frame_long behind is ok in
                  (λ j. (Ok (record { rows = a.rows; bytes = sym size j }), (after, (put ∙ ap (sets out 0) e ∙ in_front_lem frame' out (omega (arith, size))) j)))
                  ∙ r_done rows out a after (bsmod_of behind) burst sized words taken long zeros agreed (le-ltb (length out) size_of h)
                  ∙ as_read
