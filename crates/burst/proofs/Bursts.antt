-- What was written has every part where reading looks for it, and what is read has every part where writing puts it; the frame alone is the
-- same frame. Assumes nothing.
use mathlib.Core.Bool.{Bool, true, false, not, ◌&&◌, cond}
use mathlib.Core.List.{List, [], ◌∷◌, ◌++◌, append-nil}
use mathlib.Core.Path.{◌≡◌, refl, sym, ap, subst, ◌∙◌}
use Prim.Native.Nat.{ℕ, ◌+◌, ◌-◌, ◌*◌, ◌/◌, ◌%◌, ◌≤◌, ◌<◌}
use native.Mathlib.Omega.{arith}
use borrow.Author.Tests.{eqb-true, eqb-false, ltb-false, eq-eqb, le-ltb}
use lib.Dec.{eqb, ltb}
use lib.IntN.{ℤ}
use lib.ListN.{length, get_or, take, drop, replicate, length-drop, take-append-drop}
use lib.Seq.{take-append_seam, take-length, length-take-le, drop-drop}
use Rattle.bits.specs.Bits.{value}
use Rattle.bits.proofs.Range.{and_first}
use Rattle.syntax.specs.Names as Name
use Rattle.ac3.specs.Promise.{Call, input, answer_to, Accepted}
use Rattle.ac3.specs.declared.Answer as parse
use Rattle.rows.specs.Found.{value_of}
use Rattle.burst.specs.Answers.{Answer, refuses, gives, frame_in, writing, reading, answered, numbered, bsmod_of, written, read}
use Rattle.burst.specs.Burst.{burst_bytes, head_bytes, type_word, mode_bits, head, burst_of, word_at, opens, all_zero}
use Rattle.burst.specs.Bursts.{wrote, bytes_of, Gives, Bytes, AsManyRows, Inverse}
use Rattle.rows.specs.Framed.{frame_of, SameFrame, Framed}
use Rattle.burst.specs.declared.outcome.Refusal.TheVariants.{Frame, NoRoom, NotABurst, WrongWords, WrongLength, NotZero, OtherMode}
use Rattle.rows.proofs.Framed.{accepted_framed}
use Rattle.rows.proofs.Spelt.{spelt}
use Rattle.burst.proofs.Judged.{bsmod_lt, w_done, r_done}
use Rattle.burst.proofs.Words.{fourth, mode_there, opened, frame_there, zeros_there}
use Rattle.burst.proofs.Laid.{burst_long}

-- ---- what is not refused passed every check

module _ (lent : List ℤ) (out : List ℕ) (a : parse.Answer) (after : List ℤ) (b : ℕ) (s : List ℕ) where
  passed_writing : (numbered (answered lent out (a, after) (writing a b s (length out)))).0.refusal ≡ 0 → (a.refusal ≡ 0) × (burst_bytes ≤ length out)
  passed_writing = go (eqb a.refusal 0) (ltb (length out) burst_bytes) refl refl
    where
      go : (p q : Bool) → eqb a.refusal 0 ≡ p → ltb (length out) burst_bytes ≡ q
          → (numbered (answered lent out (a, after) (cond (not p) (refuses (Frame a.refusal)) (cond q (refuses NoRoom) (gives (burst_of b (frame_in a s))))))).0.refusal ≡ 0
          → (a.refusal ≡ 0) × (burst_bytes ≤ length out)
      go false q e f h = absurd (eqb-false a.refusal 0 e h)
      go true true e f h = absurd (omega (arith, h))
      go true false e f h = (eqb-true a.refusal 0 e, ltb-false (length out) burst_bytes f)

record Passed (a : parse.Answer) (b : ℕ) (burst out : List ℕ) : Type 0 where
  pub size : eqb (length burst) burst_bytes ≡ true
  pub words : opens burst ≡ true
  pub ok : eqb a.refusal 0 ≡ true
  pub long : eqb (word_at burst 3) (8 * a.summary.header.bytes) ≡ true
  pub zeros : all_zero (drop (head_bytes + a.summary.header.bytes) burst) ≡ true
  pub mode : eqb (mode_bits (word_at burst 2)) b ≡ true
  pub room : ltb (length out) a.summary.header.bytes ≡ false

module _ (lent : List ℤ) (out : List ℕ) (a : parse.Answer) (after : List ℤ) (b : ℕ) (burst : List ℕ) where
  abbrev n : ℕ
  n = a.summary.header.bytes

  passed_reading : (numbered (answered lent out (a, after) (reading a b burst (length out)))).0.refusal ≡ 0 → Passed a b burst out
  passed_reading = go (eqb (length burst) burst_bytes) (opens burst) (eqb a.refusal 0) (eqb (word_at burst 3) (8 * n)) (all_zero (drop (head_bytes + n) burst))
      (eqb (mode_bits (word_at burst 2)) b) (ltb (length out) n) refl refl refl refl refl refl refl
    where
      go : (p1 p2 p3 p4 p5 p6 p7 : Bool) → eqb (length burst) burst_bytes ≡ p1 → opens burst ≡ p2 → eqb a.refusal 0 ≡ p3 → eqb (word_at burst 3) (8 * n) ≡ p4
          → all_zero (drop (head_bytes + n) burst) ≡ p5 → eqb (mode_bits (word_at burst 2)) b ≡ p6 → ltb (length out) n ≡ p7
          → (numbered (answered lent out (a, after) (cond (not p1) (refuses NotABurst) (cond (not p2) (refuses WrongWords) (cond (not p3) (refuses (Frame a.refusal))
          (cond (not p4) (refuses WrongLength) (cond (not p5) (refuses NotZero) (cond (not p6) (refuses OtherMode) (cond p7 (refuses NoRoom)
          (gives (frame_in a (drop head_bytes burst)))))))))))).0.refusal ≡ 0
          → Passed a b burst out
      go false p2 p3 p4 p5 p6 p7 e1 e2 e3 e4 e5 e6 e7 h = absurd (omega (arith, h))
      go true false p3 p4 p5 p6 p7 e1 e2 e3 e4 e5 e6 e7 h = absurd (omega (arith, h))
      go true true false p4 p5 p6 p7 e1 e2 e3 e4 e5 e6 e7 h = absurd (eqb-false a.refusal 0 e3 h)
      go true true true false p5 p6 p7 e1 e2 e3 e4 e5 e6 e7 h = absurd (omega (arith, h))
      go true true true true false p6 p7 e1 e2 e3 e4 e5 e6 e7 h = absurd (omega (arith, h))
      go true true true true true false p7 e1 e2 e3 e4 e5 e6 e7 h = absurd (omega (arith, h))
      go true true true true true true true e1 e2 e3 e4 e5 e6 e7 h = absurd (omega (arith, h))
      go true true true true true true false e1 e2 e3 e4 e5 e6 e7 h = record { size = e1; words = e2; ok = e3; long = e4; zeros = e5; mode = e6; room = e7 }

-- ---- what was given

given : {x y : Answer × (List ℤ × List ℕ)} (bytes out : List ℕ) → x ≡ y → x.0.refusal ≡ 0 → x.0.bytes ≡ length bytes → x.1.1 ≡ bytes ++ drop (length bytes) out → Gives y bytes out
given bytes out e f c o = record { fine = ap (λ x. x.0.refusal) (sym e) ∙ f; count = ap (λ x. x.0.bytes) (sym e) ∙ c; output = ap (λ x. x.1.1) (sym e) ∙ o }

bytes_given : {x : Answer × (List ℤ × List ℕ)} {bytes out : List ℕ} → Gives x bytes out → bytes_of x ≡ bytes
bytes_given {x} {bytes} {out} g = (λ j. take (g.count j) (g.output j)) ∙ take-append_seam bytes (drop (length bytes) out)

-- ---- an accepted frame

module _ (c : Call) (ok : Accepted c) where
  known : Framed c
  known = accepted_framed c ok

  frame_long : length (frame_of c) ≡ (answer_to c).0.summary.header.bytes
  frame_long = length-take-le (answer_to c).0.summary.header.bytes (input c) known.inside

  fits : head_bytes + length (frame_of c) ≤ burst_bytes
  fits = omega (arith, frame_long, known.most)

  abbrev whole : List ℕ
  whole = burst_of (bsmod_of c) (frame_of c)

  writes : (out : List ℕ) → burst_bytes ≤ length out → Gives (wrote c out) whole out
  writes out long = given whole out (ap numbered (w_done c.room out (answer_to c).0 (answer_to c).1 (bsmod_of c) (input c) ok long)) refl refl refl

  -- reading its burst
  module _ (rows : List ℤ) (same_rows : AsManyRows c.room rows) where
    abbrev d : Call
    d = record { capture = whole; place = head_bytes; room = rows }

    there : (answer_to d).0 ≡ (answer_to c).0
    there = (known.anywhere d (replicate (burst_bytes - head_bytes - length (frame_of c)) 0) refl same_rows).answer

    mode_same : bsmod_of d ≡ bsmod_of c
    mode_same = ap (value_of Name.bsmod) (known.anywhere d (replicate (burst_bytes - head_bytes - length (frame_of c)) 0) refl same_rows).rows

    size_same : length (frame_of c) ≡ (answer_to d).0.summary.header.bytes
    size_same = frame_long ∙ ap (λ a. a.summary.header.bytes) (sym there)

    frame_same : frame_in (answer_to d).0 (drop head_bytes whole) ≡ frame_of c
    frame_same = ap (λ n. take n (drop head_bytes whole)) (sym size_same) ∙ frame_there (bsmod_of c) (frame_of c)

    reads : (room : List ℕ) → length (frame_of c) ≤ length room → Gives (read whole rows room) (frame_of c) room
    reads room long =
        given (frame_of c) room
        (ap numbered (r_done rows room (answer_to d).0 (answer_to d).1 (bsmod_of d) whole
        (eq-eqb (length whole) burst_bytes (burst_long (bsmod_of c) (frame_of c) fits))
        (opened (bsmod_of c) (bsmod_lt c ok) (frame_of c) fits)
        (eq-eqb (answer_to d).0.refusal 0 (ap (λ a. a.refusal) there ∙ ok))
        (eq-eqb (word_at whole 3) (8 * (answer_to d).0.summary.header.bytes) (fourth (bsmod_of c) (bsmod_lt c ok) (frame_of c) fits ∙ ap (λ n. 8 * n) size_same))
        (ap (λ n. all_zero (drop (head_bytes + n) whole)) (sym size_same) ∙ zeros_there (bsmod_of c) (frame_of c))
        (eq-eqb (mode_bits (word_at whole 2)) (bsmod_of d) (mode_there (bsmod_of c) (bsmod_lt c ok) (frame_of c) fits ∙ sym mode_same))
        (le-ltb (length room) (answer_to d).0.summary.header.bytes (omega (arith, size_same)))))
        refl (ap length frame_same) (ap (λ f. f ++ drop (length f) room) frame_same)

-- ---- the theorems

module _ (c : Call) (out : List ℕ) (well : (wrote c out).0.refusal ≡ 0) where
  abbrev both : ((answer_to c).0.refusal ≡ 0) × (burst_bytes ≤ length out)
  both = passed_writing c.room out (answer_to c).0 (answer_to c).1 (bsmod_of c) (input c) well

  wrote_bytes : bytes_of (wrote c out) ≡ burst_of (bsmod_of c) (frame_of c)
  wrote_bytes = bytes_given (writes c both.0 out both.1)

same_frame : (b b' : ℕ) (f f' : List ℕ) → b < 8 → b' < 8 → head_bytes + length f ≤ burst_bytes → head_bytes + length f' ≤ burst_bytes → burst_of b f ≡ burst_of b' f' → f ≡ f'
same_frame b b' f f' mode mode' fits fits' e =
    let long : length f ≡ length f' = omega (arith, sym (fourth b mode f fits) ∙ ap (λ s. word_at s 3) e ∙ fourth b' mode' f' fits') in
    sym (frame_there b f) ∙ (λ j. take (long j) (drop head_bytes (e j))) ∙ frame_there b' f'

-- ---- what was read

and_second : (a b : Bool) → (a && b) ≡ true → b ≡ true
and_second true b e = e
and_second false b e = let z : ◌≡◌ {A = ℕ} 0 1 = cc in absurd (omega arith)

zero_list : (s : List ℕ) → all_zero s ≡ true → s ≡ replicate (length s) 0
unfolding all_zero
zero_list [] h = refl
zero_list (x ∷ s) h = λ j. eqb-true x 0 (and_first (eqb x 0) (all_zero s) h) j ∷ zero_list s (and_second (eqb x 0) (all_zero s) h) j

eight : (s : List ℕ) → head_bytes ≤ length s
    → take head_bytes s ≡ get_or s 0 0 ∷ get_or s 1 0 ∷ get_or s 2 0 ∷ get_or s 3 0 ∷ get_or s 4 0 ∷ get_or s 5 0 ∷ get_or s 6 0 ∷ get_or s 7 0 ∷ []
eight [] h = absurd (omega (arith, h))
eight (_ ∷ []) h = absurd (omega (arith, h))
eight (_ ∷ _ ∷ []) h = absurd (omega (arith, h))
eight (_ ∷ _ ∷ _ ∷ []) h = absurd (omega (arith, h))
eight (_ ∷ _ ∷ _ ∷ _ ∷ []) h = absurd (omega (arith, h))
eight (_ ∷ _ ∷ _ ∷ _ ∷ _ ∷ []) h = absurd (omega (arith, h))
eight (_ ∷ _ ∷ _ ∷ _ ∷ _ ∷ _ ∷ []) h = absurd (omega (arith, h))
eight (_ ∷ _ ∷ _ ∷ _ ∷ _ ∷ _ ∷ _ ∷ []) h = absurd (omega (arith, h))
eight (_ ∷ _ ∷ _ ∷ _ ∷ _ ∷ _ ∷ _ ∷ _ ∷ s) h = refl

module _ (s : List ℕ) (bytes : Bytes s) (k w : ℕ) (is : value s (k * 8) 16 ≡ w) where
  high : get_or s k 0 ≡ w / 256
  high = let low_lt = bytes (k + 1) in omega (arith, sym (spelt s k (bytes k) (bytes (k + 1))) ∙ is)

  low : get_or s (k + 1) 0 ≡ w % 256
  low = let low_lt = bytes (k + 1) in omega (arith, sym (spelt s k (bytes k) (bytes (k + 1))) ∙ is)

module _ (burst : List ℕ) (rows : List ℤ) (out : List ℕ) (bytes : Bytes burst) (well : (read burst rows out).0.refusal ≡ 0) where
  abbrev e : Call
  e = record { capture = burst; place = head_bytes; room = rows }

  passed : Passed (answer_to e).0 (bsmod_of e) burst out
  passed = passed_reading rows out (answer_to e).0 (answer_to e).1 (bsmod_of e) burst well

  taken : Accepted e
  taken = eqb-true (answer_to e).0.refusal 0 passed.ok

  abbrev f : List ℕ
  f = frame_of e

  long : length burst ≡ burst_bytes
  long = eqb-true (length burst) burst_bytes passed.size

  size : length f ≡ (answer_to e).0.summary.header.bytes
  size = frame_long e taken

  abbrev right_type : Bool
  right_type = eqb (word_at burst 2) (type_word (mode_bits (word_at burst 2)))

  word_0 : word_at burst 0 ≡ 0xF872
  word_0 = eqb-true (word_at burst 0) 0xF872 (and_first (eqb (word_at burst 0) 0xF872) (eqb (word_at burst 1) 0x4E1F && right_type) passed.words)

  later_words : (eqb (word_at burst 1) 0x4E1F && right_type) ≡ true
  later_words = and_second (eqb (word_at burst 0) 0xF872) (eqb (word_at burst 1) 0x4E1F && right_type) passed.words

  word_1 : word_at burst 1 ≡ 0x4E1F
  word_1 = eqb-true (word_at burst 1) 0x4E1F (and_first (eqb (word_at burst 1) 0x4E1F) right_type later_words)

  word_2 : word_at burst 2 ≡ type_word (bsmod_of e)
  word_2 =
      eqb-true (word_at burst 2) (type_word (mode_bits (word_at burst 2))) (and_second (eqb (word_at burst 1) 0x4E1F) right_type later_words)
      ∙ ap type_word (eqb-true (mode_bits (word_at burst 2)) (bsmod_of e) passed.mode)

  word_3 : word_at burst 3 ≡ 8 * length f
  word_3 = eqb-true (word_at burst 3) (8 * (answer_to e).0.summary.header.bytes) passed.long ∙ ap (λ n. 8 * n) (sym size)

  head_is : take head_bytes burst ≡ head (bsmod_of e) (length f)
  head_is =
      eight burst (omega (arith, long))
      ∙ (λ j.
      high burst bytes 0 0xF872 word_0 j ∷ low burst bytes 0 0xF872 word_0 j ∷ high burst bytes 2 0x4E1F word_1 j ∷ low burst bytes 2 0x4E1F word_1 j
      ∷ high burst bytes 4 (type_word (bsmod_of e)) word_2 j ∷ low burst bytes 4 (type_word (bsmod_of e)) word_2 j
      ∷ high burst bytes 6 (8 * length f) word_3 j ∷ low burst bytes 6 (8 * length f) word_3 j ∷ [])

  rest_is : drop (length f) (drop head_bytes burst) ≡ replicate (burst_bytes - head_bytes - length f) 0
  rest_is =
      let from = head_bytes + length f in
      let count : length (drop from burst) ≡ burst_bytes - head_bytes - length f = omega (arith, length-drop from burst, long) in
      drop-drop (length f) head_bytes burst
      ∙ zero_list (drop from burst) (ap (λ n. all_zero (drop (head_bytes + n) burst)) size ∙ passed.zeros)
      ∙ ap (λ n. replicate n 0) count

  burst_is : burst ≡ burst_of (bsmod_of e) f
  burst_is =
      sym (take-append-drop head_bytes burst)
      ∙ (λ j. head_is j ++ (sym (take-append-drop (length f) (drop head_bytes burst)) ∙ (λ k. take (size k) (drop head_bytes burst) ++ rest_is k)) j)

  frame_read : Gives (read burst rows out) f out
  frame_read =
      given f out
      (ap numbered (r_done rows out (answer_to e).0 (answer_to e).1 (bsmod_of e) burst passed.size passed.words passed.ok passed.long passed.zeros passed.mode passed.room)) refl refl refl

  module _ (again : List ℤ) (room : List ℕ) (same_rows : AsManyRows rows again) (space : burst_bytes ≤ length room) where
    abbrev alone : Call
    alone = record { capture = f; place = 0; room = again }

    same : SameFrame e alone
    same = (accepted_framed e taken).anywhere alone [] (sym (append-nil f)) same_rows

    whole_frame : frame_of alone ≡ f
    whole_frame = ap (λ n. take n f) (ap (λ a. a.summary.header.bytes) same.answer ∙ sym size) ∙ take-length f

    same_burst : burst_of (bsmod_of alone) (frame_of alone) ≡ burst
    same_burst = (λ j. burst_of (value_of Name.bsmod (same.rows j)) (whole_frame j)) ∙ sym burst_is

    rewritten : Gives (written f 0 again room) burst room
    rewritten = subst (λ b. Gives (written f 0 again room) b room) same_burst (writes alone (ap (λ a. a.refusal) same.answer ∙ taken) room space)

pub inverse : Inverse
inverse =
    record {
      read_back = λ c out well rows room same long.
          let fine = (both c out well).0 in
          subst (λ b. Gives (read b rows room) (frame_of c) room) (sym (wrote_bytes c out well)) (reads c fine rows same room long);
      write_back = λ burst rows out bytes well again room same space.
          subst (λ f. Gives (written f 0 again room) burst room) (sym (bytes_given (frame_read burst rows out bytes well))) (rewritten burst rows out bytes well again room same space);
      apart = λ c d out room well good e.
          let fine = (both c out well).0 in
          let fair = (both d room good).0 in
          same_frame (bsmod_of c) (bsmod_of d) (frame_of c) (frame_of d) (bsmod_lt c fine) (bsmod_lt d fair) (fits c fine) (fits d fair)
          (sym (wrote_bytes c out well) ∙ e ∙ wrote_bytes d room good);
    }

-- any two answers that are allowed for one call coincide, with the rooms and outputs after them
pub one_answer : (expected : Answer × (List ℤ × List ℕ)) {a b : Answer × (List ℤ × List ℕ)} → a ≡ expected → b ≡ expected → a ≡ b
one_answer expected p q = p ∙ sym q
