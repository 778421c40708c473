-- Four words, the frame and the zeros, written one behind the other, are the burst, and what lies behind it is as it was. Assumes nothing.
use mathlib.Core.List.{List, ◌++◌}
use mathlib.Core.Path.{◌≡◌, refl, sym, ap, ◌∙◌}
use Prim.Native.Nat.{ℕ, ◌+◌, ◌-◌, ◌*◌, ◌≤◌}
use native.Mathlib.Omega.{arith}
use lib.ListN.{length, drop, replicate, length-append, length-replicate}
use lib.Seq.{sets}
use Rattle.writer.specs.Words.{word_bytes}
use Rattle.naturals.proofs.Stored.{sets_append}
use Rattle.writer.proofs.Written.{in_front_lem}
use Rattle.burst.specs.Burst.{burst_bytes, head_bytes, type_word, head, burst_of}

module _ (bsmod : ℕ) (frame : List ℕ) (fits : head_bytes + length frame ≤ burst_bytes) where
  abbrev zeros : List ℕ
  zeros = replicate (burst_bytes - head_bytes - length frame) 0

  pub burst_long : length (burst_of bsmod frame) ≡ burst_bytes
  burst_long = omega (arith, length-append frame zeros, length-replicate {A = ℕ} (burst_bytes - head_bytes - length frame) 0)

  module _ (out : List ℕ) (room : burst_bytes ≤ length out) where
    put_all : sets (sets (sets out 0 (head bsmod (length frame))) head_bytes frame) (head_bytes + length frame) zeros ≡ burst_of bsmod frame ++ drop burst_bytes out
    put_all =
        sym (sets_append frame zeros (sets out 0 (head bsmod (length frame))) head_bytes (head_bytes + length frame) refl)
        ∙ sym (sets_append (head bsmod (length frame)) (frame ++ zeros) out 0 head_bytes refl)
        ∙ in_front_lem (burst_of bsmod frame) out (omega (arith, burst_long))
        ∙ ap (λ n. burst_of bsmod frame ++ drop n out) burst_long

    pub put_one_by_one : {o1 o2 o3 o4 o5 o6 : List ℕ} {w : ℕ} → w ≡ 8 * length frame
        → o1 ≡ sets out 0 (word_bytes 0xF872)
        → o2 ≡ sets o1 2 (word_bytes 0x4E1F)
        → o3 ≡ sets o2 4 (word_bytes (type_word bsmod))
        → o4 ≡ sets o3 6 (word_bytes w)
        → o5 ≡ sets o4 head_bytes frame
        → o6 ≡ sets o5 (head_bytes + length frame) zeros
        → o6 ≡ burst_of bsmod frame ++ drop burst_bytes out
    put_one_by_one {w = w} e e1 e2 e3 e4 e5 e6 =
        let four = e4 ∙ ap (λ o. sets o 6 (word_bytes w)) (e3 ∙ ap (λ o. sets o 4 (word_bytes (type_word bsmod))) (e2 ∙ ap (λ o. sets o 2 (word_bytes 0x4E1F)) e1)) in
        let words = four ∙ ap (λ w. sets (sets (sets (sets out 0 (word_bytes 0xF872)) 2 (word_bytes 0x4E1F)) 4 (word_bytes (type_word bsmod))) 6 (word_bytes w)) e in
        e6 ∙ ap (λ o. sets o (head_bytes + length frame) zeros) (e5 ∙ ap (λ o. sets o head_bytes frame) words) ∙ put_all
