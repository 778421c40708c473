-- The words of a burst are its bytes two by two, and its parts stand where they were put. Assumes nothing.
use mathlib.Core.Bool.{true, ◌&&◌}
use mathlib.Core.List.{List, ◌++◌}
use mathlib.Core.Path.{◌≡◌, refl, sym, ap, ◌∙◌}
use Prim.Native.Nat.{ℕ, zero, suc, ◌+◌, ◌-◌, ◌*◌, ◌/◌, ◌%◌, ◌≤◌, ◌<◌}
use native.Mathlib.Omega.{arith}
use borrow.Author.Tests.{eq-eqb}
use lib.ListN.{length, get_or, take, drop, replicate}
use lib.Seq.{take-append_seam, drop-append-add, drop-append_seam}
use Rattle.bits.specs.Bits.{value}
use Rattle.rows.proofs.Spelt.{spelt}
use Rattle.burst.specs.Burst.{burst_bytes, head_bytes, type_word, mode_bits, head, burst_of, word_at, opens, all_zero}

word_put : (s : List ℕ) (k w : ℕ) → w < 65536 → get_or s k 0 ≡ w / 256 → get_or s (k + 1) 0 ≡ w % 256 → value s (k * 8) 16 ≡ w
word_put s k w small high low = spelt s k (omega (arith, high)) (omega (arith, low)) ∙ omega (arith, high, low)

module _ (bsmod : ℕ) (mode : bsmod < 8) (frame : List ℕ) (fits : head_bytes + length frame ≤ burst_bytes) where
  abbrev burst : List ℕ
  burst = burst_of bsmod frame

  pub third : word_at burst 2 ≡ type_word bsmod
  third = word_put burst 4 (type_word bsmod) (omega arith) refl refl

  pub fourth : word_at burst 3 ≡ 8 * length frame
  fourth = word_put burst 6 (8 * length frame) (omega arith) refl refl

  pub mode_there : mode_bits (word_at burst 2) ≡ bsmod
  mode_there = ap mode_bits third ∙ omega arith

  pub opened : opens burst ≡ true
  opened =
      (λ j. eq-eqb (word_at burst 0) 0xF872 (word_put burst 0 0xF872 (omega arith) refl refl) j
      && (eq-eqb (word_at burst 1) 0x4E1F (word_put burst 2 0x4E1F (omega arith) refl refl) j
      && eq-eqb (word_at burst 2) (type_word (mode_bits (word_at burst 2))) (third ∙ ap type_word (sym mode_there)) j))

all_zero_lem : (n : ℕ) → all_zero (replicate n 0) ≡ true
unfolding all_zero
all_zero_lem zero = refl
all_zero_lem (suc n) = all_zero_lem n

module _ (bsmod : ℕ) (frame : List ℕ) where
  pub frame_there : take (length frame) (drop head_bytes (burst_of bsmod frame)) ≡ frame
  frame_there = take-append_seam frame _

  pub zeros_there : all_zero (drop (head_bytes + length frame) (burst_of bsmod frame)) ≡ true
  zeros_there = ap all_zero (drop-append-add (head bsmod (length frame)) (frame ++ replicate (burst_bytes - head_bytes - length frame) 0) (length frame) ∙ drop-append_seam frame _) ∙ all_zero_lem (burst_bytes - head_bytes - length frame)
