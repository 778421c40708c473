-- IEC 61937 data bursts: the bytes of a burst, and what is looked at in one.
use Rattle.std.specs.Prelude.{Bool, true, ◌&&◌, List, [], ◌∷◌, ◌++◌, ℕ, ◌+◌, ◌-◌, ◌*◌, ◌/◌, ◌%◌, eqb, length, replicate}
use Rattle.bits.specs.Bits.{value}
use Rattle.writer.specs.Words.{word_bytes}

-- the bytes of a burst, and of the four words before its frame
abbrev pub burst_bytes : ℕ
burst_bytes = 6144

abbrev pub head_bytes : ℕ
head_bytes = 8

-- the third word: data type 1, and bsmod in bits 8 to 10
abbrev pub type_word : (bsmod : ℕ) → ℕ
type_word bsmod = 1 + 256 * bsmod

-- the four words: the fourth is the frame's length in bits
abbrev pub head : (bsmod bytes : ℕ) → List ℕ
head bsmod bytes = word_bytes 0xF872 ++ word_bytes 0x4E1F ++ word_bytes (type_word bsmod) ++ word_bytes (8 * bytes)

-- the words, the frame, and zeros to the end
abbrev pub burst_of : (bsmod : ℕ) (frame : List ℕ) → List ℕ
burst_of bsmod frame = head bsmod (length frame) ++ frame ++ replicate (burst_bytes - head_bytes - length frame) 0

-- ---- in a burst

-- one of its words, counted from 0: 16 bits, most significant first
abbrev pub word_at : List ℕ → ℕ → ℕ
word_at s i = value s (16 * i) 16

-- bits 8 to 10 of a word
abbrev pub mode_bits : ℕ → ℕ
mode_bits w = w / 256 % 8

-- the first three words are a burst's, whatever bits 8 to 10 of the third are
abbrev pub opens : List ℕ → Bool
opens s = eqb (word_at s 0) 0xF872 && (eqb (word_at s 1) 0x4E1F && eqb (word_at s 2) (type_word (mode_bits (word_at s 2))))

unfoldable pub all_zero : List ℕ → Bool
all_zero [] = true
all_zero (x ∷ xs) = eqb x 0 && all_zero xs
