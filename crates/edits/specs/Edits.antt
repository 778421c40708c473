-- A value written into a field of a frame that stands in a capture: the answer, and the capture after it.
use Rattle.std.specs.Prelude.{Bool, cond, ◌||◌, List, ℕ, ◌+◌, ◌*◌, ◌^◌, eqb, leb, ltb, length, Result, Ok, Err}
use Rattle.bits.specs.Put.{put}
use Rattle.edits.specs.declared.Refusal.{Refusal}
use Rattle.edits.specs.declared.Refusal.TheVariants.{NoFieldWidth, Outside, ValueTooWide}

-- a field has 1 to 16 bits
abbrev pub no_width : ℕ → Bool
no_width width = eqb width 0 || ltb 16 width

-- the first of these that is so refuses, and then nothing is written: no such width; a field that ends past the capture; a value that the
-- field does not hold
unfoldable pub set : (capture : List ℕ) (place position width value : ℕ) → ℕ × List ℕ
set capture place position width value =
    cond (no_width width) (57, capture)
    (cond (ltb (length capture * 8) (place * 8 + position + width)) (58, capture)
    (cond (leb (2 ^ width) value) (59, capture) (0, put capture (place * 8 + position) width value)))

-- the number that is told of a refusal, and of an answer, where 0 says that the value was written
abbrev pub number : Refusal → ℕ
number NoFieldWidth = 57
number Outside = 58
number ValueTooWide = 59

abbrev pub told : Result (Unit {0}) Refusal → ℕ
told (Ok written) = 0
told (Err refusal) = number refusal
