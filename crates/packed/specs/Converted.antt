-- What a conversion answers, and the output after it: the reading's refusal; else 45 where the result does not fit; else the result stands
-- at the front of the output. A refusal writes nothing.
use Rattle.std.specs.Prelude.{cond, List, ◌++◌, ℕ, zero, suc, leb, length, drop}
use Rattle.packed.specs.Answers.{Answer}
use Rattle.packed.specs.Text.{text_verdict, text_packed}
use Rattle.packed.specs.Packed.{packed_verdict, packed_text}

-- the refusal of a reading and its result
abbrev pub refusal : ℕ → List ℕ → List ℕ → ℕ
refusal zero result out = cond (leb (length result) (length out)) 0 45
refusal (suc n) result out = suc n

abbrev pub answered : ℕ → List ℕ → List ℕ → Answer × List ℕ
answered zero result out = (record { refusal = 0; written = length result }, result ++ drop (length result) out)
answered (suc n) result out = (record { refusal = suc n; written = 0 }, out)

abbrev pub converted : ℕ → List ℕ → List ℕ → Answer × List ℕ
converted verdict result out = answered (refusal verdict result out) result out

-- both ways: the input, and the output before
abbrev pub packing : (listing out : List ℕ) → Answer × List ℕ
packing listing out = converted (text_verdict listing) (text_packed listing) out

abbrev pub unpacking : (packed out : List ℕ) → Answer × List ℕ
unpacking packed out = converted (packed_verdict packed) (packed_text packed) out
