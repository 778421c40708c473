-- Fields that may be edited freely: new bits in them, and in spans, change those values and nothing else.
use Rattle.std.specs.Prelude.{◌||◌, List, [], ◌∷◌, ◌≡◌, ℕ, ◌<◌, T, length}
use Rattle.bits.specs.Bits.{bit_at}
use Rattle.syntax.specs.Names.{editable, spans}
use Rattle.syntax.specs.Rows.{Holds, reread_all}
use Rattle.syntax.specs.Run.{Row, parse}
use Rattle.ac3.specs.Frame.{syncframe}
use Rattle.ac3.specs.Marked.{among}
use Rattle.ac3.specs.Promise.{Call, input, room_for, listed, bit_of, answer_to, Accepted}

-- bit p lies in no row of an editable name, and in no span
abbrev pub OutsideEditable : List Row → ℕ → Type 0
OutsideEditable [] p = Unit {0}
OutsideEditable (r ∷ rs) p = (T (among r.item.name editable || among r.item.name spans) → ¬ Holds r p) × OutsideEditable rs p

-- d is c with other bits, as many, in editable fields, in spans, or from the end of the audio on
pub record Edited (c d : Call) : Type 0 where
  pub long : length (input c) ≡ length (input d)
  pub room : c.room ≡ d.room
  pub bits : (p : ℕ) → p < bit_of c → OutsideEditable (listed c) p → bit_at (input c) p ≡ bit_at (input d) p

pub record EditFreely : Type 0 where
  -- the rows are the same but for the values of editable fields, which are read anew; all else is the same
  pub rows : (c d : Call) → Accepted c → Edited c d → parse syncframe (input d) (room_for d) ≡ reread_all (input d) (parse syncframe (input c) (room_for c))
  -- and the answer is
  pub answer : (c d : Call) → Accepted c → Edited c d → (answer_to d).0 ≡ (answer_to c).0
