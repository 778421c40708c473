-- What is listed of a mended frame, in frame order: the fields whose values changed. Three numbers to a change: name, old value, new value.
use Rattle.std.specs.Prelude.{ℕ, ◌-◌, ◌*◌, cond, List, [], ◌∷◌, ◌++◌, eqb, ℤ, pos}
use Rattle.bits.specs.Bits.{value}
use Rattle.syntax.specs.Names as Name
use Rattle.mend.specs.Mend.{after_mend}
use Rattle.mend.specs.declared.Fields.{Fields}

-- no row of a parse has these two names
abbrev pub crcrsv : ℕ
crcrsv = 112

abbrev pub crc2 : ℕ
crc2 = 113

-- the fields that may change
abbrev pub fields_of : (words : ℕ) → List ℕ → (at n : ℕ) → Fields
fields_of words s at n = record { crc1 = value s 16 16; field = value s at n; crcrsv = value s (words * 16 - 17) 1; crc2 = value s ((words - 1) * 16) 16 }

-- nothing where the value stayed
unfoldable pub changed : (name old new : ℕ) → List ℤ
changed name old new = cond (eqb old new) [] (pos name ∷ pos old ∷ pos new ∷ [])

unfoldable pub changes_of : (name : ℕ) (old new : Fields) → List ℤ
changes_of name old new =
    changed Name.crc1 old.crc1 new.crc1 ++ changed name old.field new.field
    ++ changed crcrsv old.crcrsv new.crcrsv ++ changed crc2 old.crc2 new.crc2

-- of the frame that `after_mend` leaves
unfoldable pub changes : (name words : ℕ) → List ℕ → (at n v : ℕ) → List ℤ
changes name words s at n v = changes_of name (fields_of words s at n) (fields_of words (after_mend words s at n v) at n)
