-- A row's nine numbers as a record, and a record as a row; a run of records that the first rows of a run of rows are offered over.
use Rattle.std.specs.Prelude.{List, [], ◌∷◌, ◌++◌, map, ℕ, zero, suc, ◌+◌, ◌*◌, ◌/◌, min, ℤ, pos, negsuc, length, get_or, set, take, drop, replicate}
use Rattle.signed.specs.Level.{clamp_z}
use Rattle.syntax.specs.Numbers.{row_width, role_numbers, shown, numbers}
use Rattle.syntax.specs.Run.{Row}
use Rattle.syntax.specs.declared.Role.{Role}
use Rattle.syntax.specs.declared.Role.TheVariants.{Plain, Sync, Crc1, Crc2, CrcRsv, FrameSize, Dialnorm, ComprExists, Compr, DynrngExists, Dynrng, Skiple, Skipl, Skipfld, Addbsi, Mantissas, AuxBits, AuxDataL, AuxDataE, BlkStrtInfoE, BlkStrtInfo}
use Rattle.ac3.specs.Frame.{answer}
use Rattle.ac3.specs.Promise.{Call, call, listed, answer_to}
use Rattle.ac3.specs.RowBound.{most_rows}
use Rattle.ac3.specs.declared.Answer.{Answer}
use Rattle.fields.specs.declared.Field.{Field}

-- a row's programme as a role holds it: 255 stands for "none", and for what is no programme
unfoldable pub programme_of : ℤ → ℕ
programme_of (pos n) = min n 255
programme_of (negsuc n) = 255

-- the roles of programme p, in the order of their numbers
abbrev pub roles : ℕ → List Role
roles p = Plain ∷ Sync ∷ Crc1 ∷ Crc2 ∷ CrcRsv ∷ FrameSize ∷ Dialnorm p ∷ ComprExists p ∷ Compr p ∷ DynrngExists p ∷ Dynrng p
    ∷ Skiple ∷ Skipl ∷ Skipfld ∷ Addbsi ∷ Mantissas ∷ AuxBits ∷ AuxDataL ∷ AuxDataE ∷ BlkStrtInfoE ∷ BlkStrtInfo ∷ []

-- the role of number n; a number that is no role's is Plain's
unfoldable pub role_of : ℕ → ℕ → Role
role_of n p = get_or (roles p) n Plain

-- the record of a row, and the row of a record
abbrev pub field_of : List ℤ → Field
field_of row =
    let n : ℕ → ℤ = λ k. get_or row k (pos 0) in
    record {
      name = n 0;
      role = role_of (clamp_z (n 1) 21) (programme_of (n 2));
      block = n 3;
      index = n 4;
      position = n 5;
      width = n 6;
      value = n 7;
      part = n 8;
    }

abbrev pub row_of : Field → List ℤ
row_of f =
    let said = role_numbers f.role in
    f.name ∷ pos said.0 ∷ shown said.1 ∷ f.block ∷ f.index ∷ f.position ∷ f.width ∷ f.value ∷ f.part ∷ []

-- row i of a run of rows, and its record
abbrev pub row_at : List ℤ → ℕ → List ℤ
row_at rows i =
    let at = i * row_width in
    let n : ℕ → ℤ = λ k. get_or rows k (pos 0) in
    n at ∷ n (at + 1) ∷ n (at + 2) ∷ n (at + 3) ∷ n (at + 4) ∷ n (at + 5) ∷ n (at + 6) ∷ n (at + 7) ∷ n (at + 8) ∷ []

abbrev pub field_at : List ℤ → ℕ → Field
field_at rows i = field_of (row_at rows i)

-- ---- a run of records

-- past its end a run is said to have this record, where nothing is read
abbrev pub blank : Field
blank = field_of []

-- the first n records are f 0, f 1, .., and the rest are as they were
unfoldable pub filled : (ℕ → Field) → ℕ → List Field → List Field
filled f zero old = old
filled f (suc n) old = set (filled f n old) n (f n)

-- how many of the first rows can be offered: as many as are asked for, stand there and have room
abbrev pub fitting : (numbers count room : ℕ) → ℕ
fitting numbers count room = min (min count (numbers / row_width)) room

-- as many records as were written, and the run after that
abbrev pub offered : (rows : List ℤ) (count : ℕ) (run : List Field) → ℕ × List Field
offered rows count run =
    let n = fitting (length rows) count (length run) in
    (n, filled (field_at rows) n run)

-- the numbers of the rows of records, one row after another
unfoldable pub rows_of : List Field → List ℤ
rows_of [] = []
rows_of (f ∷ fs) = row_of f ++ rows_of fs

-- as many rows as were written, and the run after that: the rows of the first records, and the rest as it was
abbrev pub rows_written : (fields : List Field) (count : ℕ) (rows : List ℤ) → ℕ × List ℤ
rows_written fields count rows =
    let n = fitting (length rows) count (length fields) in
    (n, rows_of (take n fields) ++ drop (n * row_width) rows)

-- ---- a frame's rows as records

-- the record of a row of the definition's list
abbrev pub record_of : Row → Field
record_of r = field_of (numbers r)

-- The answer to a call that may use the first n rows of a longer room, and that room after it.
abbrev pub answer_within : (n : ℕ) (capture : List ℕ) (place : ℕ) (room : List ℤ) → Answer × List ℤ
answer_within n capture place room =
    let told = answer capture place (take (n * row_width) room) in
    (told.0, told.1 ++ drop (n * row_width) room)

-- the call that a run of this many records is lent for: room for as many rows
abbrev pub call_for : (capture : List ℕ) (place records : ℕ) → Call
call_for capture place records = call capture place (replicate (records * row_width) (pos 0))

-- the answer is that of the call, and the records are those of the definition's list, in front; the rest of the run is as it was
abbrev pub parsed : (capture : List ℕ) (place : ℕ) (run : List Field) → Answer × List Field
parsed capture place run =
    let c = call_for capture place (length run) in
    ((answer_to c).0, map record_of (listed c) ++ drop (length (listed c)) run)

-- the same answer with room for as many rows as a frame can have, and the rows of the records in front of the lent ones
abbrev pub parsed_through : (capture : List ℕ) (place : ℕ) (rows : List ℤ) → Answer × List ℤ
parsed_through capture place rows =
    let told = parsed capture place (replicate most_rows blank) in
    (told.0, (rows_written told.1 told.0.rows rows).1)
