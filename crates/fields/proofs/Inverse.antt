-- A record and its row say the same, because a role's two numbers give the role back, one role at a time. Assumes nothing.
use mathlib.Core.Bool.{Bool, true, false, cond}
use mathlib.Core.List.{List, [], ◌∷◌, ◌++◌, map}
use mathlib.Core.Path.{◌≡◌, refl, sym, ap, subst, ◌∙◌}
use Prim.Native.Nat.{ℕ, zero, suc, ◌*◌, ◌≤◌}
use native.Mathlib.Omega.{arith}
use borrow.Author.Tests.{eqb-true}
use lib.Dec.{eqb}
use lib.IntN.{ℤ, pos, negsuc}
use lib.ListN.{length, take, drop, length-append, length-map}
use lib.Seq.{length-take-le, take_at}
use Rattle.signed.specs.Level.{clamp_z}
use Rattle.syntax.specs.Numbers.{row_width, role_numbers, shown, numbers}
use Rattle.syntax.specs.Place.{flatten}
use Rattle.syntax.specs.Run.{Row}
use Rattle.syntax.specs.declared.Role.{Role}
use Rattle.syntax.specs.declared.Role.TheVariants.{Plain, Sync, Crc1, Crc2, CrcRsv, FrameSize, Dialnorm, ComprExists, Compr, DynrngExists, Dynrng, Skiple, Skipl, Skipfld, Addbsi, Mantissas, AuxBits, AuxDataL, AuxDataE, BlkStrtInfoE, BlkStrtInfo}
use Rattle.fields.specs.Fields.{programme_of, role_of, field_of, row_of, field_at, record_of, filled, fitting, offered, rows_of, rows_written}
use Rattle.fields.specs.Inverse.{InByte, InBytes, record_roles, row_roles, Inverse}
use Rattle.fields.specs.declared.Field.{Field}
use Rattle.fields.proofs.Filled.{length_listed, filled_listed, filled_back}
use Rattle.fields.proofs.Written.{length_written}

programme_back : (p : ℕ) → p ≤ 255 → programme_of (shown p) ≡ p
unfolding programme_of shown
programme_back p h = go (eqb p 255) refl
  where
    go : (b : Bool) → eqb p 255 ≡ b → programme_of (cond b (negsuc 0) (pos p)) ≡ p
    go true e = sym (eqb-true p 255 e)
    go false e = omega (arith, h)

-- the role that two numbers give
abbrev back : ℕ → ℕ → Role
back n p = role_of (clamp_z (pos n) 21) (programme_of (shown p))

role_back : (role : Role) → InByte role → back (role_numbers role).0 (role_numbers role).1 ≡ role
unfolding role_of
role_back Plain h = refl
role_back Sync h = refl
role_back Crc1 h = refl
role_back Crc2 h = refl
role_back CrcRsv h = refl
role_back FrameSize h = refl
role_back (Dialnorm p) h = ap Dialnorm (programme_back p h)
role_back (ComprExists p) h = ap ComprExists (programme_back p h)
role_back (Compr p) h = ap Compr (programme_back p h)
role_back (DynrngExists p) h = ap DynrngExists (programme_back p h)
role_back (Dynrng p) h = ap Dynrng (programme_back p h)
role_back Skiple h = refl
role_back Skipl h = refl
role_back Skipfld h = refl
role_back Addbsi h = refl
role_back Mantissas h = refl
role_back AuxBits h = refl
role_back AuxDataL h = refl
role_back AuxDataE h = refl
role_back BlkStrtInfoE h = refl
role_back BlkStrtInfo h = refl

-- a record with another role
abbrev with_role : Field → Role → Field
with_role f role = record { name = f.name; role = role; block = f.block; index = f.index; position = f.position; width = f.width; value = f.value; part = f.part }

field_back : (f : Field) → InByte f.role → field_of (row_of f) ≡ f
field_back f h = ap (with_role f) (role_back f.role h)

row_back : (r : Row) → InByte r.item.role → row_of (record_of r) ≡ numbers r
row_back r h = ap (λ (role : Role). row_of (with_role (record_of r) role)) (role_back r.item.role h)

-- ---- runs of them

fields_back : (fs : List Field) → InBytes (record_roles fs) → map (λ f. field_of (row_of f)) fs ≡ fs
fields_back [] h = refl
fields_back (f ∷ fs) h = λ j. field_back f h.0 j ∷ fields_back fs h.1 j

flat_back : (rs : List Row) → InBytes (row_roles rs) → rows_of (map record_of rs) ≡ flatten rs
unfolding rows_of flatten
flat_back [] h = refl
flat_back (r ∷ rs) h = λ j. row_back r h.0 j ++ flat_back rs h.1 j

in_front_lem : (n : ℕ) (fs : List Field) → InBytes (record_roles fs) → InBytes (record_roles (take n fs))
in_front_lem zero fs h = tt
in_front_lem (suc n) [] h = tt
in_front_lem (suc n) (f ∷ fs) h = (h.0, in_front_lem n fs h.1)

module _ (fields : List Field) (bytes : InBytes (record_roles fields)) (count : ℕ) (rows : List ℤ) (run : List Field) where
  abbrev n : ℕ
  n = (rows_written fields count rows).0

  -- the records whose rows were written, and the rows after that
  abbrev first : List Field
  first = take n fields

  abbrev after : List ℤ
  after = (rows_written fields count rows).1

  length_first : length first ≡ n
  length_first = length-take-le n fields (omega arith)

  length_after : length after ≡ length rows
  length_after = length_written fields rows n (omega arith) (omega arith)

  offered_back : length first ≤ length run → filled (field_at after) (length first) run ≡ first ++ drop (length first) run
  offered_back h =
      filled_back first (drop (n * row_width) rows) run h ∙ ap (λ (l : List Field). l ++ drop (length first) run) (fields_back first (in_front_lem n fields bytes))

  records_back : n ≤ length run → offered after n run ≡ (n, first ++ drop n run)
  records_back h = λ j. (all j, (ap (λ (m : ℕ). filled (field_at after) m run) all ∙ front) j)
    where
      all : fitting (length after) n (length run) ≡ n
      all = omega (arith, length_after, h)

      front : filled (field_at after) n run ≡ first ++ drop n run
      front = subst (λ (m : ℕ). filled (field_at after) m run ≡ first ++ drop m run) length_first (offered_back (omega (arith, length_first, h)))

module _ (rs : List Row) (bytes : InBytes (row_roles rs)) (more : List ℤ) (run : List Field) (room : List ℤ) (enough : length rs ≤ length run) (fits : length rs * row_width ≤ length room) where
  -- the run of records, once the rows are offered over it
  abbrev there : List Field
  there = map record_of rs ++ drop (length rs) run

  all_offered : fitting (length (flatten rs ++ more)) (length rs) (length run) ≡ length rs
  all_offered = omega (arith, length-append (flatten rs) more, length_listed rs, enough)

  offers : offered (flatten rs ++ more) (length rs) run ≡ (length rs, there)
  offers = λ j. (all_offered j, (ap (λ (m : ℕ). filled (field_at (flatten rs ++ more)) m run) all_offered ∙ filled_listed rs more run enough) j)

  length_records : length (map record_of rs) ≡ length rs
  length_records = length-map rs record_of

  all_written : fitting (length room) (length rs) (length there) ≡ length rs
  all_written = omega (arith, length-append (map record_of rs) (drop (length rs) run), length_records, fits)

  first_rows : rows_of (take (length rs) there) ≡ flatten rs
  first_rows = ap rows_of (take_at (map record_of rs) (drop (length rs) run) (length rs) length_records) ∙ flat_back rs bytes

  rows_back : let told = offered (flatten rs ++ more) (length rs) run in rows_written told.1 told.0 room ≡ (length rs, flatten rs ++ drop (length rs * row_width) room)
  rows_back =
      ap (λ (told : ℕ × List Field). rows_written told.1 told.0 room) offers
      ∙ ap (λ (m : ℕ). (m, rows_of (take m there) ++ drop (m * row_width) room)) all_written
      ∙ ap (λ (l : List ℤ). (length rs, l ++ drop (length rs * row_width) room)) first_rows

pub inverse : Inverse
inverse =
    record {
      field_back = field_back;
      record_is = λ r h. ap (with_role (record_of r)) (role_back r.item.role h);
      row_back = row_back;
      records_back = records_back;
      rows_back = rows_back;
    }
