-- A record and its row say the same: what holds of every record whose programme is a byte, as all that the code can hold are.
use Rattle.std.specs.Prelude.{List, [], ◌∷◌, ◌++◌, map, ◌≡◌, ℕ, ◌*◌, ◌≤◌, ℤ, pos, length, take, drop}
use Rattle.syntax.specs.Numbers.{row_width, role_numbers, shown, numbers}
use Rattle.syntax.specs.Place.{flatten}
use Rattle.syntax.specs.Run.{Row}
use Rattle.syntax.specs.declared.Role.{Role}
use Rattle.fields.specs.Fields.{field_of, row_of, record_of, offered, rows_written}
use Rattle.fields.specs.declared.Field.{Field}

-- the programme is a byte, or there is none
abbrev pub InByte : Role → Type 0
InByte role = (role_numbers role).1 ≤ 255

abbrev pub InBytes : List Role → Type 0
InBytes [] = Unit {0}
InBytes (role ∷ roles) = InByte role × InBytes roles

abbrev pub record_roles : List Field → List Role
record_roles = map (λ f. f.role)

abbrev pub row_roles : List Row → List Role
row_roles = map (λ r. r.item.role)

pub record Inverse : Type 0 where
  -- from a record to its row and back
  pub field_back : (f : Field) → InByte f.role → field_of (row_of f) ≡ f
  -- the record of a row of the definition's list has the row's own role
  pub record_is : (r : Row) → InByte r.item.role
      → record_of r
      ≡ record {
        name = pos r.item.name;
        role = r.item.role;
        block = shown r.item.block;
        index = shown r.item.index;
        position = pos r.at;
        width = pos r.width;
        value = pos r.value;
        part = shown r.item.part;
      }
  -- and gives the row back
  pub row_back : (r : Row) → InByte r.item.role → row_of (record_of r) ≡ numbers r
  -- Rows of records (`rows_of`), offered over a run (`offer`): the records stand in front, and the rest is as it was. So over the same records
  -- nothing changes.
  pub records_back : (fields : List Field) → InBytes (record_roles fields) → (count : ℕ) (rows : List ℤ) (run : List Field)
      → let n = (rows_written fields count rows).0 in
      n ≤ length run → offered (rows_written fields count rows).1 n run ≡ (n, take n fields ++ drop n run)
  -- Rows of the definition, offered as records, and rows made of those in a room: the rows stand in front, and the rest is as it was.
  pub rows_back : (rs : List Row) → InBytes (row_roles rs) → (more : List ℤ) (run : List Field) (room : List ℤ)
      → length rs ≤ length run → length rs * row_width ≤ length room
      → let told = offered (flatten rs ++ more) (length rs) run in
      rows_written told.1 told.0 room ≡ (length rs, flatten rs ++ drop (length rs * row_width) room)
