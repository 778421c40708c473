-- The numbers that record a row.
use Rattle.std.specs.Prelude.{ℕ, eqb, cond, List, [], ◌∷◌, ℤ, pos, negsuc}
use Rattle.syntax.specs.declared.Role.{Role}
use Rattle.syntax.specs.declared.Role.TheVariants.{Plain, Sync, Crc1, Crc2, CrcRsv, FrameSize, Dialnorm, ComprExists, Compr, DynrngExists, Dynrng, Skiple, Skipl, Skipfld, Addbsi, Mantissas, AuxBits, AuxDataL, AuxDataE, BlkStrtInfoE, BlkStrtInfo}
use Rattle.syntax.specs.declared.RoleNumbers.{RoleNumbers}
use Rattle.syntax.specs.Run.{Row}

-- a block, an index, a programme or a part as a row says it: 255 stands for "none"
unfoldable pub shown : ℕ → ℤ
shown n = cond (eqb n 255) (negsuc 0) (pos n)

-- a role's number, and the programme that it speaks of
abbrev pub role_numbers : Role → RoleNumbers
role_numbers Plain = (0, 255)
role_numbers Sync = (1, 255)
role_numbers Crc1 = (2, 255)
role_numbers Crc2 = (3, 255)
role_numbers CrcRsv = (4, 255)
role_numbers FrameSize = (5, 255)
role_numbers (Dialnorm p) = (6, p)
role_numbers (ComprExists p) = (7, p)
role_numbers (Compr p) = (8, p)
role_numbers (DynrngExists p) = (9, p)
role_numbers (Dynrng p) = (10, p)
role_numbers Skiple = (11, 255)
role_numbers Skipl = (12, 255)
role_numbers Skipfld = (13, 255)
role_numbers Addbsi = (14, 255)
role_numbers Mantissas = (15, 255)
role_numbers AuxBits = (16, 255)
role_numbers AuxDataL = (17, 255)
role_numbers AuxDataE = (18, 255)
role_numbers BlkStrtInfoE = (19, 255)
role_numbers BlkStrtInfo = (20, 255)

-- so many are the numbers of a row
abbrev pub row_width : ℕ
row_width = 9

-- name, role, programme, block, index, position, width, value, part
abbrev pub numbers : Row → List ℤ
numbers r =
    let said = role_numbers r.item.role in
    pos r.item.name ∷ pos said.0 ∷ shown said.1 ∷ shown r.item.block ∷ shown r.item.index
    ∷ pos r.at ∷ pos r.width ∷ pos r.value ∷ shown r.item.part ∷ []
