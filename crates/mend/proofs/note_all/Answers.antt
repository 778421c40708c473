-- `mend::note_all` meets its contract: each call adds its change behind those before it. Assumes nothing.
use Rattle.std.proofs.Common.{[], ◌++◌, refl}
use Rattle.syntax.specs.Names as Name
use Rattle.mend.specs.Changes.{crcrsv, crc2, changed, changes_of}
use Rattle.mend.proofs.Listing.{next}
use Rattle.mend.proofs.note_all.Goals as goal

pub returns : goal.returns
unfolding changes_of
returns c =
    let old = c.args.old in
    let new = c.args.new in
    let list = c.args.list.now in
    let crc1-change = changed Name.crc1 old.crc1 new.crc1 in
    let field-change = changed c.args.name old.field new.field in
    let crcrsv-change = changed crcrsv old.crcrsv new.crcrsv in
    let crc2-change = changed crc2 old.crc2 new.crc2 in
    next list (crc1-change ++ field-change ++ crcrsv-change) crc2-change
    (next list (crc1-change ++ field-change) crcrsv-change
    (next list crc1-change field-change (next list [] crc1-change (refl, refl) c.note-first.ensures) c.note-second.ensures) c.note-third.ensures)
    c.note.ensures
