-- `salvage::put_entry` meets its contract: there is room for the three numbers. Assumes nothing.
use Rattle.std.proofs.Common.{[], ◌∷◌, ◌*◌, ◌∙◌, ap, arith}
use Rattle.std.proofs.lemmas.List.Edits.{sets}
use Rattle.writer.proofs.Written.{part}
use Rattle.salvage.proofs.put_entry.Goals as goal

pub returns : goal.returns
returns c =
    let a = c.args in
    let at = a.entries * 3 in
    part (c.number.result ∷ a.place ∷ a.size ∷ []) a.list.now at _ at 3 (omega (arith, c.requires)) (omega (arith, c.requires)) c.copy_from_slice.ensures.after
    ∙ ap (λ kind. sets a.list.now at (kind ∷ a.place ∷ a.size ∷ [])) c.number.ensures
