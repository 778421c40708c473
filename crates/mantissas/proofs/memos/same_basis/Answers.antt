-- `mantissas::memos::same_basis` meets its contract: slices that are the same have the same entries. Assumes nothing.
use mathlib.Core.List.{List}
use mathlib.Core.Path.{◌≡◌, sym, ap, ◌∙◌}
use Prim.Native.Nat.{ℕ}
use lib.ListN.{get_or, take}
use Rattle.std.proofs.lemmas.Bool.Decides.{Decides-eqb}
use Rattle.std.proofs.lemmas.List.{get_or-take}
use Rattle.std.proofs.lemmas.Slice.Eq.{slice_eq-Decides}
use Rattle.mantissas.proofs.memos.same_basis.Goals as goal

pub returns : goal.returns
returns c e i h =
    let a = c.args in
    let same : take 12 a.kept.now ≡ take 12 a.memo.now = (slice_eq-Decides Decides-eqb _ _ _ c.eq.ensures).0 e in
    sym (get_or-take 12 a.kept.now i 0 h) ∙ ap (λ (l : List ℕ). get_or l i 0) same ∙ get_or-take 12 a.memo.now i 0 h
