-- `index::index` meets its contract: it begins where the definition does, and walks from there. Assumes nothing.
use Rattle.std.proofs.Common.{refl}
use Rattle.std.proofs.lemmas.Result.{err_from_is_err_and}
use Rattle.index.proofs.Answered.{not_begun, not_none, walked}
use Rattle.index.proofs.index.Goals as goal

pub returns-in_err-from : goal.returns-in_err-from
returns-in_err-from c =
    let p = err_from_is_err_and c.from_residual.result c.from_residual.ensures.1 in
    rw (p.1, p.2) (not_begun _ _ _ _ c.in_err-from.ensures.rows_after (not_none _))

pub returns : goal.returns
returns c = walked _ _ _ _ c.in_ok-from.ensures.rows_after refl c.extend.ensures
