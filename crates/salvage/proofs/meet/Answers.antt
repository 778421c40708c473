-- `salvage::meet` meets its contract: each way through it is one of the definition's. Assumes nothing.
use Rattle.std.proofs.Common.{refl, sym, ap, ◌∙◌, ◌≡◌, ℕ, ◌+◌, ◌-◌, List, take, drop, arith}
use Rattle.std.proofs.lemmas.Result.{err_from_is_err_and}
use Rattle.salvage.proofs.Steps.{not_none, met_stopped, met_without_rows, met_kept}
use Rattle.salvage.proofs.meet.Goals as goal

-- the part that is kept, of as many bytes as the header says
part : (s : List ℕ) (place : ℕ) {n bytes : ℕ} → n ≡ bytes → take (place + n - place) (drop place s) ≡ take bytes (drop place s)
part s place {n} e = let same : place + n - place ≡ n = omega arith in ap (λ n. take n (drop place s)) (same ∙ e)

pub returns-in_err-close_gap : goal.returns-in_err-close_gap
returns-in_err-close_gap c =
    let p = err_from_is_err_and c.from_residual.result c.from_residual.ensures.1 in
    rw (p.1, p.2) (met_stopped _ _ _ _ (c.in_err-close_gap.ensures.1 _) (not_none _))

pub returns-then-parsed-number : goal.returns-then-parsed-number
returns-then-parsed-number c = met_without_rows _ _ _ _ (c.in_ok-close_gap.ensures.1 _) refl (c.if-parsed-number.true ∙ c.number.ensures)

pub returns : goal.returns
returns c =
    met_kept _ _ _ _ (c.in_ok-close_gap.ensures.1 _) refl (λ seven. c.if-parsed-number.false (seven ∙ sym c.number.ensures))
    (part c.args.capture.now c.args.place c.from.ensures) c.keep_frame.ensures
