-- `burst::burst_write` meets its contract: the part that is lent to `put` is the frame, and fits. Assumes nothing.
use Rattle.std.proofs.Common.{◌≡◌, ℕ, ◌+◌, ◌-◌, List, length, take, drop, ap, ◌∙◌, arith}
use Rattle.burst.proofs.Judged.{ends, fits, put_burst}
use Rattle.burst.proofs.burst_write.Goals as goal

-- the part that is lent, of as many bytes as the header says
part : (s : List ℕ) (place : ℕ) {n bytes : ℕ} → n ≡ bytes → take (place + n - place) (drop place s) ≡ take bytes (drop place s)
part s place {n} e = let same : place + n - place ≡ n = omega arith in ap (λ n. take n (drop place s)) (same ∙ e)

pub slice_bounds-put-end : goal.slice_bounds-put-end
slice_bounds-put-end c =
    let a = c.args in
    omega (arith, ends a.capture.now a.place a.rows.now a.out.now c.parse-parsed.ensures.rows_after c.if-parsed-ne0.false, c.from.ensures)

pub put-requires : goal.put-requires
put-requires c =
    let a = c.args in
    let fit = fits a.capture.now a.place a.rows.now a.out.now c.parse-parsed.ensures.rows_after c.if-parsed-ne0.false in
    (omega (arith, fit, ap length (part a.capture.now a.place c.from.ensures)), c.if-out-lt-BURST.false, c.bsmod.ensures.1)

pub returns : goal.returns
returns c =
    let a = c.args in
    put_burst a.capture.now a.place a.rows.now a.out.now c.parse-parsed.ensures.rows_after c.if-parsed-ne0.false _ c.if-out-lt-BURST.false c.bsmod.ensures.0
    (part a.capture.now a.place c.from.ensures) c.put.ensures
