-- `burst::burst_read` meets its contract: what stands in the rows is the definition's bsmod, and the part that is copied is the frame.
-- Assumes nothing.
use Rattle.std.proofs.Common.{Bool, true, ◌≡◌, ℕ, ◌+◌, ◌-◌, ◌*◌, ◌≤◌, List, length, take, drop, sym, ap, ◌∙◌, arith}
use lib.ListN.{length-drop}
use lib.Seq.{take_all}
use Rattle.burst.specs.Burst.{head_bytes, all_zero}
use Rattle.burst.proofs.Judged.{other_mode_lem, room_short, copied}
use Rattle.burst.proofs.burst_read.Goals as goal

-- the part that is copied
part : (s : List ℕ) {n bytes : ℕ} → n ≡ bytes → take (head_bytes + n - head_bytes) (drop head_bytes s) ≡ take bytes (drop head_bytes s)
part s {n} e = let same : head_bytes + n - head_bytes ≡ n = omega arith in ap (λ n. take n (drop head_bytes s)) (same ∙ e)

-- what stands after it
after : (s : List ℕ) {n bytes : ℕ} → n ≡ bytes → {b : Bool} → b ≡ all_zero (take (length s - (head_bytes + n)) (drop (head_bytes + n) s)) → b ≡ true
    → all_zero (drop (head_bytes + bytes) s) ≡ true
after s {n} e told so =
    let short : length (drop (head_bytes + n) s) ≤ length s - (head_bytes + n) = omega (arith, length-drop (head_bytes + n) s) in
    ap (λ n. all_zero (drop (head_bytes + n) s)) (sym e) ∙ ap all_zero (sym (take_all _ _ short)) ∙ sym told ∙ so

pub returns-then-word-from : goal.returns-then-word-from
returns-then-word-from c =
    let a = c.args in
    other_mode_lem a.burst.now a.rows.now a.out.now c.if-burst-ne-BURST.false (sym c.opens.ensures ∙ c.if-not-opens.false) c.parse-parsed.ensures.rows_after c.if-parsed-ne0.false
    (sym c.word.ensures ∙ c.if-word-bytes.false ∙ ap (λ n. 8 * n) c.from-bytes.ensures)
    (after a.burst.now c.from-bytes.ensures c.all_zero.ensures c.if-not-all_zero.false)
    (c.from.ensures ∙ c.bsmod.ensures.0) c.word-2.ensures c.if-word-from.true c.after-then-word-from.ensures

pub returns-then-out-bytes : goal.returns-then-out-bytes
returns-then-out-bytes c =
    let a = c.args in
    room_short a.burst.now a.rows.now a.out.now c.if-burst-ne-BURST.false (sym c.opens.ensures ∙ c.if-not-opens.false) c.parse-parsed.ensures.rows_after c.if-parsed-ne0.false
    (sym c.word.ensures ∙ c.if-word-bytes.false ∙ ap (λ n. 8 * n) c.from-bytes.ensures)
    (after a.burst.now c.from-bytes.ensures c.all_zero.ensures c.if-not-all_zero.false)
    (c.from.ensures ∙ c.bsmod.ensures.0) c.word-2.ensures c.if-word-from.false (omega (arith, c.if-out-bytes.true, c.from-bytes.ensures)) c.after-then-out-bytes.ensures

pub returns : goal.returns
returns c =
    let a = c.args in
    copied a.burst.now a.rows.now a.out.now c.if-burst-ne-BURST.false (sym c.opens.ensures ∙ c.if-not-opens.false) c.parse-parsed.ensures.rows_after c.if-parsed-ne0.false
    (sym c.word.ensures ∙ c.if-word-bytes.false ∙ ap (λ n. 8 * n) c.from-bytes.ensures)
    (after a.burst.now c.from-bytes.ensures c.all_zero.ensures c.if-not-all_zero.false)
    (c.from.ensures ∙ c.bsmod.ensures.0) c.word-2.ensures c.if-word-from.false _ (omega (arith, c.if-out-bytes.false, c.from-bytes.ensures))
    (part a.burst.now c.from-bytes.ensures) c.copy.ensures
