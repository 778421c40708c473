-- `ac3::block::counted` meets its contract: each number is what the definition says, and the copied counts are in their place. Assumes nothing.
use mathlib.Core.List.{List, ◌++◌, append_assoc}
use mathlib.Core.Path.{◌≡◌, refl, ap, sym, ◌∙◌}
use Prim.Native.Nat.{ℕ, ◌+◌, ◌-◌, ◌*◌, ◌≤◌}
use borrow.Rule.Slice.PartMut.{put_mid, post_of, Post-is}
use lib.ListN.{length, take, drop}
use lib.Seq.{sets, sets-eq}
use Rattle.std.proofs.Common.{arith}
use Rattle.ac3.proofs.block.counted.Goals.{then-cplinu, else-cplinu}
use Rattle.ac3.proofs.block.counted.Goals as goal

-- as many numbers that are written over
over : (all new ys : List ℕ) (at n : ℕ) → length new ≡ n → at + n ≤ length all → ys ≡ new → put_mid at (at + n - at) all ys ≡ sets all at new
over all new ys at n k h e =
    ap (λ l. take at all ++ (l ++ post_of at (at + n - at) all)) e
    ∙ ap (λ l. take at all ++ (new ++ l)) (Post-is at (at + n) all (omega arith))
    ∙ ap (λ k. take at all ++ (new ++ drop (at + k) all)) (sym k)
    ∙ sym (append_assoc (take at all) new _)
    ∙ sym (sets-eq new all at (omega (arith, k)))

pub returns-clause-value : goal.returns-clause-value
returns-clause-value c =
    let at = 7 * c.args.blk in
    let bits = over c.args.t.bits c.args.bits c.copy_from_slice.new.self at 7 (omega arith) (omega arith) c.copy_from_slice.ensures.after in
    elim c.if-cplinu.branch [ then-cplinu w ↦ rw (w.next-is, w.if-cplinu.true, bits) refl | else-cplinu w ↦ rw (w.next-is, w.if-cplinu.false, bits) refl ]
