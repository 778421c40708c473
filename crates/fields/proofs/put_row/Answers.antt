-- `fields::put_row` meets its contract: what is copied is the row. Assumes nothing.
use Rattle.std.proofs.Common.{ℕ, List, [], ◌∷◌, ◌++◌, ◌≡◌, ◌∙◌, ◌+◌, ◌*◌, ◌-◌, ◌≤◌, sym, ap, refl, length, take, drop, arith}
use Rattle.std.proofs.Math.IntN.{ℤ}
use mathlib.Core.List.{append_assoc}
use borrow.Rule.Slice.PartMut.{put_mid, post_of, Post-is}
use lib.ListN.{length-drop}
use lib.Seq.{sets, sets-eq, length-take-le}
use Rattle.fields.specs.Fields.{row_at}
use Rattle.fields.proofs.put_row.Goals as goal

-- nine numbers are a row
row_is : (l : List ℤ) → length l ≡ 9 → l ≡ row_at l 0
row_is [] n = absurd (omega arith)
row_is (a ∷ []) n = absurd (omega arith)
row_is (a ∷ b ∷ []) n = absurd (omega arith)
row_is (a ∷ b ∷ c ∷ []) n = absurd (omega arith)
row_is (a ∷ b ∷ c ∷ d ∷ []) n = absurd (omega arith)
row_is (a ∷ b ∷ c ∷ d ∷ e ∷ []) n = absurd (omega arith)
row_is (a ∷ b ∷ c ∷ d ∷ e ∷ f ∷ []) n = absurd (omega arith)
row_is (a ∷ b ∷ c ∷ d ∷ e ∷ f ∷ g ∷ []) n = absurd (omega arith)
row_is (a ∷ b ∷ c ∷ d ∷ e ∷ f ∷ g ∷ h ∷ []) n = absurd (omega arith)
row_is (a ∷ b ∷ c ∷ d ∷ e ∷ f ∷ g ∷ h ∷ i ∷ []) n = refl
row_is (a ∷ b ∷ c ∷ d ∷ e ∷ f ∷ g ∷ h ∷ i ∷ j ∷ l) n = absurd (omega arith)

-- a row that is written over
over : (rows row ys : List ℤ) (at : ℕ) → length row ≡ 9 → at + 9 ≤ length rows → ys ≡ row → put_mid at (at + 9 - at) rows ys ≡ sets rows at (row_at row 0)
over rows row ys at n h e =
    ap (λ l. take at rows ++ (l ++ post_of at (at + 9 - at) rows)) e
    ∙ ap (λ l. take at rows ++ (row ++ l)) (Post-is at (at + 9) rows (omega arith))
    ∙ ap (λ k. take at rows ++ (row ++ drop (at + k) rows)) (sym n)
    ∙ sym (append_assoc (take at rows) row _)
    ∙ sym (sets-eq row rows at (omega (arith, n)))
    ∙ ap (sets rows at) (row_is row n)

pub returns : goal.returns
returns c =
    let rows = c.args.rows.now in
    let at = c.args.i * 9 in
    let copied = c.copy_from_slice.ensures in
    let lent : length (take (at + 9 - at) (drop at rows)) ≡ 9 = length-take-le (at + 9 - at) (drop at rows) (omega (arith, length-drop at rows, c.requires)) ∙ omega arith in
    over rows c.args.row c.copy_from_slice.new.self at (sym (ap length copied.after) ∙ copied.len ∙ lent) c.requires copied.after
