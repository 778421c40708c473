-- The run of rows while the rows of records are being written: one row more, and its length. Assumes nothing.
use mathlib.Core.List.{List, [], ◌∷◌, ◌++◌}
use mathlib.Core.Path.{◌≡◌, refl, sym, ap, ◌∙◌}
use Prim.Native.Nat.{ℕ, ◌+◌, ◌*◌, ◌≤◌, ◌<◌}
use native.Mathlib.Numerals.{add-one}
use native.Mathlib.Omega.{arith}
use lib.IntN.{ℤ}
use lib.ListN.{length, get_or, take, drop, length-append, length-drop}
use lib.Seq.{sets, sets-eq, length-take-le, take-suc, take_at, drop_at, drop-drop}
use Rattle.syntax.specs.Numbers.{row_width}
use Rattle.fields.specs.Fields.{blank, row_of, rows_of}
use Rattle.fields.specs.declared.Field.{Field}
use Rattle.fields.proofs.Filled.{length_rows}

rows_append : (fs gs : List Field) → rows_of (fs ++ gs) ≡ rows_of fs ++ rows_of gs
unfolding rows_of
rows_append [] gs = refl
rows_append (f ∷ fs) gs = ap (λ (l : List ℤ). row_of f ++ l) (rows_append fs gs)

rows_one : (f : Field) → rows_of (f ∷ []) ≡ row_of f
unfolding rows_of
rows_one f = refl

module _ (fs : List Field) (old : List ℤ) where
  -- the run when i rows are written
  abbrev pub written : ℕ → List ℤ
  written i = rows_of (take i fs) ++ drop (i * row_width) old

  pub written_none : old ≡ written 0
  unfolding rows_of
  written_none = refl

  module _ (i : ℕ) (there : i ≤ length fs) where
    front : length (rows_of (take i fs)) ≡ i * row_width
    front = length_rows (take i fs) ∙ ap (λ (m : ℕ). m * row_width) (length-take-le i fs there)

    pub length_written : i * row_width ≤ length old → length (written i) ≡ length old
    length_written room = length-append (rows_of (take i fs)) (drop (i * row_width) old) ∙ omega (arith, front, length-drop (i * row_width) old)

  pub written_next : (i : ℕ) (l : List ℤ) → i < length fs → (i + 1) * row_width ≤ length old → l ≡ sets (written i) (i * row_width) (row_of (get_or fs i blank)) → l ≡ written (i + 1)
  written_next i l within room e =
      e
      ∙ sets-eq r (p ++ q) (i * row_width) (omega (arith, room, length_written i there (omega (arith, room))))
      ∙ (λ j. take_at p q (i * row_width) (front i there) j ++ r ++ behind j)
      ∙ ap (λ (a : List ℤ). a ++ drop ((i + 1) * row_width) old) more
    where
      there : i ≤ length fs
      there = omega (arith, within)

      p : List ℤ
      p = rows_of (take i fs)

      q : List ℤ
      q = drop (i * row_width) old

      r : List ℤ
      r = row_of (get_or fs i blank)

      behind : drop (i * row_width + row_width) (p ++ q) ≡ drop ((i + 1) * row_width) old
      behind =
          let next : i * row_width + row_width ≡ (i + 1) * row_width = omega arith in
          sym (drop-drop row_width (i * row_width) (p ++ q))
          ∙ ap (drop row_width) (drop_at p q (i * row_width) (front i there))
          ∙ drop-drop row_width (i * row_width) old
          ∙ ap (λ (m : ℕ). drop m old) next

      more : p ++ r ≡ rows_of (take (i + 1) fs)
      more =
          ap (λ (a : List ℤ). p ++ a) (sym (rows_one (get_or fs i blank)))
          ∙ sym (rows_append (take i fs) (get_or fs i blank ∷ []))
          ∙ ap rows_of (sym (take-suc fs i blank within) ∙ ap (λ (m : ℕ). take m fs) (sym (add-one i)))
