-- The line of the numbers from one on is that number with what stands after it and the line of the others, and so with the lines of the
-- rows. Assumes nothing.
use mathlib.Core.List.{List, [], ◌∷◌, ◌++◌, map}
use mathlib.Core.Path.{◌≡◌, refl, ap, ◌∙◌}
use Prim.Native.Nat.{ℕ, zero, suc, ◌+◌, ◌-◌, ◌*◌, ◌≤◌, ◌<◌}
use native.Mathlib.Numerals.{add-one}
use native.Mathlib.Omega.{arith}
use lib.IntN.{ℤ, pos}
use lib.ListN.{length, take, drop, get_or, length-map, length-drop}
use lib.Seq.{drop-cons, drop-drop}
use Rattle.syntax.specs.Numbers.{row_width}
use Rattle.listing.specs.Listing.{line}
use Rattle.lister.specs.Listed.{stored, rows_in}
use Rattle.lister.proofs.Short.{AllFit, ended, line_cons}

module _ (numbers : List ℤ) (i : ℕ) (h : i < length numbers) where
  pub line_from : line (map stored (drop i numbers)) ≡ ended (stored (get_or numbers i (pos 0))) (length numbers - i - 1) ++ line (map stored (drop (i + 1) numbers))
  line_from =
      ap (λ l. line (map stored l)) (drop-cons numbers i (pos 0) h)
      ∙ line_cons (stored (get_or numbers i (pos 0))) (map stored (drop (suc i) numbers))
      ∙ ap (λ n. ended (stored (get_or numbers i (pos 0))) n ++ line (map stored (drop (suc i) numbers))) left
      ∙ rw (add-one i)
    where
      left : length (map stored (drop (suc i) numbers)) ≡ length numbers - i - 1
      left = length-map (drop (suc i) numbers) stored ∙ length-drop (suc i) numbers ∙ omega arith

  -- if the others fit, all do
  pub fit_from : {v : ℕ} → v ≡ stored (get_or numbers i (pos 0)) → v ≤ 2147483648 → AllFit (map stored (drop (i + 1) numbers)) → AllFit (map stored (drop i numbers))
  fit_from e h' later = rw (drop-cons numbers i (pos 0) h) (omega arith, rw add-one at later)

-- ---- rows

module _ (count : ℕ) (rows : List ℤ) where
  -- the rows from one on
  abbrev pub rows_from : ℕ → List (List ℕ)
  rows_from row = rows_in (count - row) (drop (row * row_width) rows)

  pub rows_from_lem : (row : ℕ) → row < count → rows_from row ≡ map stored (take (row * row_width + row_width - row * row_width) (drop (row * row_width) rows)) ∷ rows_from (row + 1)
  unfolding rows_in
  rows_from_lem row h =
      ap (λ n. rows_in n (drop (row * row_width) rows)) one_more
      ∙ rw nine (ap (λ l. map stored (take row_width (drop (row * row_width) rows)) ∷ rows_in (count - (row + 1)) l) (drop-drop row_width (row * row_width) rows ∙ ap (λ n. drop n rows) after))
    where
      one_more : count - row ≡ suc (count - (row + 1))
      one_more = omega arith

      after : row * row_width + row_width ≡ (row + 1) * row_width
      after = omega arith

      nine : row * row_width + row_width - row * row_width ≡ row_width
      nine = omega arith

  pub rows_end : rows_from count ≡ []
  unfolding rows_in
  rows_end = ap (λ n. rows_in n (drop (count * row_width) rows)) none
    where
      none : count - count ≡ 0
      none = omega arith

pub length_rows : (count : ℕ) (rows : List ℤ) → length (rows_in count rows) ≡ count
unfolding rows_in
length_rows zero rows = refl
length_rows (suc n) rows = ap suc (length_rows n (drop row_width rows))
