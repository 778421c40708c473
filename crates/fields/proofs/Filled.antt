-- The run while it is being filled: one record more, its length, and, filled with the records of rows one after another, those records in
-- front. Assumes nothing.
use mathlib.Core.List.{List, [], ◌∷◌, ◌++◌, map}
use mathlib.Core.Path.{◌≡◌, refl, sym, ap, ◌∙◌}
use Prim.Native.Nat.{ℕ, zero, suc, ◌+◌, ◌*◌, ◌≤◌}
use native.Mathlib.Nat.{not-suc-le-zero, le_of_suc-le-suc}
use native.Mathlib.Numerals.{add-one}
use native.Mathlib.Omega.{arith}
use lib.IntN.{ℤ, pos}
use lib.ListN.{length, get_or, set, drop, length-set}
use Rattle.syntax.specs.Numbers.{row_width, numbers}
use Rattle.syntax.specs.Place.{flatten}
use Rattle.syntax.specs.Run.{Row}
use Rattle.fields.specs.Fields.{field_of, row_of, row_at, field_at, record_of, filled, rows_of}
use Rattle.fields.specs.declared.Field.{Field}

module _ (f : ℕ → Field) (old : List Field) where
  pub filled_none : old ≡ filled f 0 old
  unfolding filled
  filled_none = refl

  pub filled_next : (n : ℕ) (r : Field) → r ≡ f n → set (filled f n old) n r ≡ filled f (n + 1) old
  unfolding filled
  filled_next n r e = rw (add-one, e)

  pub length_filled : (n : ℕ) → length (filled f n old) ≡ length old
  unfolding filled
  length_filled zero = refl
  length_filled (suc n) = length-set (filled f n old) n (f n) ∙ length_filled n

-- the first record apart from the others
filled_first : (f : ℕ → Field) (n : ℕ) (x : Field) (old : List Field) → filled f (suc n) (x ∷ old) ≡ f 0 ∷ filled (λ i. f (suc i)) n old
unfolding filled
filled_first f zero x old = refl
filled_first f (suc n) x old = λ j. set (filled_first f n x old j) (suc n) (f (suc n))

-- rows one after another, whatever they are the rows of: `row x` is that of x
abbrev pub joined : {X : Type 0} → (X → List ℤ) → List X → List ℤ
joined row [] = []
joined row (x ∷ xs) = row_at (row x) 0 ++ joined row xs

module _ {X : Type 0} (row : X → List ℤ) where
  length_joined : (xs : List X) → length (joined row xs) ≡ length xs * row_width
  length_joined [] = refl
  length_joined (x ∷ xs) = omega (arith, length_joined xs)

  -- the numbers of the next row, once the first row is gone
  module _ (x : X) (rest : List ℤ) where
    next_number : (m n : ℕ) → m ≡ n + row_width → get_or (row_at (row x) 0 ++ rest) m (pos 0) ≡ get_or rest n (pos 0)
    next_number m n e = ap (λ k. get_or (row_at (row x) 0 ++ rest) k (pos 0)) e'
      where
        e' : m ≡ suc (suc (suc (suc (suc (suc (suc (suc (suc n))))))))
        e' = omega (arith, e)

    next_row : (i : ℕ) → field_at (row_at (row x) 0 ++ rest) (suc i) ≡ field_at rest i
    next_row i =
        ap field_of
        (λ j.
        next_number (suc i * row_width) (i * row_width) (omega arith) j
        ∷ next_number (suc i * row_width + 1) (i * row_width + 1) (omega arith) j
        ∷ next_number (suc i * row_width + 2) (i * row_width + 2) (omega arith) j
        ∷ next_number (suc i * row_width + 3) (i * row_width + 3) (omega arith) j
        ∷ next_number (suc i * row_width + 4) (i * row_width + 4) (omega arith) j
        ∷ next_number (suc i * row_width + 5) (i * row_width + 5) (omega arith) j
        ∷ next_number (suc i * row_width + 6) (i * row_width + 6) (omega arith) j
        ∷ next_number (suc i * row_width + 7) (i * row_width + 7) (omega arith) j
        ∷ next_number (suc i * row_width + 8) (i * row_width + 8) (omega arith) j
        ∷ [])

  filled_joined : (xs : List X) (more : List ℤ) (run : List Field) → length xs ≤ length run
      → filled (field_at (joined row xs ++ more)) (length xs) run ≡ map (λ x. field_of (row x)) xs ++ drop (length xs) run
  filled_joined [] more run h = sym (filled_none (field_at more) run)
  filled_joined (x ∷ xs) more [] h = absurd (not-suc-le-zero h)
  filled_joined (x ∷ xs) more (old ∷ run) h =
      let rest = joined row xs ++ more in
      filled_first (field_at (row_at (row x) 0 ++ rest)) (length xs) old run
      ∙ (λ j. field_of (row x) ∷ filled (λ i. next_row x rest i j) (length xs) run)
      ∙ ap (λ (l : List Field). field_of (row x) ∷ l) (filled_joined xs more run (le_of_suc-le-suc h))

  -- the same of a list of numbers that is those rows
  filled_front : (flat : List X → List ℤ) → ((xs : List X) → flat xs ≡ joined row xs) → (xs : List X) (more : List ℤ) (run : List Field) → length xs ≤ length run
      → filled (field_at (flat xs ++ more)) (length xs) run ≡ map (λ x. field_of (row x)) xs ++ drop (length xs) run
  filled_front flat same xs more run h = ap (λ (l : List ℤ). filled (field_at (l ++ more)) (length xs) run) (same xs) ∙ filled_joined xs more run h

-- the definition's rows, and the rows of records
flatten_joined : (rs : List Row) → flatten rs ≡ joined numbers rs
unfolding flatten
flatten_joined [] = refl
flatten_joined (r ∷ rs) = ap (λ (l : List ℤ). numbers r ++ l) (flatten_joined rs)

pub length_listed : (rs : List Row) → length (flatten rs) ≡ length rs * row_width
length_listed rs = ap length (flatten_joined rs) ∙ length_joined numbers rs

rows_joined : (fs : List Field) → rows_of fs ≡ joined row_of fs
unfolding rows_of
rows_joined [] = refl
rows_joined (f ∷ fs) = ap (λ (l : List ℤ). row_of f ++ l) (rows_joined fs)

pub length_rows : (fs : List Field) → length (rows_of fs) ≡ length fs * row_width
length_rows fs = ap length (rows_joined fs) ∙ length_joined row_of fs

pub filled_listed : (rs : List Row) (more : List ℤ) (run : List Field) → length rs ≤ length run
    → filled (field_at (flatten rs ++ more)) (length rs) run ≡ map record_of rs ++ drop (length rs) run
filled_listed = filled_front numbers flatten flatten_joined

pub filled_back : (fs : List Field) (more : List ℤ) (run : List Field) → length fs ≤ length run
    → filled (field_at (rows_of fs ++ more)) (length fs) run ≡ map (λ f. field_of (row_of f)) fs ++ drop (length fs) run
filled_back = filled_front row_of rows_of rows_joined
