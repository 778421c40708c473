-- Row by row: a whole row of which the test says yes ends the search, any other is passed, and where no whole row is left nothing is found.
-- Assumes nothing.
use mathlib.Core.Bool.{Bool, true, false, ◌&&◌, cond}
use mathlib.Core.List.{List}
use mathlib.Core.Path.{◌≡◌, refl, sym, ap, ◌∙◌}
use Prim.Native.Nat.{ℕ, zero, suc, ◌+◌, ◌-◌, ◌*◌, ◌/◌, ◌≤◌, ◌<◌, ◌^◌, min}
use native.Mathlib.Decide.{dec_le}
use native.Mathlib.Omega.{arith}
use borrow.Author.Tests.{le-leb, lt-leb, eqb-true, eq-eqb, leb-true, lt-ltb, le-ltb}
use lib.Dec.{eqb, leb}
use lib.IntN.{ℤ, pos, negsuc}
use lib.ListN.{length, get_or, drop, length-drop}
use lib.Seq.{get_or-drop, drop-drop}
use mir.Facts.{to_z-of_z}
use mir.Syntax.{w32}
use mir.Val.{SFits, to_z, of_z}
use Rattle.syntax.specs.Numbers.{row_width}
use Rattle.syntax.proofs.Signed.{widened}
use Rattle.rows.specs.Look.{value_column, is_name, named, first_where, first, value_in}

-- a test of signed numbers compares bits
module _ {z : ℤ} where
  pub is_number : {name : ℕ} → SFits w32 z → name < 2 ^ 31 → of_z w32 z ≡ name → z ≡ pos name
  is_number {name} fits small e = sym (to_z-of_z fits) ∙ ap (to_z w32) e ∙ widened name small

  pub its_bits : (name : ℕ) → name < 2 ^ 31 → z ≡ pos name → of_z w32 z ≡ name
  its_bits name small e = ap (of_z w32) e

is_name_lem : (name : ℕ) (z : ℤ) → z ≡ pos name → is_name name z ≡ true
is_name_lem name z e = ap (is_name name) e ∙ eq-eqb name name refl

module _ (name : ℕ) where
  decided : (m : ℕ) (b : Bool) → eqb m name ≡ b → ¬ (pos m ≡ pos name) → b ≡ false
  decided m true e other = absurd (other (ap pos (eqb-true m name e)))
  decided m false e other = refl

  is_other : (z : ℤ) → ¬ (z ≡ pos name) → is_name name z ≡ false
  is_other (pos m) other = decided m (eqb m name) refl other
  is_other (negsuc m) other = refl

-- ---- by any test of the row in front

module _ (test : List ℤ → Bool) where
  module _ (n : ℕ) (rows : List ℤ) where
    step : (b : Bool) → (leb row_width (length rows) && test rows) ≡ b → first_where test (suc n) rows ≡ cond b 0 (suc (first_where test n (drop row_width rows)))
    unfolding first_where
    step b e = ap (λ b. cond b 0 (suc (first_where test n (drop row_width rows)))) e

    pub hit : row_width ≤ length rows → test rows ≡ true → first_where test (suc n) rows ≡ 0
    hit whole e = step true (λ j. le-leb row_width (length rows) whole j && e j)

    pub miss : row_width ≤ length rows → test rows ≡ false → first_where test (suc n) rows ≡ suc (first_where test n (drop row_width rows))
    miss whole e = step false (λ j. le-leb row_width (length rows) whole j && e j)

    cut : length rows < row_width → first_where test (suc n) rows ≡ suc (first_where test n (drop row_width rows))
    cut short = step false (ap (λ b. b && test rows) (lt-leb row_width (length rows) short))

  short : (n : ℕ) (rows : List ℤ) → length rows < row_width → first_where test n rows ≡ n
  unfolding first_where
  short zero rows h = refl
  short (suc n) rows h = cut n rows h ∙ ap suc (short n (drop row_width rows) (omega (arith, length-drop row_width rows)))

  -- what is found is a whole row
  pub whole : (n : ℕ) (rows : List ℤ) → first_where test n rows < n → first_where test n rows * row_width + row_width ≤ length rows
  unfolding first_where
  whole zero rows h = omega (arith, h)
  whole (suc n) rows h = go (leb row_width (length rows) && test rows) refl h (whole n (drop row_width rows))
    where
      k : ℕ
      k = first_where test n (drop row_width rows)

      left : (a b : Bool) → (a && b) ≡ true → a ≡ true
      left true b e = refl
      left false b e = e

      go : (b : Bool) → (leb row_width (length rows) && test rows) ≡ b → cond b 0 (suc k) < suc n → (k < n → k * row_width + row_width ≤ length (drop row_width rows))
          → cond b 0 (suc k) * row_width + row_width ≤ length rows
      go true e h later = leb-true row_width (length rows) (left (leb row_width (length rows)) _ e)
      go false e h later = omega (arith, later (omega arith), length-drop row_width rows)

  -- ---- after i rows

  pub at_start : (count : ℕ) (rows : List ℤ) → first_where test count rows ≡ 0 + first_where test (count - 0) rows
  at_start count rows = let same : count - 0 ≡ count = omega arith in omega (arith, ap (λ k. first_where test k rows) same)

  module _ (count i : ℕ) (rows : List ℤ) (more : i < count) (there : i * row_width + row_width ≤ length rows) where
    abbrev rest : List ℤ
    rest = drop (i * row_width) rows

    left_over : count - i ≡ suc (count - (i + 1))
    left_over = omega arith

    enough : row_width ≤ length rest
    enough = omega (arith, length-drop (i * row_width) rows)

    pub stop_at : test rest ≡ true → first_where test (count - i) rest ≡ 0
    stop_at e = ap (λ k. first_where test k rest) left_over ∙ hit (count - (i + 1)) rest enough e

    pub go_on : test rest ≡ false → i + first_where test (count - i) rest ≡ (i + 1) + first_where test (count - (i + 1)) (drop ((i + 1) * row_width) rows)
    go_on e =
        let one = miss (count - (i + 1)) rest enough e in
        let places : i * row_width + row_width ≡ (i + 1) * row_width = omega arith in
        let same : drop row_width rest ≡ drop ((i + 1) * row_width) rows = drop-drop row_width (i * row_width) rows ∙ ap (λ k. drop k rows) places in
        let there : first_where test (count - i) rest ≡ suc (first_where test (count - (i + 1)) (drop ((i + 1) * row_width) rows)) =
        ap (λ k. first_where test k rest) left_over ∙ one ∙ ap (λ l. suc (first_where test (count - (i + 1)) l)) same in
        omega (arith, there)

  -- where no row is left to look at: all were passed, or no whole row is left
  pub ended : (count i : ℕ) (rows : List ℤ) → i ≡ min count (length rows / row_width) → first_where test count rows ≡ i + first_where test (count - i) (drop (i * row_width) rows) → count ≡ first_where test count rows
  unfolding first_where
  ended count i rows e same = omega (arith, same, left (dec_le count i))
    where
      left : Dec (count ≤ i) → first_where test (count - i) (drop (i * row_width) rows) ≡ count - i
      left (Dec.yes h) = let none : count - i ≡ 0 = omega arith in ap (λ k. first_where test k (drop (i * row_width) rows)) none ∙ sym none
      left (Dec.no h) = short (count - i) (drop (i * row_width) rows) (omega (arith, length-drop (i * row_width) rows))

-- a number of row i
pub in_row : (i column : ℕ) (rows : List ℤ) → get_or (drop (i * row_width) rows) column (pos 0) ≡ get_or rows (i * row_width + column) (pos 0)
in_row i column rows = get_or-drop (i * row_width) rows column (pos 0)

-- and its name
module _ (name i : ℕ) (rows : List ℤ) where
  its_name : named name (drop (i * row_width) rows) ≡ is_name name (get_or rows (i * row_width) (pos 0))
  its_name =
      let front : i * row_width + 0 ≡ i * row_width = omega arith in
      ap (is_name name) (in_row i 0 rows ∙ ap (λ k. get_or rows k (pos 0)) front)

  pub row_named : get_or rows (i * row_width) (pos 0) ≡ pos name → named name (drop (i * row_width) rows) ≡ true
  row_named e = its_name ∙ is_name_lem name (get_or rows (i * row_width) (pos 0)) e

  pub row_other : ¬ (get_or rows (i * row_width) (pos 0) ≡ pos name) → named name (drop (i * row_width) rows) ≡ false
  row_other other = its_name ∙ is_other name (get_or rows (i * row_width) (pos 0)) other

-- ---- the value

module _ (count name : ℕ) (rows : List ℤ) where
  pub value_found : first count name rows < count → value_in count name rows ≡ get_or rows (first count name rows * row_width + value_column) (pos 0)
  unfolding value_in
  value_found h = rw (lt-ltb (first count name rows) count h)

  pub value_none : count ≤ first count name rows → value_in count name rows ≡ pos 0
  unfolding value_in
  value_none h = rw (le-ltb (first count name rows) count h)
