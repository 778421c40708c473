-- `rows::value` meets its contract: what `first` finds is a whole row. Assumes nothing.
use mathlib.Core.List.{List}
use mathlib.Core.Path.{◌≡◌, sym, ap, ◌∙◌}
use Prim.Native.Nat.{ℕ, ◌+◌, ◌*◌, ◌≤◌, ◌<◌}
use native.Mathlib.Omega.{arith}
use borrow.Author.Rules.{rules}
use lib.IntN.{ℤ, pos}
use lib.ListN.{length, get_or}
use mir.Facts.{to_z-of_z}
use mir.Syntax.{w32}
use mir.Val.{SFits, of_z, to_z}
use Rattle.syntax.specs.Numbers.{row_width}
use Rattle.rows.specs.Look.{value_column, named, first, value_in}
use Rattle.rows.proofs.Look.{whole, value_found, value_none}
use Rattle.rows.proofs.value.Statement.{statement}
use Rattle.rows.proofs.value.Tie as tie

-- what is found is a whole row
inside : (count name : ℕ) (rows : List ℤ) {i : ℕ} → i ≡ first count name rows → i < count → i * row_width + row_width ≤ length rows
inside count name rows e h = omega (arith, e, whole (named name) count rows (omega (arith, e, h)))

-- and its value, as it is read
value_read : (count name : ℕ) (rows : List ℤ) {i : ℕ} → i ≡ first count name rows → i < count → SFits w32 (get_or rows (i * row_width + value_column) (pos 0))
    → to_z w32 (of_z w32 (get_or rows (i * row_width + value_column) (pos 0))) ≡ value_in count name rows
value_read count name rows e h fits =
    to_z-of_z fits ∙ ap (λ k. get_or rows (k * row_width + value_column) (pos 0)) e ∙ sym (value_found count name rows (omega (arith, e, h)))

found : tie.Need-returns-then-i-count
found c = search (rules, value_read)

none : tie.Need-returns-else-i-count
none c = let a = c.before.before.args in sym (value_none a.count a.name a.rows.now (omega (arith, c.before.first-i.ensures, c.if-i-count.false)))

pub value_spec : {M : Type 1} → statement M
value_spec =
    tie.close
    (tie.spec
    (λ c κs. search rules)  -- first-requires
    (λ c. omega (arith, inside _ _ _ c.before.first-i.ensures c.if-i-count.true))  -- mul_result
    (λ c. omega (arith, inside _ _ _ c.before.first-i.ensures c.if-i-count.true))  -- add_result
    (λ c. omega (arith, inside _ _ _ c.before.first-i.ensures c.if-i-count.true))  -- mul_result_2
    (λ c. omega (arith, inside _ _ _ c.before.first-i.ensures c.if-i-count.true))  -- shared-slice-copy-out-result
    found
    none)
