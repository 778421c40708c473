-- `level::position` meets its contract: what `first` finds is a whole row. Assumes nothing.
use Rattle.std.proofs.Common.{List, ◌≡◌, ap, ◌∙◌, ℕ, ◌+◌, ◌*◌, ◌≤◌, ◌<◌, ℤ, pos, length, arith, rules}
use borrow.Author.Tests.{lt-ltb, le-ltb}
use lib.ListN.{get_or}
use mir.Facts.{to_z-of_z}
use mir.Syntax.{w32}
use Rattle.syntax.specs.Numbers.{row_width}
use Rattle.ac3.specs.Rooms.{natural, said}
use Rattle.rows.specs.Look.{named, first}
use Rattle.rows.proofs.Look.{whole}
use Rattle.level.specs.Level.{position_column, position_in}
use Rattle.level.proofs.position.Goals as goal

module _ (count name : ℕ) (rows : List ℤ) {i : ℕ} (e : i ≡ first count name rows) where
  inside : i < count → i * row_width + row_width ≤ length rows
  inside h = omega (arith, e, whole (named name) count rows (omega (arith, e, h)))

  found : i < count → said (i * row_width + position_column) rows ≡ position_in count name rows
  unfolding position_in
  found h = rw (lt-ltb (first count name rows) count (omega (arith, e, h))) (ap (λ k. said (k * row_width + position_column) rows) e)

  none : count ≤ i → 0 ≡ position_in count name rows
  unfolding position_in
  none h = rw (le-ltb (first count name rows) count (omega (arith, e, h)))

pub overflow_mul-i : goal.overflow_mul-i
overflow_mul-i c = omega (arith, inside _ _ _ c.first-i.ensures c.if-i-count.true)

pub overflow_add-i : goal.overflow_add-i
overflow_add-i c = omega (arith, inside _ _ _ c.first-i.ensures c.if-i-count.true)

pub offset_bounds-rows-i : goal.offset_bounds-rows-i
offset_bounds-rows-i c = omega (arith, inside _ _ _ c.first-i.ensures c.if-i-count.true)

pub bounds-rows-i : goal.bounds-rows-i
bounds-rows-i c = omega (arith, inside _ _ _ c.first-i.ensures c.if-i-count.true)

pub returns-then-i-count : goal.returns-then-i-count
returns-then-i-count c =
    let number = get_or c.args.rows.now (c.first-i.result * row_width + position_column) (pos 0) in
    c.natural.ensures ∙ ap natural (to_z-of_z {w = w32} {z = number} (search rules)) ∙ found c.args.count c.args.name c.args.rows.now c.first-i.ensures c.if-i-count.true

pub returns-else-i-count : goal.returns-else-i-count
returns-else-i-count c = none c.args.count c.args.name c.args.rows.now c.first-i.ensures (omega (arith, c.if-i-count.false))
