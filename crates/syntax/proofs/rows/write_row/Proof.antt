-- `syntax::rows::write_row` meets its contract: the nine stores are the row, each number as it was cast or shown. Assumes nothing.
use native.Mathlib.Omega.{arith}
use native.Mathlib.Numerals.{towards_suc}
use lib.ListN.{length-set}
use mir.Syntax.{w32}
use mir.Facts.{to_z-of_z}
use borrow.Author.Rules.{rules}
use Rattle.syntax.proofs.Signed.{widened}
use Rattle.syntax.proofs.rows.write_row.Statement.{statement}
use Rattle.syntax.proofs.rows.write_row.Tie as tie

pub write_row_spec : {M : Type 1} → statement M
write_row_spec =
    tie.close
    (tie.spec
    (λ c κs. search rules)  -- role-numbers-requires
    (λ c. search rules)  -- cast-rows
    (λ c. search rules)  -- mul-rows
    (λ c. search rules)  -- slice-set-from-rows
    (λ c. search rules)  -- cast-rows-2
    (λ c. search rules)  -- add-rows
    (λ c. search rules)  -- mul-rows-2
    (λ c. simp length-set (omega arith))  -- slice-set-from-rows-2
    (λ c κs. search rules)  -- shown-requires
    (λ c. search rules)  -- add-rows-2
    (λ c. search rules)  -- mul-rows-3
    (λ c. simp length-set (omega arith))  -- slice-set-from-rows-3
    (λ c κs. search rules)  -- shown-requires-2
    (λ c. search rules)  -- add-rows-3
    (λ c. search rules)  -- mul-rows-4
    (λ c. simp length-set (omega arith))  -- slice-set-from-rows-4
    (λ c κs. search rules)  -- shown-requires-3
    (λ c. search rules)  -- add-rows-4
    (λ c. search rules)  -- mul-rows-5
    (λ c. simp length-set (omega arith))  -- slice-set-from-rows-5
    (λ c. search rules)  -- cast-rows-3
    (λ c. search rules)  -- add-rows-5
    (λ c. search rules)  -- mul-rows-6
    (λ c. simp length-set (omega arith))  -- slice-set-from-rows-6
    (λ c. search rules)  -- cast-rows-4
    (λ c. search rules)  -- add-rows-6
    (λ c. search rules)  -- mul-rows-7
    (λ c. simp length-set (omega arith))  -- slice-set-from-rows-7
    (λ c. search rules)  -- cast-rows-5
    (λ c. search rules)  -- add-t9
    (λ c. search rules)  -- mul-t11
    (λ c. simp length-set (omega arith))  -- slice-set-from-rows-8
    (λ c κs. search rules)  -- shown-requires-4
    (λ c. search rules)  -- add-t12
    (λ c. search rules)  -- mul-t10
    (λ c. simp length-set (omega arith))  -- slice-set-from-rows-9
    (λ c. simp length-set)  -- same-length
    (λ c.
    let index = c.before in
    let block = index.before in
    let programme = block.before in
    let roled = programme.before.before.before in
    let args = roled.before.args in
    simp (
      towards_suc,
      widened args.item.name (omega arith),
      widened roled.role_numbers-numbers.result.0 (omega arith),
      widened args.start (omega arith),
      widened args.width (omega arith),
      widened args.value (omega arith),
      to_z-of_z {w = w32} {z = programme.shown.result} (search rules),
      to_z-of_z {w = w32} {z = block.shown-2.result} (search rules),
      to_z-of_z {w = w32} {z = index.shown-3.result} (search rules),
      to_z-of_z {w = w32} {z = c.shown-4.result} (search rules),
    )
    (rw (programme.shown.ensures, block.shown-2.ensures, index.shown-3.ensures, c.shown-4.ensures, roled.role_numbers-numbers.ensures))))  -- returns
