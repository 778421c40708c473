-- At hand: frame, input and room hold the groups that are left, so that none of them needs a test of its own. No part of the definition.
use Rattle.std.specs.Prelude.{ℕ, ◌+◌, ◌*◌, ◌/◌, ◌≤◌, length}
use Rattle.syntax.specs.declared.Reader.{Reader}
use Rattle.syntax.specs.Numbers.{row_width}

pub record AtHand (c : Reader) (groups : ℕ) : Type 0 where
  pub frame : c.at + 7 * groups ≤ c.limit
  pub bytes : (c.at + 7 * groups) / 8 + 2 ≤ length c.bytes.now
  pub room : c.count + groups ≤ length c.rows.now / row_width

-- the reader past so many of them
abbrev pub past : ℕ → Reader → Reader
past n c = record c { at = c.at + 7 * n; count = c.count + n }
