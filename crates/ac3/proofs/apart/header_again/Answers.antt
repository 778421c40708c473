-- `ac3::apart::header_again` meets its contract: of its own rows as many are lent as the room has, unless there are enough for any header.
-- Assumes nothing.
use mathlib.Core.List.{List}
use mathlib.Core.Path.{◌≡◌, ap, sym, ◌∙◌}
use Prim.Native.Nat.{ℕ, ◌*◌, ◌≤◌}
use lib.IntN.{ℤ, pos}
use lib.ListN.{length, take, replicate, length-take}
use Rattle.std.proofs.Common.{arith}
use Rattle.syntax.specs.Numbers.{row_width}
use Rattle.ac3.specs.Apart.{most_header_rows}
use Rattle.ac3.specs.Promise.{call}
use Rattle.ac3.proofs.HeaderRows.{as_good}
use Rattle.ac3.proofs.apart.header_again.Goals as goal

-- all the rows of its own, and those that are lent
abbrev own : List ℤ
own = replicate (most_header_rows * row_width) (pos 0)

lent : (n : ℕ) → n ≤ most_header_rows * row_width → length (take n own) ≡ n
lent n few = length-take n own ∙ omega arith

pub returns : goal.returns
returns c l long =
    let n = c.min.result in
    ap (λ x. x.0) c.header.ensures
    ∙ sym (as_good (call c.args.capture.now c.args.place l) (take n own) (let numbers = lent n (omega (arith, c.min.ensures)) in omega (arith, c.min.ensures, long, numbers)))
