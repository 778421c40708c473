-- The last line is a word and then the line of three or five numbers, so it has at most 63 bytes. Assumes nothing.
use mathlib.Core.Bool.{Bool, true, false}
use mathlib.Core.List.{List, ◌++◌}
use Prim.Native.Nat.{ℕ, ◌≤◌}
use native.Mathlib.Omega.{arith}
use lib.ListN.{length, length-append}
use Rattle.listing.specs.Listing.{Line, line, last_count, word}
use Rattle.lister.proofs.Short.{line_short}

pub last_short : (refused : Bool) (numbers : List ℕ) → Line (last_count refused) numbers → length (word refused ++ line numbers) ≤ 63
last_short true numbers fit = omega (arith, length-append (word true) (line numbers), line_short numbers fit.1, fit.0)
last_short false numbers fit = omega (arith, length-append (word false) (line numbers), line_short numbers fit.1, fit.0)
