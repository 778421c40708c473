-- A number that is no byte is no programme, and 255 stands for "none" and for itself.
use Rattle.std.proofs.Common.{rules, arith, ◌≡◌, ◌∙◌, ℕ, ◌≤◌, refl, ℤ, pos, negsuc, nat_abs, w32, to_z-of_z, Result, Ok, Err}
use Rattle.std.specs.Int.{FitsUnsignedBits}
use Rattle.std.specs.Result.{OkIff, result_unwrap_or}
use Rattle.fields.specs.Fields.{programme_of}
use Rattle.fields.proofs.programme_of.Goals as goal

narrowed : {E : Type 0} (z : ℤ) (r : Result ℕ E) → OkIff r (FitsUnsignedBits 8 z) (nat_abs z) → result_unwrap_or r 255 ≡ programme_of z
unfolding programme_of
narrowed (pos n) (Ok x) h = omega (arith, h.0, h.1)
narrowed (pos n) (Err e) h = let large : 256 ≤ n = grind (arith, h) in omega (arith, large)
narrowed (negsuc n) (Ok x) h = absurd h.0
narrowed (negsuc n) (Err e) h = refl

pub returns : goal.returns
returns c = c.unwrap_or.ensures ∙ narrowed c.args.n c.try_from.result (rw (to_z-of_z {w = w32} {z = c.args.n} (search rules)) at c.try_from.ensures)
