-- The loop of `mantissas::memos::forget_new`: of the slots before this one what is kept is true.
use mathlib.Core.List.{List}
use Prim.Native.Nat.{ℕ}
use lib.IntN.{ℤ}
use Rattle.mantissas.specs.Kept.{KeptUnlessNew}
use Rattle.mantissas.proofs.Kept.{KeptBefore}
use Rattle.mantissas.proofs.memos.forget_new.Given as goal

abbrev pub invariant-loop-slot : goal.invariant-loop-slot
invariant-loop-slot l =
    (fscod : ℕ) (exps : List (List ℤ)) → KeptUnlessNew fscod l.fn.strategies l.fn.memos exps → KeptBefore fscod l.slot l.fn.strategies l.memos exps
