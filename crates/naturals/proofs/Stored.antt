-- A list that is written into an array in two parts is written as one. Assumes nothing.
use mathlib.Core.List.{List, [], ◌∷◌, ◌++◌}
use mathlib.Core.Path.{◌≡◌, sym, ◌∙◌}
use Prim.Native.Nat.{ℕ, suc, ◌+◌}
use native.Mathlib.Nat.{add-zero, add-suc, suc-add}
use lib.ListN.{length, set}
use lib.Seq.{sets}

pub sets_append : {A : Type 0} (vs ws l : List A) (i j : ℕ) → i + length vs ≡ j → sets l i (vs ++ ws) ≡ sets (sets l i vs) j ws
sets_append [] ws l i j e = rw (← e, add-zero i)
sets_append (v ∷ vs) ws l i j e = sets_append vs ws (set l i v) (suc i) j (suc-add i (length vs) ∙ sym (add-suc i (length vs)) ∙ e)
