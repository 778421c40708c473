-- The loop of `mantissas::memos::count_parts`: what is counted, and then the slots that are left, is the whole.
use mathlib.Core.List.{List}
use mathlib.Core.Path.{◌≡◌}
use Prim.Native.Nat.{ℕ, ◌*◌, ◌≤◌}
use lib.IntN.{ℤ}
use lib.ListN.{drop, length}
use Rattle.mantissas.specs.BySlot.{own_counts}
use Rattle.mantissas.specs.Counts.{no_counts, counted_all, width_of, AtMost}
use Rattle.mantissas.specs.Kept.{Kept}
use Rattle.mantissas.specs.Mantissas.{all_pointers}
use Rattle.mantissas.specs.declared.Counts.{Counts}
use Rattle.mantissas.specs.declared.Part.{Part}
use Rattle.mantissas.specs.declared.Setting.{Setting}
use Rattle.mantissas.proofs.BySlot.{Counting}
use Rattle.mantissas.proofs.memos.count_parts.Given as goal

abbrev pub baps : Setting → List (List ℤ) → List Part → List ℕ
baps by exps = all_pointers by.fscod by.st exps by.silent

pub record Counted (by : Setting) (exps : List (List ℤ)) (parts : List Part) (i : ℕ) (counts : Counts) (width : ℕ) (bits : List ℕ) (memos : List (List ℕ)) : Type 0 where
  pub slots : Counting (own_counts by.fscod by.st exps by.silent) parts (drop i parts) counts bits
  pub counted : counted_all counts (baps by exps (drop i parts)) ≡ counted_all no_counts (baps by exps parts)
  pub total : width ≡ width_of counts
  pub few : AtMost (253 * i) counts
  pub reached : i ≤ length parts
  pub kept : Kept by.fscod memos exps

abbrev pub invariant-loop-p : goal.invariant-loop-p
invariant-loop-p l = Counted l.by l.exps l.p-items l.p-index l.counts l.width l.bits l.memos
