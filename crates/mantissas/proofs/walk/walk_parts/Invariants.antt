-- The loop of `mantissas::walk::walk_parts`: which slots are left, from the counts and the reader on.
use mathlib.Core.List.{List}
use Prim.Native.Nat.{ℕ, ◌*◌}
use lib.IntN.{ℤ}
use lib.ListN.{drop}
use Rattle.syntax.specs.declared.Item.{Item}
use Rattle.syntax.specs.declared.Reader.{Reader}
use Rattle.mantissas.specs.Counts.{open_after, AtMost}
use Rattle.mantissas.specs.Mantissas.{none_open, widths, all_pointers}
use Rattle.mantissas.specs.declared.Counts.{Counts}
use Rattle.mantissas.specs.declared.Part.{Part}
use Rattle.mantissas.specs.declared.Setting.{Setting}
use Rattle.mantissas.proofs.Walks.{Left}
use Rattle.mantissas.proofs.walk.walk_parts.Given as goal

abbrev pub baps : Setting → List (List ℤ) → List Part → List ℕ
baps by exps = all_pointers by.fscod by.st exps by.silent

pub record Walking (item : Item) (by : Setting) (exps : List (List ℤ)) (parts : List Part) (c : Reader) (i : ℕ) (counts : Counts) (d : Reader) : Type 0 where
  pub left : Left item (widths none_open (baps by exps parts)) c (widths (open_after counts) (baps by exps (drop i parts))) d
  pub few : AtMost (253 * i) counts

abbrev pub invariant-loop-p : goal.invariant-loop-p
invariant-loop-p l = Walking l.item l.by l.exps l.p-items l.initial.r l.p-index l.counts l.r
