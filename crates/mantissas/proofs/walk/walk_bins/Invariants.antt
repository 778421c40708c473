-- The loop of `mantissas::walk::walk_bins`: which bins are left, from the counts and the reader on.
use Prim.Native.Nat.{◌+◌, ◌-◌, ◌*◌, ◌≤◌}
use mathlib.Core.List.{List}
use mathlib.Core.Path.{◌≡◌}
use Prim.Native.Nat.{ℕ}
use Rattle.syntax.specs.declared.Item.{Item}
use Rattle.syntax.specs.declared.Reader.{Reader}
use Rattle.mantissas.specs.Counts.{counted_all, open_after, AtMost}
use Rattle.mantissas.specs.declared.Counts.{Counts}
use Rattle.mantissas.specs.Mantissas.{widths}
use Rattle.mantissas.specs.Sound.{between}
use Rattle.mantissas.proofs.Walks.{Left}
use Rattle.mantissas.proofs.walk.walk_bins.Given as goal

pub record Bins (item : Item) (pointers : List ℕ) (start end : ℕ) (before : Counts) (c : Reader) (bin : ℕ) (counts : Counts) (d : Reader) : Type 0 where
  pub counted : counted_all counts (between 0 pointers bin end) ≡ counted_all before (between 0 pointers start end)
  pub left : Left item (widths (open_after before) (between 0 pointers start end)) c (widths (open_after counts) (between 0 pointers bin end)) d
  pub few : AtMost (6 * 253 + (bin - start)) counts
  pub from_start : start ≤ bin

abbrev pub invariant-loop-bin : goal.invariant-loop-bin
invariant-loop-bin l = Bins l.item l.pointers l.fn.start l.end l.fn.before l.initial.r l.bin l.counts l.r
