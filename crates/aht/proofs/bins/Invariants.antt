-- The bins that are left, from where the loop stands, and that as many gains are left.
use Rattle.std.proofs.Common.{◌≡◌, ◌+◌, ◌≤◌, List, ℕ, drop}
use Rattle.aht.specs.Aht.{active_bins, bins}
use Rattle.aht.specs.Promises.{Holds}
use Rattle.aht.specs.Walk.{run}
use Rattle.aht.proofs.bins.Given as goal

abbrev pub invariant-loop-h : goal.invariant-loop-h
invariant-loop-h l = record {
  same : (words : List ℕ) → Holds l.section.bytes.now l.gains.at l.gains.gaqmod (active_bins l.gains.gaqmod l.hebap) words
      → run (bins l.gains.gaqmod words l.next l.walked.tags (drop l.h-index l.hebap)) l.section.bytes.now l.section.limit l.walked.end
      ≡ run (bins l.gains.gaqmod words 0 l.fn.from.tags l.hebap) l.section.bytes.now l.section.limit l.fn.from.end;
  left : l.next + active_bins l.gains.gaqmod (drop l.h-index l.hebap) ≡ active_bins l.gains.gaqmod l.hebap;
  few : l.next ≤ l.h-index;
}
