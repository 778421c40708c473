-- What is left to write is the line of the numbers from i on; each number that was written fits, in eleven bytes.
use Rattle.std.proofs.Common.{map, ◌+◌, ◌*◌, ◌≤◌, drop}
use Rattle.listing.specs.Listing.{line}
use Rattle.lister.specs.Listed.{stored}
use Rattle.lister.proofs.Begun.{Begun}
use Rattle.lister.proofs.Short.{AllFit}
use Rattle.lister.proofs.put_line.Given as goal

abbrev pub invariant-loop-i : goal.invariant-loop-i
invariant-loop-i l = record {
  begun : Begun l.fn.out l.at (line (map stored l.numbers)) (line (map stored (drop l.i l.numbers))) l.out l.to;
  near : l.to ≤ l.at + l.i * 11;
  fit : AllFit (map stored (drop l.i l.numbers)) → AllFit (map stored l.numbers);
}
