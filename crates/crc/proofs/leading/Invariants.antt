-- Running backwards from r at this byte gives what running backwards from zero at the end gives.
use Rattle.std.proofs.Common.{◌≡◌, ◌-◌, ◌*◌, ◌<◌}
use Rattle.crc.specs.Register as the
use Rattle.crc.proofs.leading.Given as goal

abbrev pub invariant-loop-at : goal.invariant-loop-at
invariant-loop-at l = record {
  word : l.r < 65536;
  same : the.unrun l.r l.s (l.from * 8) ((l.at - l.from) * 8) ≡ the.unrun 0 l.s (l.from * 8) ((l.to - l.from) * 8);
}
