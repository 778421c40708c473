-- The blocks that are left, from where the loop stands.
use Rattle.std.proofs.Common.{◌≡◌, ◌-◌}
use Rattle.aht.specs.Aht.{mantissa}
use Rattle.aht.specs.Walk.{times, run}
use Rattle.aht.proofs.mantissas.mantissas.Given as goal

abbrev pub invariant-loop-blk : goal.invariant-loop-blk
invariant-loop-blk l = run (times (6 - l._blk) (mantissa l.gain l.m) l.walked.tags) l.section.bytes.now l.section.limit l.walked.end ≡ run (times 6 (mantissa l.gain l.m) l.fn.from.tags) l.section.bytes.now l.section.limit l.fn.from.end
