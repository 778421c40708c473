-- The words that are left, from where the loop stands.
use Rattle.std.proofs.Common.{◌≡◌, ◌-◌}
use Rattle.aht.specs.Aht.{composites}
use Rattle.aht.specs.Promises.{ended}
use Rattle.aht.specs.Walk.{run}
use Rattle.aht.proofs.gains.composites_end.Given as goal

abbrev pub invariant-loop-i : goal.invariant-loop-i
invariant-loop-i l = ended (run (composites (l.count - l._i)) l.section.bytes.now l.section.limit l.place) ≡ ended (run (composites l.count) l.section.bytes.now l.section.limit l.at)
