-- r is the register over the bytes from the first up to this one.
use Rattle.std.proofs.Common.{◌≡◌, ◌-◌, ◌*◌, ◌≤◌, max}
use Rattle.crc.specs.Register as the
use Rattle.crc.proofs.register.Given as goal

abbrev pub invariant-loop-at : goal.invariant-loop-at
invariant-loop-at l = record { bound : l.at ≤ max l.from l.to; so_far : l.r ≡ the.register l.s (l.from * 8) ((l.at - l.from) * 8) }
