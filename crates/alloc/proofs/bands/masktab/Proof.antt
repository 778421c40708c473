-- `alloc::bands::masktab` meets its contract: each answer is that of the range that the tests before it leave, and the ranges are those of the table.
-- Assumes nothing.
use mathlib.Core.Path.{◌≡◌, refl}
use Prim.Native.Nat.{ℕ, ◌+◌, ◌-◌, ◌/◌, ◌<◌}
use native.Mathlib.Omega.{arith}
use borrow.Author.Rules.{rules}
use borrow.Author.Tests.{lt-ltb, le-ltb}
use Rattle.alloc.specs.Band.{InBand}
use Rattle.alloc.proofs.BandEnds.{ranged, ranged_in}
use Rattle.alloc.proofs.bands.masktab.Statement.{statement}
use Rattle.alloc.proofs.bands.masktab.Tie as tie

answer : (bin r : ℕ) → ranged bin ≡ r → bin < 253 → InBand bin r
answer bin r e h = rw (← e) (ranged_in bin h)

pub masktab_spec : {M : Type 1} → statement M
unfolding ranged
masktab_spec =
    tie.close
    (tie.spec
    (λ c.
    let bin = c.before.args.bin in
    (answer bin bin (rw (lt-ltb bin 28 (omega arith))), λ past. absurd (omega arith)))
    (λ c. search rules)
    (λ c.
    let bin = c.before.before.args.bin in
    (answer bin (28 + (bin - 28) / 3) (rw (le-ltb bin 28 (omega arith), lt-ltb bin 49 (omega arith))), λ past. absurd (omega arith)))
    (λ c. search rules)
    (λ c.
    let bin = c.before.before.before.args.bin in (
      answer bin (35 + (bin - 49) / 6) (rw (le-ltb bin 28 (omega arith), le-ltb bin 49 (omega arith), lt-ltb bin 85 (omega arith))),
      λ past. absurd (omega arith),
    ))
    (λ c. search rules)
    (λ c.
    let bin = c.before.before.before.before.args.bin in (
      answer bin (41 + (bin - 85) / 12)
          (rw (le-ltb bin 28 (omega arith), le-ltb bin 49 (omega arith), le-ltb bin 85 (omega arith), lt-ltb bin 133 (omega arith))),
      λ past. absurd (omega arith),
    ))
    (λ c. search rules)
    (λ c.
    let bin = c.before.before.before.before.args.bin in (
      answer bin (45 + (bin - 133) / 24)
          (rw (le-ltb bin 28 (omega arith), le-ltb bin 49 (omega arith), le-ltb bin 85 (omega arith), le-ltb bin 133 (omega arith))),
      λ past. refl,
    )))
