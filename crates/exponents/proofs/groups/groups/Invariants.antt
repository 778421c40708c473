-- The loop of `exponents::groups::groups`: which groups are left, and that the exponents are sound.
use Rattle.syntax.specs.Grammar.{part_of}
use Rattle.syntax.proofs.Sequence.{Turns}
use Rattle.exponents.specs.Exponents.{Unpacked, bins_each, group}
use Rattle.exponents.specs.Sound.{SoundUnpacked}
use Rattle.exponents.proofs.groups.groups.Given as goal

abbrev pub invariant-loop-n : goal.invariant-loop-n
invariant-loop-n l =
    let set = l.fn.set in
    let now : Unpacked = record { last = l.exponent; row = l.row } in
    Turns (group (part_of set.blk set.name set.index) (bins_each set.strategy) set.first) 0 set.count (record { last = l.fn.last; row = l.initial.row }) l.initial.r l.n now l.r
    × SoundUnpacked now
