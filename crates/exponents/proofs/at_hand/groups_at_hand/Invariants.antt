-- The loop of `exponents::at_hand::groups_at_hand`: which groups are left, from the place that the group's number tells; and that the exponents
-- are sound.
use Rattle.syntax.specs.Grammar.{part_of}
use Rattle.syntax.proofs.Sequence.{Turns}
use Rattle.exponents.specs.Exponents.{Unpacked, bins_each, group}
use Rattle.exponents.specs.Sound.{SoundUnpacked}
use Rattle.exponents.proofs.AtHand.{placed}
use Rattle.exponents.proofs.at_hand.groups_at_hand.Given as goal

abbrev pub invariant-loop-n : goal.invariant-loop-n
invariant-loop-n l =
    let set = l.fn.set in
    let now : Unpacked = record { last = l.exponent; row = l.row } in
    Turns (group (part_of set.blk set.name set.index) (bins_each set.strategy) set.first) 0 set.count (record { last = l.fn.last; row = l.initial.row }) l.fn.r l.n now (placed l.n l.rows l.fn.r)
    × SoundUnpacked now
