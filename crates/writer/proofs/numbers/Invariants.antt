-- The first i numbers are written.
use Rattle.std.proofs.Common.{◌≡◌, map, pos, take}
use Rattle.std.proofs.lemmas.List.Edits.{sets}
use Rattle.writer.proofs.numbers.Given as goal

abbrev pub invariant-loop-i : goal.invariant-loop-i
invariant-loop-i l = l.run ≡ sets l.initial.run 0 (take l.i (map pos l.from))
