-- `exponents::groups::spread` meets its contract: three runs of stores, each beginning where the one before ended. Assumes nothing.
use Prim.Native.Nat.{◌+◌}
use lib.IntN.{pos}
use Rattle.slots.proofs.Entries.{sets_three, row_sets}
use Rattle.exponents.specs.Exponents.{bins_each}
use Rattle.exponents.proofs.groups.spread.Goals as goal

pub returns-clause-row_after : goal.returns-clause-row_after
returns-clause-row_after c =
    let a = c.args in
    rw (c.repeat-3.ensures, c.repeat-2.ensures, c.repeat.ensures, c.bins_each-bins.ensures)
    (sets_three (bins_each a.strategy) a.row.now a.at (pos a.three.0) (pos a.three.1) (pos a.three.2))

pub returns-clause-sound_row_2 : goal.returns-clause-sound_row_2
returns-clause-sound_row_2 c =
    let a = c.args in
    let n = bins_each a.strategy in
    let low = c.requires.three_bound in
    let second = a.at + c.bins_each-bins.result in
    let s1 = row_sets a.row.now a.at n a.three.0 c.repeat.ensures c.requires.sound_row low.0 in
    let s2 = row_sets c.repeat.new.row second n a.three.1 c.repeat-2.ensures s1 low.1.0 in
    row_sets c.repeat-2.new.row (second + c.bins_each-bins.result) n a.three.2 c.repeat-3.ensures s2 low.1.1
