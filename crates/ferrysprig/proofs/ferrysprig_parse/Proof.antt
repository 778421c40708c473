-- `ferrysprig::ferrysprig_parse` meets its contract: what `parse` answers, as numbers. Assumes nothing.
use mathlib.Core.Path.{ap}
use native.Mathlib.Omega.{arith}
use borrow.Author.Rules.{rules}
use Rattle.ac3.specs.Promise.{call}
use Rattle.ferrysprig.specs.Numbers.{told}
use Rattle.ferrysprig.proofs.Promise.{long_told, promised_numbers}
use Rattle.ferrysprig.proofs.ferrysprig_parse.Statement.{statement}
use Rattle.ferrysprig.proofs.ferrysprig_parse.Tie as tie

small : tie.Need-numbers-requires
small c κs =
    let a = c.before.before.before.before.args in
    let parse = c.before.parse.ensures in
    let within = parse.1.1 in
    ((within.few, omega (arith, within.few, within.told)), long_told (call a.capture.now a.place a.rows.now) parse.0)

answers : tie.Need-returns
answers c =
    let parse = c.before.before.parse.ensures in
    (rw c.numbers.ensures (ap told parse.0), promised_numbers parse.1.0 parse.1.1 c.numbers.ensures)

pub ferrysprig_parse_spec : {M : Type 1} → statement M
ferrysprig_parse_spec =
    tie.close
    (tie.spec
    (λ c κs. search rules)  -- parse-requires
    small  -- numbers-requires
    (λ c. search rules)  -- same-length
    answers)  -- returns
