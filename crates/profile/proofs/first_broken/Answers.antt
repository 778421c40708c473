-- `profile::first_broken` meets its contract: after i turns the answer is i more than that for the rows that are left. Assumes nothing.
use Rattle.std.proofs.Common.{◌∙◌, sym, arith}
use Rattle.rows.proofs.Look.{at_start, stop_at, go_on, ended}
use Rattle.profile.specs.Rules.{rule, broken_in}
use Rattle.profile.proofs.first_broken.Goals as goal

pub loop-i-init : goal.loop-i-init
loop-i-init c = let a = c.args in at_start (broken_in a.header (rule a.number)) a.count a.rows.now

pub returns-then-broken : goal.returns-then-broken
returns-then-broken c =
    let a = c.args in
    let none = stop_at (broken_in a.header (rule a.number)) a.count c.loop-i.i a.rows.now (omega arith) (omega arith) (sym c.broken.ensures ∙ c.if-broken.true) in
    omega (arith, none, c.loop-i.invariant)

pub loop-i-preserved : goal.loop-i-preserved
loop-i-preserved c =
    let a = c.args in
    c.loop-i.invariant ∙ go_on (broken_in a.header (rule a.number)) a.count c.loop-i.i a.rows.now (omega arith) (omega arith) (sym c.broken.ensures ∙ c.if-broken.false)

pub returns : goal.returns
returns c = let a = c.args in ended (broken_in a.header (rule a.number)) a.count c.loop-i.i a.rows.now (omega arith) c.loop-i.invariant
