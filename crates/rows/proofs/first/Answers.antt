-- `rows::first` meets its contract: after i turns the answer is i more than that for the rows that are left. Assumes nothing.
use Rattle.std.proofs.Common.{◌∙◌, of_z, w32, ap, sym, rules, arith}
use Rattle.rows.specs.Look.{named}
use Rattle.rows.proofs.Look.{is_number, its_bits, row_named, row_other, at_start, stop_at, go_on, ended}
use Rattle.rows.proofs.first.Goals as goal

pub loop-i-init : goal.loop-i-init
loop-i-init c = at_start (named c.args.name) c.args.count c.args.rows.now

pub returns-then-rows-i : goal.returns-then-rows-i
returns-then-rows-i c =
    let a = c.args in
    let i = c.loop-i.i in
    let is = row_named a.name i a.rows.now (is_number (search rules) (omega arith) (c.if-rows-i.true ∙ ap (of_z w32) c.from-wanted.ensures)) in
    let none = stop_at (named a.name) a.count i a.rows.now (omega arith) (omega arith) is in
    omega (arith, none, c.loop-i.invariant)

pub loop-i-preserved : goal.loop-i-preserved
loop-i-preserved c =
    let a = c.args in
    let i = c.loop-i.i in
    let other = row_other a.name i a.rows.now (λ e. c.if-rows-i.false (its_bits a.name (omega arith) e ∙ sym (ap (of_z w32) c.from-wanted.ensures))) in
    c.loop-i.invariant ∙ go_on (named a.name) a.count i a.rows.now (omega arith) (omega arith) other

pub returns : goal.returns
returns c = ended (named c.args.name) c.args.count c.loop-i.i c.args.rows.now (omega arith) c.loop-i.invariant
