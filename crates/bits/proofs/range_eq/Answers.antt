-- `bits::range_eq` meets its contract: a turn of the loop compares the next bits, 16 or what is left. Assumes nothing.
use Rattle.std.proofs.Common.{◌≡◌, ◌∙◌, ◌+◌, min, true, false, sym, arith}
use Rattle.bits.specs.Bits.{inside, same_bits, range_eq}
use Rattle.bits.proofs.Range.{same_turn, other_turn}
use Rattle.bits.proofs.range_eq.Goals as goal
use Rattle.bits.proofs.range_eq.Goals.{then-not-ends_inside-via-then-not-ends_inside, then-not-ends_inside-via-else-not-ends_inside+then-not-ends_inside-2}

pub returns-then-not-ends_inside : goal.returns-then-not-ends_inside
unfolding range_eq
returns-then-not-ends_inside c = elim c.then-not-ends_inside.branch [
  | then-not-ends_inside-via-then-not-ends_inside w ↦ let no : inside c.args.x.now c.args.a c.args.n ≡ false = sym c.ends_inside.ensures ∙ w.if-not-ends_inside.true in rw no
  | then-not-ends_inside-via-else-not-ends_inside+then-not-ends_inside-2 w ↦
      let x_in : inside c.args.x.now c.args.a c.args.n ≡ true = sym c.ends_inside.ensures ∙ w.if-not-ends_inside.false in
      let no : inside c.args.y.now c.args.b c.args.n ≡ false = sym w.ends_inside-else-not-ends_inside.ensures ∙ w.if-not-ends_inside-2.true in
      rw (x_in, no)
]

pub loop-i-init : goal.loop-i-init
unfolding same_bits
loop-i-init c = let none : min 0 c.args.n ≡ 0 = omega arith in rw none

pub returns-then-get : goal.returns-then-get
unfolding range_eq
returns-then-get c =
    let x_in : inside c.args.x.now c.args.a c.args.n ≡ true = sym c.ends_inside.ensures ∙ c.if-not-ends_inside.false in
    let y_in : inside c.args.y.now c.args.b c.args.n ≡ true = sym c.ends_inside-else-not-ends_inside.ensures ∙ c.if-not-ends_inside-2.false in
    let other = other_turn c.args.x.now c.args.y.now c.args.a c.args.b c.args.n c.loop-i.i c.loop-i-test.true (λ e. c.if-get.true (c.get.ensures ∙ e ∙ sym c.get-in-loop-i.ensures)) in
    rw (x_in, y_in, other)

pub loop-i-preserved : goal.loop-i-preserved
loop-i-preserved c =
    same_turn c.args.x.now c.args.y.now c.args.a c.args.b c.args.n c.loop-i.i c.loop-i-test.true c.loop-i.invariant (sym c.get.ensures ∙ c.if-get.false ∙ c.get-in-loop-i.ensures)

pub returns-else-not-ends_inside-2 : goal.returns-else-not-ends_inside-2
unfolding range_eq
returns-else-not-ends_inside-2 c =
    let x_in : inside c.args.x.now c.args.a c.args.n ≡ true = sym c.ends_inside.ensures ∙ c.if-not-ends_inside.false in
    let y_in : inside c.args.y.now c.args.b c.args.n ≡ true = sym c.ends_inside-else-not-ends_inside.ensures ∙ c.if-not-ends_inside-2.false in
    let all : min c.loop-i.i c.args.n ≡ c.args.n = omega arith in
    rw (x_in, y_in, rw all at c.loop-i.invariant)

-- the turn that the last bits take
pub returns-else-get : goal.returns-else-get
unfolding range_eq
returns-else-get c =
    let x_in : inside c.args.x.now c.args.a c.args.n ≡ true = sym c.ends_inside.ensures ∙ c.if-not-ends_inside.false in
    let y_in : inside c.args.y.now c.args.b c.args.n ≡ true = sym c.ends_inside-else-not-ends_inside.ensures ∙ c.if-not-ends_inside-2.false in
    let last = same_turn c.args.x.now c.args.y.now c.args.a c.args.b c.args.n c.loop-i.i c.loop-i-test.true c.loop-i.invariant (sym c.get.ensures ∙ c.if-get.false ∙ c.get-in-loop-i.ensures) in
    let all : min (c.loop-i.i + 16) c.args.n ≡ c.args.n = omega arith in
    rw (x_in, y_in, rw all at last)
