-- A turn takes one digit more; the byte that ends the number ends the digits.
use Rattle.std.proofs.Common.{refl, arith}
use Rattle.packed.proofs.AtOnce.{run_first, run_more, spelt_run}
use Rattle.packed.proofs.at_once.digits.Goals as goal

pub loop-to-init : goal.loop-to-init
loop-to-init c = run_first c.args.listing.now c.args.at c.args.first c.requires.0 c.requires.1 c.requires.2 c.requires.3

pub returns-then-b-sep : goal.returns-then-b-sep
returns-then-b-sep c = spelt_run c.args.listing.now c.args.at c.args.sep _ c.loop-to.invariant (refl, refl, omega arith, c.if-b-sep.true)

pub loop-to-preserved : goal.loop-to-preserved
loop-to-preserved c =
    let digit = c.if-not-is_ascii_digit.ensures.cases in
    run_more c.args.listing.now c.args.at c.loop-to.invariant (omega arith) (omega (arith, digit)) c.loop-to-test.true (omega (arith, digit))
