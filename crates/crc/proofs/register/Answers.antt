-- `crc::register` meets its contract: a turn of the loop is a byte more. Assumes nothing.
use Rattle.std.proofs.Common.{◌≡◌, ◌∙◌, ◌*◌, ◌-◌, ap, arith, rules}
use mathlib.Core.Path.{ap₂}
use Rattle.crc.specs.Register as the
use Rattle.crc.specs.Bytes.{fed}
use Rattle.crc.proofs.Bytes.{register_more}
use Rattle.crc.proofs.register.Goals as goal

pub loop-at-init : goal.loop-at-init
unfolding the.run
loop-at-init c = let none : c.args.from - c.args.from ≡ 0 = omega arith in record { bound = omega arith; so_far = rw none }

pub loop-at-preserved : goal.loop-at-preserved
loop-at-preserved c = record {
  bound = omega arith;
  so_far =
      c.feed-r.ensures ∙ ap₂ fed c.loop-at.invariant.so_far c.byte.ensures.0
      ∙ register_more c.args.s.now c.args.from c.loop-at.at (omega arith) (search rules);
}

pub returns : goal.returns
returns c =
    let end : c.loop-at.at - c.args.from ≡ c.args.to - c.args.from = omega arith in
    c.loop-at.invariant.so_far ∙ ap (λ n. the.register c.args.s.now (c.args.from * 8) (n * 8)) end
