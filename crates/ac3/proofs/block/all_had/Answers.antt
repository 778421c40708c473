-- `ac3::block::all_had` meets its contract: every coupled channel before the one that is looked at has had them. Assumes nothing.
use mathlib.Core.Bool.{Bool, true, false, ◌&&◌, ◌||◌, not}
use mathlib.Core.Path.{◌≡◌, refl, sym}
use borrow.Author.Count.{below_more}
use lib.ListN.{get_or}
use Rattle.std.proofs.Common.{rules, arith}
use Rattle.ac3.proofs.Sent.{every_all, every_fails}
use Rattle.ac3.proofs.block.all_had.Goals as goal

-- a channel that is not found wanting, and one that is
good : (coupled had : Bool) → (coupled && not had) ≡ false → (not coupled || had) ≡ true
good true true e = refl
good true false e = sym e
good false had e = refl

wanting : (coupled had : Bool) → (coupled && not had) ≡ true → (not coupled || had) ≡ false
wanting true true e = sym e
wanting true false e = refl
wanting false had e = sym e

pub loop-ch-init : goal.loop-ch-init
loop-ch-init c k l = absurd (omega arith)

pub returns-then-chincpl-ch : goal.returns-then-chincpl-ch
returns-then-chincpl-ch c =
    let ch = c.loop-ch.ch in
    sym
    (every_fails (λ k. not (get_or c.args.chincpl k false) || get_or c.args.had k false) 5 ch (search rules)
    (wanting (get_or c.args.chincpl ch false) (get_or c.args.had ch false) c.if-chincpl-ch.true))

pub loop-ch-preserved : goal.loop-ch-preserved
loop-ch-preserved c =
    let ch = c.loop-ch.ch in
    below_more _ ch c.loop-ch.invariant (good (get_or c.args.chincpl ch false) (get_or c.args.had ch false) c.if-chincpl-ch.false)

pub returns : goal.returns
returns c = sym (every_all _ 5 (λ k l. c.loop-ch.invariant k (omega arith)))
