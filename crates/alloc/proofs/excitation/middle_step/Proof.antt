-- `alloc::excitation::middle_step` meets its contract: from band 7 on the definition has one way. Assumes nothing.
use mathlib.Core.Path.{◌≡◌, ◌∙◌, sym}
use Prim.Native.Nat.{ℕ, ◌+◌}
use borrow.Author.Rules.{rules}
use lib.IntN.{ℤ}
use mir.Syntax.{w32}
use mir.Val.{to_z, of_z}
use Rattle.signed.specs.Bound.{Below}
use Rattle.signed.proofs.Bounds.{back_32, below_is, below_more, below_read}
use Rattle.alloc.specs.Allocation.{at, lowcomp}
use Rattle.alloc.proofs.Bounded.{lowcomp_below}
use Rattle.alloc.proofs.Leaks.{middle_step}
use Rattle.alloc.proofs.excitation.middle_step.Statement.{statement}
use Rattle.alloc.proofs.excitation.middle_step.Tie as tie

-- the band's level and the compensation, as they are read back
module _ (c : tie.After-calc_lowcomp-low) where
  abbrev begin : tie.Start
  begin = c.before.before.before.before

  abbrev level : ℕ → ℤ
  level = at begin.args.bands.now

  abbrev low_of : ℤ
  low_of = lowcomp begin.args.l.low (level begin.args.band) (level (begin.args.band + 1)) begin.args.band

  here_is : to_z w32 (of_z w32 (level begin.args.band)) ≡ level begin.args.band
  here_is = back_32 _ c.before.before.before.here-1.given

  low_is : to_z w32 (of_z w32 c.calc_lowcomp-low.result) ≡ low_of
  low_is =
      let old = back_32 begin.args.l.low (below_more {k = 31} begin.requires.2.low tt).below in
      let next = back_32 (level (begin.args.band + 1)) c.before.before.calc_lowcomp-arg-1.given in
      back_32 _ c.calc_lowcomp-low.type_inv ∙ rw (old, here_is, next) at c.calc_lowcomp-low.ensures

  low_small : Below 9 (to_z w32 (of_z w32 c.calc_lowcomp-low.result))
  low_small = below_is low_is (lowcomp_below begin.args.l.low _ _ _ begin.requires.2.low)

pub middle_step_spec : {M : Type 1} → statement M
middle_step_spec =
    tie.close
    (tie.spec
    (λ c. search rules)
    (λ c. search rules)
    (λ c. search rules)
    (λ c. search rules)
    (λ c. search rules)
    (λ c κs.
    let s = c.before.before.before in (
      below_read (below_more s.requires.2.low tt),
      (below_read (below_more (s.requires.3 s.args.band) tt), below_read (below_more (s.requires.3 (s.args.band + 1)) tt)),
    ))
    (λ c κs. let s = begin c in (below_read (s.requires.3 s.args.band), low_small c, low_small c, s.requires.2))
    (λ c count.
    let low = c.before in
    let s = begin low in
    rw (here_is low, low_is low) at c.fall_leak.ensures ∙ sym (middle_step s.args.g (level low) count s.args.band s.args.l s.requires.0 s.requires.1)))
