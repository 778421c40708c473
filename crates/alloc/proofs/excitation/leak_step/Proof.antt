-- `alloc::excitation::leak_step` meets its contract: the code's two ways are the definition's below band 22. Assumes nothing.
use mathlib.Core.Path.{◌≡◌, ◌∙◌, sym, subst}
use mathlib.Core.Bool.{true, false, not}
use Prim.Native.Nat.{ℕ}
use native.Mathlib.Omega.{arith}
use borrow.Author.Rules.{rules}
use lib.Dec.{T, ltb, ltb→lt}
use borrow.Author.Tests.{lt-ltb}
use lib.IntN.{ℤ}
use mir.Syntax.{w32}
use mir.Val.{to_z, of_z}
use Rattle.signed.specs.Bound.{Below}
use Rattle.signed.proofs.Bounds.{levels, back_32, below_read, below_is}
use Rattle.alloc.specs.Allocation.{at, low_after, starts_anew, fall_leak, leak_step}
use store.Enc.{and_l}
use Rattle.alloc.proofs.Bounded.{low_below}
use Rattle.alloc.proofs.excitation.leak_step.Statement.{statement}
use Rattle.alloc.proofs.excitation.leak_step.Tie as tie

-- the band's level, as it is read back
module _ (c : tie.After-here-1) where
  abbrev level_of : ℕ → ℤ
  level_of = at c.before.args.bands.now

  here_is : to_z w32 (of_z w32 (level_of c.before.args.band)) ≡ level_of c.before.args.band
  here_is = back_32 _ c.here-1.given

  here_small : Below 15 (to_z w32 (of_z w32 (level_of c.before.args.band)))
  here_small = below_read (c.before.requires.2 c.before.args.band)

-- the compensation likewise
module _ (c : tie.After-low_after-low) where
  abbrev met : tie.After-here-1
  met = c.before.before

  abbrev low_of : ℤ
  low_of = low_after (level_of met) met.before.args.count met.before.args.band met.before.args.l.low

  low_is : to_z w32 (of_z w32 c.low_after-low.result) ≡ low_of
  low_is =
      let old = met.before.requires.1.low in
      back_32 _ c.low_after-low.type_inv ∙ c.low_after-low.ensures ∙ search levels depth 12

  low_small : Below 9 (to_z w32 (of_z w32 c.low_after-low.result))
  low_small = below_is low_is (low_below (level_of met) _ _ _ met.before.requires.1.low)

-- where the leaks start anew
is-rise-requires : tie.Need-is_rise-requires
is-rise-requires c κs =
    let s = (met c.before.before).before in
    let anew : starts_anew s.args.band s.args.l.risen ≡ true = sym c.before.starts_anew.ensures ∙ c.if-starts_anew.true in
    omega (arith, ltb→lt s.args.band 7 (and_l (ltb s.args.band 7) (not s.args.l.risen) (subst T (sym anew) tt)))

start-leak-requires : tie.Need-start_leak-requires
start-leak-requires c κs = let low = c.before.before.before in (here_small (met low), low_small low)

returns : tie.Need-returns-then-starts_anew
unfolding leak_step
returns c =
    let low = c.before.before.before.before in
    let s = (met low).before in
    let anew : starts_anew s.args.band s.args.l.risen ≡ true = sym c.before.before.before.starts_anew.ensures ∙ c.before.before.if-starts_anew.true in
    rw anew (c.start_leak.ensures ∙ rw (here_is (met low), low_is low, c.before.is_rise.ensures))

-- and where they fall
fall-leak-requires : tie.Need-fall_leak-requires
fall-leak-requires c κs = let low = c.before.before in (here_small (met low), low_small low, low_small low, (met low).before.requires.1)

returns-2 : tie.Need-returns
unfolding leak_step fall_leak
returns-2 c =
    let low = c.before.before.before in
    let s = (met low).before in
    let later : starts_anew s.args.band s.args.l.risen ≡ false = sym c.before.before.starts_anew.ensures ∙ c.before.if-starts_anew.false in
    rw (later, lt-ltb s.args.band 22 s.requires.0) (rw (here_is (met low), low_is low) at c.fall_leak.ensures)

pub leak_step_spec : {M : Type 1} → statement M
leak_step_spec =
    tie.close
    (tie.spec
    (λ c. search rules)
    (λ c. search rules)
    (λ c κs. let s = c.before.before in (s.requires.0, below_read s.requires.1.low, s.requires.2))
    (λ c κs. search rules)
    is-rise-requires
    start-leak-requires
    returns
    fall-leak-requires
    returns-2)
