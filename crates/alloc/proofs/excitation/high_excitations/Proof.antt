-- `alloc::excitation::high_excitations` meets its contract. The loop's invariant: the excitation and the state are the definition's, up to `band`.
-- Assumes nothing.
use mathlib.Core.Path.{◌≡◌, ◌∙◌, sym}
use Prim.Native.Nat.{ℕ, suc, ◌+◌, ◌-◌, ◌≤◌, ◌<◌, ◌^◌}
use native.Mathlib.Omega.{arith}
use borrow.Author.Rules.{rules}
use lib.IntN.{ℤ, pos}
use mir.Syntax.{w32}
use mir.Val.{to_z, of_z}
use Rattle.signed.specs.Bound.{Below}
use Rattle.signed.proofs.Bounds.{back_32, below_lit, below_more, below_read}
use Rattle.alloc.specs.Allocation.{at}
use Rattle.alloc.specs.Sound.{Bounded}
use Rattle.alloc.specs.Fills.{Fills}
use Rattle.alloc.specs.Leaks.{leak_after, excite_at}
use Rattle.alloc.specs.declared.Leak.{Leak}
use Rattle.alloc.proofs.Leaks.{after_bounded, after_next, excite_below, high_step}
use Rattle.alloc.proofs.Filled.{fills_none, fills_set}
use Rattle.alloc.proofs.excitation.high_excitations.Statement.{statement}
use Rattle.alloc.proofs.excitation.high_excitations.Tie as tie

abbrev invariant-loop-band : tie.invariant-loop-band
invariant-loop-band out₀ g bands first last leak₀ band₀ out leak band =
    (first ≤ band)
    × (band ≤ last)
    × (leak ≡ leak_after g (at bands) last first leak₀ (band - first))
    × Fills (pos 0) first band (excite_at g (at bands) last first leak₀) out₀ out

abbrev decreases-loop-band : tie.decreases-loop-band
decreases-loop-band out₀ g bands first last leak₀ band₀ out leak band = last - band

-- the definition over the parameters
module _ (s : tie.Start invariant-loop-band decreases-loop-band) where
  abbrev level : ℕ → ℤ
  level = at s.args.bands.now

  abbrev after : ℕ → Leak
  after = leak_after s.args.g level s.args.last s.args.first s.args.start

  gains_fit : (s.args.g.fgain < 2 ^ 16) × (s.args.g.sgain < 2 ^ 16)
  gains_fit = omega arith

  bounded : (n : ℕ) → Bounded (after n)
  bounded = after_bounded s.args.g gains_fit level s.requires.5 s.args.last s.args.first s.args.start s.requires.4

  excite_small : (n : ℕ) → Below 18 (after (suc n)).excite
  excite_small = excite_below s.args.g gains_fit level s.requires.5 s.args.last s.args.first s.args.start s.requires.4

-- the band's level and the compensation, as they are read back
module _ (c : tie.After-fall_leak-arg-1 invariant-loop-band decreases-loop-band) where
  abbrev begin : tie.Start invariant-loop-band decreases-loop-band
  begin = c.before.before.before

  abbrev turn : tie.At-loop-band invariant-loop-band decreases-loop-band
  turn = c.before.before

  leak_bounded : Bounded turn.loop-band.leak
  leak_bounded = rw turn.loop-band.invariant.2 (bounded begin (turn.loop-band.band - begin.args.first))

  here_is : to_z w32 (of_z w32 (level begin turn.loop-band.band)) ≡ level begin turn.loop-band.band
  here_is = back_32 _ c.fall_leak-arg-1.given

  low_is : to_z w32 (of_z w32 turn.loop-band.leak.low) ≡ turn.loop-band.leak.low
  low_is = back_32 turn.loop-band.leak.low (below_more {k = 31} leak_bounded.low tt).below

-- the state after one more band
stepped : (c : tie.After-fall_leak-leak invariant-loop-band decreases-loop-band) → c.fall_leak-leak.result ≡ after (begin c.before.before) (suc ((turn c.before.before).loop-band.band - (begin c.before.before).args.first))
stepped c =
    let a = c.before.before in
    let s = begin a in
    let here = (turn a).loop-band in
    rw (here_is a, low_is a) at c.fall_leak-leak.ensures
    ∙ sym (high_step s.args.g (level s) s.args.last here.band here.leak (s.requires.3 here.band (omega arith) (omega arith)))
    ∙ after_next s.args.g (level s) s.args.last s.args.first here.band s.args.start here.leak (omega arith) here.invariant.2

pub high_excitations_spec : {M : Type 1} → statement M
unfolding leak_after
high_excitations_spec =
    tie.close
    (tie.spec
    invariant-loop-band
    decreases-loop-band
    (λ c. let none : c.args.first - c.args.first ≡ 0 = omega arith in (search rules, search rules, rw none, fills_none _ _ _ _))
    (λ c. search rules)
    (λ c. search rules)
    (λ c κs. let a = c.before in (below_read ((begin a).requires.5 (turn a).loop-band.band), below_read (leak_bounded a).low, below_lit tt, leak_bounded a))
    (λ c. search rules)
    (λ c. search rules)
    (λ c. search rules)
    (λ c. search rules)
    (λ c.
    let a = c.before.before.before in
    let s = begin a in
    let here = (turn a).loop-band in
    let more : here.band + 1 - s.args.first ≡ suc (here.band - s.args.first) = omega arith in
    let next = stepped c.before in
    let excite = (after s (suc (here.band - s.args.first))).excite in
    let stored : to_z w32 (of_z w32 c.before.fall_leak-leak.result.excite) ≡ excite =
    rw next (back_32 excite (below_more {k = 31} (excite_small s (here.band - s.args.first)) tt).below) in (
      search rules,
      search rules,
      rw more next,
      fills_set _ _ _ _ here.out here.band _ (omega arith) (omega (arith, here.invariant.3.long)) stored here.invariant.3,
    ))
    (λ c.
    let end : c.before.loop-band.band ≡ c.before.before.args.last = omega arith in
    rw end at c.before.loop-band.invariant.3))
