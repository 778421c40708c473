-- `alloc::excitation::low_excitations` meets its contract. The loop's invariant: the excitation and the state are the definition's, up to `band`.
-- Assumes nothing.
use mathlib.Core.Path.{◌≡◌, ◌∙◌}
use Prim.Native.Nat.{ℕ, suc, ◌+◌, ◌-◌, ◌≤◌, ◌<◌, ◌^◌}
use native.Mathlib.Omega.{arith}
use borrow.Author.Rules.{rules}
use lib.IntN.{ℤ, pos}
use mir.Syntax.{w32}
use mir.Val.{to_z, of_z}
use Rattle.signed.specs.Bound.{Below}
use Rattle.signed.proofs.Bounds.{back_32, below_more}
use Rattle.alloc.specs.Allocation.{at}
use Rattle.alloc.specs.Sound.{Bounded}
use Rattle.alloc.specs.Fills.{Fills}
use Rattle.alloc.specs.Leaks.{leak_after, excite_at}
use Rattle.alloc.specs.declared.Leak.{Leak}
use Rattle.alloc.proofs.Leaks.{after_bounded, after_next, excite_below}
use Rattle.alloc.proofs.Filled.{fills_none, fills_set}
use Rattle.alloc.proofs.excitation.low_excitations.Statement.{statement}
use Rattle.alloc.proofs.excitation.low_excitations.Tie as tie

abbrev invariant-loop-band : tie.invariant-loop-band
invariant-loop-band out₀ g bands first last count leak₀ band₀ out leak band =
    (first ≤ band)
    × (band ≤ last)
    × (leak ≡ leak_after g (at bands) count first leak₀ (band - first))
    × Fills (pos 0) first band (excite_at g (at bands) count first leak₀) out₀ out

abbrev decreases-loop-band : tie.decreases-loop-band
decreases-loop-band out₀ g bands first last count leak₀ band₀ out leak band = last - band

-- the definition over the parameters
module _ (s : tie.Start invariant-loop-band decreases-loop-band) where
  abbrev level : ℕ → ℤ
  level = at s.args.bands.now

  abbrev after : ℕ → Leak
  after = leak_after s.args.g level s.args.count s.args.first s.args.start

  gains_fit : (s.args.g.fgain < 2 ^ 16) × (s.args.g.sgain < 2 ^ 16)
  gains_fit = omega arith

  bounded : (n : ℕ) → Bounded (after n)
  bounded = after_bounded s.args.g gains_fit level s.requires.5 s.args.count s.args.first s.args.start s.requires.4

  excite_small : (n : ℕ) → Below 18 (after (suc n)).excite
  excite_small = excite_below s.args.g gains_fit level s.requires.5 s.args.count s.args.first s.args.start s.requires.4

-- the state after one more band
stepped : (c : tie.After-leak_step-leak invariant-loop-band decreases-loop-band) → c.leak_step-leak.result ≡ after c.before.before.before (suc (c.before.before.loop-band.band - c.before.before.before.args.first))
stepped c =
    let s = c.before.before.before in
    let here = c.before.before.loop-band in
    c.leak_step-leak.ensures ∙ after_next s.args.g (level s) s.args.count s.args.first here.band s.args.start here.leak (omega arith) here.invariant.2

pub low_excitations_spec : {M : Type 1} → statement M
unfolding leak_after
low_excitations_spec =
    tie.close
    (tie.spec
    invariant-loop-band
    decreases-loop-band
    (λ c. let none : c.args.first - c.args.first ≡ 0 = omega arith in (search rules, search rules, rw none, fills_none _ _ _ _))
    (λ c κs.
    let s = c.before.before in
    let here = c.before.loop-band in
    (s.requires.3 here.band (omega arith) (omega arith), rw here.invariant.2 (bounded s (here.band - s.args.first)), s.requires.5))
    (λ c. search rules)
    (λ c. search rules)
    (λ c. search rules)
    (λ c. search rules)
    (λ c.
    let s = c.before.before.before.before in
    let here = c.before.before.before.loop-band in
    let more : here.band + 1 - s.args.first ≡ suc (here.band - s.args.first) = omega arith in
    let next = stepped c.before in
    let excite = (after s (suc (here.band - s.args.first))).excite in
    let stored : to_z w32 (of_z w32 c.before.leak_step-leak.result.excite) ≡ excite =
    rw next (back_32 excite (below_more {k = 31} (excite_small s (here.band - s.args.first)) tt).below) in (
      search rules,
      search rules,
      rw more next,
      fills_set _ _ _ _ here.out here.band _ (omega arith) (omega (arith, here.invariant.3.long)) stored here.invariant.3,
    ))
    (λ c.
    let end : c.before.loop-band.band ≡ c.before.before.args.last = omega arith in
    (rw end at c.before.loop-band.invariant.2, rw end at c.before.loop-band.invariant.3)))
