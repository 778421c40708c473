-- `alloc::excitation::middle_excitations` meets its contract. The loop's invariant: the excitation and the state are the definition's, up to `band`,
-- however many bands there are. Assumes nothing.
use mathlib.Core.Path.{◌≡◌, ◌∙◌, ap}
use Prim.Native.Nat.{ℕ, suc, ◌+◌, ◌-◌, ◌≤◌, ◌<◌, ◌^◌}
use native.Mathlib.Omega.{arith}
use borrow.Author.Rules.{rules}
use lib.IntN.{ℤ, pos}
use mir.Syntax.{w32}
use mir.Val.{to_z, of_z}
use Rattle.signed.proofs.Bounds.{back_32, below_more}
use Rattle.alloc.specs.Allocation.{at}
use Rattle.alloc.specs.Fills.{Fills}
use Rattle.alloc.specs.Leaks.{leak_after, excite_at}
use Rattle.alloc.specs.declared.Leak.{Leak}
use Rattle.alloc.proofs.Leaks.{after_bounded, after_next, excite_below}
use Rattle.alloc.proofs.Filled.{fills_none, fills_set}
use Rattle.alloc.proofs.excitation.middle_excitations.Statement.{statement}
use Rattle.alloc.proofs.excitation.middle_excitations.Tie as tie

abbrev invariant-loop-band : tie.invariant-loop-band
invariant-loop-band out₀ g bands first last leak₀ band₀ out leak band =
    (first ≤ band)
    × (band ≤ last)
    × ((count : ℕ) → leak ≡ leak_after g (at bands) count first leak₀ (band - first))
    × ((count : ℕ) → Fills (pos 0) first band (excite_at g (at bands) count first leak₀) out₀ out)

abbrev decreases-loop-band : tie.decreases-loop-band
decreases-loop-band out₀ g bands first last leak₀ band₀ out leak band = last - band

module _ (s : tie.Start invariant-loop-band decreases-loop-band) where
  abbrev level : ℕ → ℤ
  level = at s.args.bands.now

  gains_fit : (s.args.g.fgain < 2 ^ 16) × (s.args.g.sgain < 2 ^ 16)
  gains_fit = omega arith

-- the state after one more band
module _ (c : tie.After-middle_step-leak invariant-loop-band decreases-loop-band) (count : ℕ) where
  abbrev begin : tie.Start invariant-loop-band decreases-loop-band
  begin = c.before.before.before

  abbrev band : ℕ
  band = c.before.before.loop-band.band

  abbrev after : Leak
  after = leak_after begin.args.g (level begin) count begin.args.first begin.args.start (suc (band - begin.args.first))

  stepped : c.middle_step-leak.result ≡ after
  stepped =
      let here = c.before.before.loop-band in
      c.middle_step-leak.ensures count
      ∙ after_next begin.args.g (level begin) count begin.args.first band begin.args.start here.leak (omega arith) (here.invariant.2 count)

  stored : to_z w32 (of_z w32 c.middle_step-leak.result.excite) ≡ after.excite
  stored =
      let small = excite_below begin.args.g (gains_fit begin) (level begin) begin.requires.5 count begin.args.first begin.args.start begin.requires.4 (band - begin.args.first) in
      ap (λ (l : Leak). to_z w32 (of_z w32 l.excite)) stepped ∙ back_32 after.excite (below_more {k = 31} small tt).below

pub middle_excitations_spec : {M : Type 1} → statement M
unfolding leak_after
middle_excitations_spec =
    tie.close
    (tie.spec
    invariant-loop-band
    decreases-loop-band
    (λ c. let none : c.args.first - c.args.first ≡ 0 = omega arith in (search rules, search rules, (λ count. rw none), (λ count. fills_none _ _ _ _)))
    (λ c κs.
    let s = c.before.before in
    let here = c.before.loop-band in
    let inside = s.requires.3 here.band (omega arith) (omega arith) in
    let bounded = after_bounded s.args.g (gains_fit s) (level s) s.requires.5 0 s.args.first s.args.start s.requires.4 (here.band - s.args.first) in
    (inside.0, inside.1, rw (here.invariant.2 0) bounded, s.requires.5))
    (λ c. search rules)
    (λ c. search rules)
    (λ c. search rules)
    (λ c. search rules)
    (λ c.
    let s = c.before.before.before.before in
    let here = c.before.before.before.loop-band in
    let more : here.band + 1 - s.args.first ≡ suc (here.band - s.args.first) = omega arith in (
      search rules,
      search rules,
      (λ count. rw more (stepped c.before count)),
      (λ count. fills_set _ _ _ _ here.out here.band _ (omega arith) (omega (arith, (here.invariant.3 0).long)) (stored c.before count) (here.invariant.3 count)),
    ))
    (λ c count.
    let end : c.before.loop-band.band ≡ c.before.before.args.last = omega arith in
    (rw end at (c.before.loop-band.invariant.2 count), rw end at (c.before.loop-band.invariant.3 count))))
