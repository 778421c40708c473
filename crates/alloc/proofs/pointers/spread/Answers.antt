-- `alloc::pointers::spread` meets its contract. Assumes nothing.
use Rattle.std.proofs.Common.{◌≡◌, ◌∙◌, sym, ap, ℕ, ◌+◌, ◌≤◌, ◌<◌, w32, to_z, of_z, rules, arith}
use native.Mathlib.Nat.{le_refl}
use mir.ValLaws.{to_z-of_z}
use Rattle.alloc.specs.Allocation.{at, start_of, end_of}
use Rattle.alloc.proofs.BandEnds.{start_at, start_after, start_mono, last_start, band_at}
use Rattle.alloc.proofs.Filled.{fills_none, fills_moved, fills_join}
use Rattle.alloc.proofs.pointers.spread.Goals as goal

-- the band's bins, and that they are in the array
to_is : (from band width : ℕ) → from ≡ start_of band → end_of band ≡ start_of band + width → from + width ≡ start_of (band + 1)
to_is from band width e w = ap (λ (n : ℕ). n + width) e ∙ sym w ∙ sym (start_after band)

inside : (band : ℕ) → band < 50 → start_of (band + 1) ≤ 253
inside band h = rw (← last_start) (start_mono (band + 1) 50 (omega arith) (le_refl 50))

pub loop-band-init : goal.loop-band-init
loop-band-init c = (omega arith, omega arith, fills_none _ _ _ _)

pub overflow_add-from : goal.overflow_add-from
overflow_add-from c =
    let band = c.loop-band.band in
    let from = c.from-from.ensures ∙ start_at c.args.ends.now band c.requires.1 (omega arith) in
    let to = to_is c.from-from.result band c.args.width from (c.requires.5 band (omega arith) (omega arith)) in
    record { fits = omega (arith, to, inside band (omega arith)) }

pub fill-requires : goal.fill-requires
fill-requires c =
    let band = c.loop-band.band in
    let from = c.from-from.ensures ∙ start_at c.args.ends.now band c.requires.1 (omega arith) in
    let to = to_is c.from-from.result band c.args.width from (c.requires.5 band (omega arith) (omega arith)) in
    (c.loop-band.invariant.2.long ∙ c.requires.0, omega arith, omega (arith, to, inside band (omega arith)))

pub loop-band-preserved : goal.loop-band-preserved
loop-band-preserved c =
    let band = c.loop-band.band in
    let limits = c.args.thresholds.now in
    let from = c.from-from.ensures ∙ start_at c.args.ends.now band c.requires.1 (omega arith) in
    let to = to_is c.from-from.result band c.args.width from (c.requires.5 band (omega arith) (omega arith)) in
    let threshold : to_z w32 (of_z w32 (at limits band)) ≡ at limits band = to_z-of_z w32 (at limits band) (search rules) in
    let end = start_after band in
    let up = start_mono c.args.first band (omega arith) (omega arith) in
    let on = start_mono band (band + 1) (omega arith) (omega arith) in
    let one = fills_moved _ _ _ from to (λ bin p q. threshold ∙ ap (at limits) (sym (band_at bin band (omega arith) p (omega arith)))) c.fill.ensures in
    (omega arith, omega arith, fills_join _ _ _ _ _ up on c.loop-band.invariant.2 one)
