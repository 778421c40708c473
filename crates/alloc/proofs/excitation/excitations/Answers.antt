-- `alloc::excitation::excitations` meets its contract: the bands below 7, then those below 22 and then those from 22 on, each by the state that the
-- ones before them leave. Assumes nothing.
use Rattle.std.proofs.Common.{◌≡◌, ◌∙◌, ap, ℕ, ◌+◌, ◌-◌, ◌≤◌, min, max, List, ℤ, pos, arith}
use Rattle.alloc.specs.Allocation.{at}
use Rattle.alloc.specs.Fills.{Fills}
use Rattle.alloc.specs.Leaks.{leak_after, excite_at}
use Rattle.alloc.specs.declared.Gains.{Gains}
use Rattle.alloc.specs.declared.Leak.{Leak}
use Rattle.alloc.proofs.Leaks.{after_bounded, after_more, excite_more}
use Rattle.alloc.proofs.Filled.{fills_join, fills_same}
use Rattle.alloc.proofs.excitation.excitations.Goals as goal

together : (a b c : ℕ) → a ≤ b → b ≤ c → b - a + (c - b) ≡ c - a
together a b c p q = omega arith

module _ (g : Gains) (level : ℕ → ℤ) (first last : ℕ) (start : Leak) where
  abbrev after : ℕ → Leak
  after = leak_after g level last first start

  abbrev excite : ℕ → ℤ
  excite = excite_at g level last first start

  -- what follows a state of the definition is the definition's
  module _ (split : ℕ) (l : Leak) (is : l ≡ after (split - first)) (h : first ≤ split) where
    after_is : (n : ℕ) → leak_after g level last split l n ≡ after (split - first + n)
    after_is n = ap (λ (m : Leak). leak_after g level last split m n) is ∙ after_more g level last first split start h n

    excite_is : (band : ℕ) → split ≤ band → excite_at g level last split l band ≡ excite band
    excite_is band p = ap (λ (m : Leak). excite_at g level last split m band) is ∙ excite_more g level last first split start h band p

    -- the bands after them, up to another place
    module _ (to : ℕ) (p : split ≤ to) where
      next_is : {next : Leak} → next ≡ leak_after g level last split l (to - split) → next ≡ after (to - first)
      next_is e = e ∙ after_is (to - split) ∙ ap after (together first split to h p)

      filled : {x y z : List ℤ} → Fills (pos 0) first split excite x y → Fills (pos 0) split to (excite_at g level last split l) y z → Fills (pos 0) first to excite x z
      filled before more = fills_join _ _ _ _ _ h p before (fills_same _ _ _ _ _ (λ band a b. excite_is band a) more)

pub low_excitations-leak-requires : goal.low_excitations-leak-requires
low_excitations-leak-requires c =
    let low : c.min-low.result ≡ min c.args.last (max c.args.first 7) = omega (arith, c.min-low.ensures, c.max.ensures) in
    (c.requires.0, omega arith, omega arith, (λ band a b. omega arith), c.requires.3, c.requires.4)

pub middle_excitations-next-requires : goal.middle_excitations-next-requires
middle_excitations-next-requires c =
    let a = c.args in
    let low : c.min-low.result ≡ min a.last (max a.first 7) = omega (arith, c.min-low.ensures, c.max.ensures) in
    let middle : c.min-middle.result ≡ min a.last (max a.first 22) = omega (arith, c.min-middle.ensures, c.max-2.ensures) in
    let bounded = after_bounded a.g (omega arith, omega arith) (at a.bands.now) c.requires.4 a.last a.first a.start c.requires.3 in
    (c.low_excitations-leak.array_long, omega arith, omega arith, (λ band p q. (omega arith, omega arith)), rw c.low_excitations-leak.ensures.0 (bounded _), c.requires.4)

pub high_excitations-requires : goal.high_excitations-requires
high_excitations-requires c =
    let a = c.args in
    let low : c.min-low.result ≡ min a.last (max a.first 7) = omega (arith, c.min-low.ensures, c.max.ensures) in
    let middle : c.min-middle.result ≡ min a.last (max a.first 22) = omega (arith, c.min-middle.ensures, c.max-2.ensures) in
    let bounded = after_bounded a.g (omega arith, omega arith) (at a.bands.now) c.requires.4 a.last a.first a.start c.requires.3 in
    let next = next_is a.g (at a.bands.now) a.first a.last a.start c.min-low.result c.low_excitations-leak.result c.low_excitations-leak.ensures.0 (omega arith) c.min-middle.result (omega arith) (c.middle_excitations-next.ensures a.last).0 in
    (c.middle_excitations-next.array_long, omega arith, c.requires.2, (λ band p q. omega arith), rw next (bounded _), c.requires.4)

pub returns : goal.returns
returns c =
    let a = c.args in
    let low : c.min-low.result ≡ min a.last (max a.first 7) = omega (arith, c.min-low.ensures, c.max.ensures) in
    let middle : c.min-middle.result ≡ min a.last (max a.first 22) = omega (arith, c.min-middle.ensures, c.max-2.ensures) in
    let next = next_is a.g (at a.bands.now) a.first a.last a.start c.min-low.result c.low_excitations-leak.result c.low_excitations-leak.ensures.0 (omega arith) c.min-middle.result (omega arith) (c.middle_excitations-next.ensures a.last).0 in
    let before = filled a.g (at a.bands.now) a.first a.last a.start c.min-low.result c.low_excitations-leak.result c.low_excitations-leak.ensures.0 (omega arith) c.min-middle.result (omega arith) c.low_excitations-leak.ensures.1 (c.middle_excitations-next.ensures a.last).1 in
    filled a.g (at a.bands.now) a.first a.last a.start c.min-middle.result c.middle_excitations-next.result next (omega arith) a.last (omega arith) before c.high_excitations.ensures
