-- Values on which a slip would show, computed from the definitions. (Those of docs/FORMAT.md stand in `ac3/specs/Values`.) Assumes nothing.
use mathlib.Core.Bool.{false}
use mathlib.Core.Path.{◌≡◌, refl}
use Prim.Native.Nat.{ℕ}
use lib.IntN.{ℤ, pos}
use Rattle.alloc.specs.Allocation.{lowcomp, low_after, rises, kept, address_of}

-- a rise by exactly 256 sets the compensation, and one by more does not
pub compensations : (lowcomp (pos 0) (pos 0) (pos 256) 6 ≡ pos 384) × (lowcomp (pos 0) (pos 0) (pos 384) 6 ≡ pos 0)
unfolding lowcomp
compensations = (refl, refl)

-- band 6 of LFE has no next band: the compensation stays, and no rise is tested
pub lfe_last_lem : (level : ℕ → ℤ) (low : ℤ) → (low_after level 7 6 low ≡ low) × (rises level 7 6 ≡ false)
unfolding low_after rises
lfe_last_lem level low = (refl, refl)

-- of a mask, bits 5 to 12 are kept
pub bits_kept : kept (pos 16383) ≡ pos 8160
unfolding kept
bits_kept = refl

-- an address is counted in steps of 32
pub addresses : (address_of (pos 64) (pos 0) ≡ 2) × (address_of (pos 0) (pos 1) ≡ 0)
unfolding address_of
addresses = (refl, refl)
