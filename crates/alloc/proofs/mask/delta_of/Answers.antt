-- `alloc::mask::delta_of` meets its contract: each arm shifts the code less a number. Assumes nothing.
use Rattle.std.proofs.Common.{◌≡◌, ◌∙◌, sym, ℕ, ◌*◌, ◌%◌, ◌^◌, ◌≤◌, ◌<◌, ℤ, pos, ◌-ℤ◌, ◌*ℤ◌, w32, to_z, of_z, arith}
use borrow.Author.Tests.{le-leb, lt-leb}
use Rattle.signed.specs.Bound.{Below}
use Rattle.signed.proofs.Bounds.{bounds, cast_32, below_lit, below_u16, below_is}
use Rattle.signed.proofs.Shift.{shl_by}
use Rattle.alloc.specs.Allocation.{delta_of}
use Rattle.alloc.proofs.Bounded.{delta_of_below}
use Rattle.alloc.proofs.mask.delta_of.Goals as goal

shifted : (code less : ℕ) → code < 256 → Below 16 (pos less) → to_z w32 ((of_z w32 (to_z w32 code -ℤ pos less) * 2 ^ 7) % 2 ^ 32) ≡ (pos code -ℤ pos less) *ℤ pos 128
shifted code less p q =
    let small = below_u16 code (omega arith) in
    rw (cast_32 code (omega arith)) (shl_by 7 (pos code -ℤ pos less) (search bounds depth 12) tt)

-- what an arm gives, and that it is small
arm : (code : ℕ) {z y : ℤ} → code < 256 → z ≡ y → delta_of code ≡ y → (z ≡ delta_of code) × Below 16 z
arm code p e d = let is = e ∙ sym d in (is, below_is is (delta_of_below code p))

up : (code : ℕ) → 4 ≤ code → delta_of code ≡ (pos code -ℤ pos 3) *ℤ pos 128
unfolding delta_of
up code h = rw (le-leb 4 code h)

down : (code : ℕ) → code < 4 → delta_of code ≡ (pos code -ℤ pos 4) *ℤ pos 128
unfolding delta_of
down code h = rw (lt-leb 4 code h)

pub returns-in-0-to-3 : goal.returns-in-0-to-3
returns-in-0-to-3 c = arm c.args.code (omega arith) (shifted c.args.code 4 (omega arith) (below_lit tt)) (down c.args.code (omega arith))

pub returns-in_default : goal.returns-in_default
returns-in_default c = arm c.args.code (omega arith) (shifted c.args.code 3 (omega arith) (below_lit tt)) (up c.args.code (omega arith))
