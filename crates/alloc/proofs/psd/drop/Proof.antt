-- `alloc::psd::drop` meets its contract: the shift is a product with 128. Assumes nothing.
use mathlib.Core.Path.{◌≡◌, ◌∙◌, ap}
use Prim.Native.Nat.{◌*◌, ◌%◌, ◌^◌}
use lib.IntN.{pos, neg_ℤ, ◌*ℤ◌}
use mir.Syntax.{w16, w32}
use mir.Val.{to_z, of_z}
use mir.ValLaws.{to_z-of_z}
use Rattle.signed.proofs.Bounds.{bounds, below_i16, below_is}
use Rattle.signed.proofs.Shift.{shl_by}
use Rattle.alloc.proofs.Bounded.{drop_below, drop_is}
use Rattle.alloc.proofs.psd.drop.Statement.{statement}
use Rattle.alloc.proofs.psd.drop.Tie as tie

shifted : (c : tie.Start) → to_z w32 ((of_z w32 (to_z w16 (of_z w16 c.args.exponent)) * 2 ^ 7) % 2 ^ 32) ≡ c.args.exponent *ℤ pos 128
shifted c = rw (to_z-of_z w16 c.args.exponent c.ranges.exponent) (shl_by 7 c.args.exponent (search (bounds, below_i16)) tt)

pub drop_spec : {M : Type 1} → statement M
drop_spec =
    tie.close
    (tie.spec
    (λ c. rw (to_z-of_z w16 c.args.exponent c.ranges.exponent) (search (bounds, below_i16)))
    (λ c.
    let e = c.args.exponent in
    (ap neg_ℤ (shifted c) ∙ drop_is e, below_is (shifted c) (drop_below e c.requires.0 c.requires.1))))
