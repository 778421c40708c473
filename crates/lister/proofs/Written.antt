-- What is written of a call's listing, from what was written of its answer's. Assumes nothing.
use mathlib.Core.List.{List}
use mathlib.Core.Path.{◌≡◌, refl, sym, ap, ◌∙◌}
use Prim.Native.Nat.{ℕ, ◌≤◌}
use native.Mathlib.Omega.{arith}
use borrow.Author.Tests.{le-ltb}
use lib.IntN.{ℤ, pos}
use lib.ListN.{length, take, drop, length-append, length-replicate}
use lib.Seq.{sets, take_at}
use Rattle.ac3.specs.declared.Answer.{Answer}
use Rattle.ac3.specs.Promise.{Call, answer_to}
use Rattle.ac3.proofs.Promise.{promised}
use Rattle.ac3.proofs.Within.{kept_within}
use Rattle.listing.specs.Listing.{Valid, text}
use Rattle.writer.proofs.Written.{in_front_lem}
use Rattle.lister.specs.Listed.{listing_of, listing, rows_lent, numbers_lent, frame_call}
use Rattle.lister.specs.Written.{most_text, room_needed, written, Written, Printed}

-- all is written where a longest listing fits
whole : (c : Call) (out : List ℕ) → room_needed c ≤ length out → written c out ≡ text (listing c)
whole c out h = simp (le-ltb (length out) (room_needed c) h)

module _ (c : Call) {a : Answer} {after : List ℤ} (out : List ℕ) (e : (a, after) ≡ answer_to c) where
  rows : a.rows ≡ (answer_to c).0.rows
  rows = ap (λ x. x.0.rows) e

  pub all_written :
      {size : ℕ} {left : List ℕ}
      → most_text a.rows ≤ length out
      → (size ≡ length (text (listing_of a after))) × (left ≡ sets out 0 (text (listing_of a after)))
      → Valid (listing_of a after) × (size ≤ most_text a.rows)
      → Written c out size left
  all_written {size} {left} h done fits =
      let same : listing_of a after ≡ listing c = ap (λ x. listing_of x.0 x.1) e in
      let room : room_needed c ≤ length out = omega (arith, rows) in
      let counted : size ≡ length (text (listing c)) = done.0 ∙ ap (λ l. length (text l)) same in
      record {
        counted = counted ∙ ap length (sym (whole c out room));
        bytes = done.1 ∙ ap (λ l. sets out 0 (text l)) same ∙ in_front_lem (text (listing c)) out (omega (arith, counted, fits.1)) ∙ rw (whole c out room, counted);
        within = omega (arith, fits.1);
        valid = λ _. rw same at fits.0;
      }

-- with the programs' room no call has more rows than these
pub few : (frame : List ℕ) → (answer_to (frame_call frame)).0.rows ≤ rows_lent
few frame = omega (arith, (kept_within c _ _ (promised c refl)).rows, long)
  where
    c : Call
    c = frame_call frame

    long : length c.room ≡ numbers_lent
    long = length-replicate numbers_lent (pos 0)

pub printed :
    (frame out : List ℕ) {size : ℕ} {left : List ℕ}
    → most_text rows_lent ≤ length out
    → Written (frame_call frame) out size left
    → Printed frame size left
printed frame out {size} {left} h all =
    let enough : room_needed (frame_call frame) ≤ length out = omega (arith, few frame) in
    record {
      bytes = ap (take size) all.bytes ∙ take_at (written (frame_call frame) out) (drop size out) size (sym all.counted) ∙ whole (frame_call frame) out enough;
      valid = all.valid enough;
      within = omega (arith, all.counted, ap length all.bytes, length-append (written (frame_call frame) out) (drop size out));
    }
