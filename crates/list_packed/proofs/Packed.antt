-- A packed listing has at most ten bytes for each number, so it fits where a longest text does; and what is packed is a listing's text, so
-- that the packing is its packed form. Assumes nothing.
use mathlib.Core.Bool.{Bool, true, false}
use mathlib.Core.List.{List, [], ◌∷◌, ◌++◌}
use mathlib.Core.Path.{◌≡◌, ap, ◌∙◌}
use Prim.Native.Nat.{ℕ, ◌+◌, ◌*◌, ◌≤◌}
use native.Mathlib.Omega.{arith}
use borrow.Author.Tests.{le-leb}
use lib.ListN.{length, take, drop, length-append}
use lib.Seq.{take-append_seam}
use Rattle.ac3.specs.Promise.{answer_to}
use Rattle.listing.specs.Number.{groups}
use Rattle.listing.specs.Listing.{Listing, Valid, Each, Line, last_count, joined, grouped, kind, text, packed}
use Rattle.std.proofs.Common.{Result, Ok}
use Rattle.packed.specs.declared.Refusal.{Refusal}
use Rattle.packed.specs.Answers.{answer}
use Rattle.packed.specs.Converted.{packing}
use Rattle.packed.proofs.Answers.{answer_ok}
use Rattle.packed.proofs.Groups.{groups_few}
use Rattle.packed.proofs.TextRead.{text_read}
use Rattle.lister.specs.Listed.{listing, rows_lent, frame_call}
use Rattle.lister.specs.Written.{most_text, Printed}
use Rattle.lister.proofs.Lines.{length_rows}
use Rattle.lister.proofs.Written.{few}

grouped_few : (vs : List ℕ) → length (grouped vs) ≤ length vs * 10
grouped_few [] = omega arith
grouped_few (v ∷ vs) = omega (arith, length-append (groups v) (grouped vs), groups_few v, grouped_few vs)

rows_few : (rows : List (List ℕ)) → Each (Line 9) rows → length (joined grouped rows) ≤ length rows * 90
rows_few [] lines = omega arith
rows_few (r ∷ rs) lines = omega (arith, length-append (grouped r) (joined grouped rs), grouped_few r, lines.0.0, rows_few rs lines.1)

packed_few : (l : Listing) → Valid l → length (packed l) ≤ length l.rows * 90 + 70
packed_few l valid =
    omega (
      arith,
      length-append (groups (length l.rows + 1)) (joined grouped l.rows ++ (groups (kind l.refused) ++ grouped l.last)),
      length-append (joined grouped l.rows) (groups (kind l.refused) ++ grouped l.last),
      length-append (groups (kind l.refused)) (grouped l.last),
      groups_few (length l.rows + 1),
      groups_few (kind l.refused),
      rows_few l.rows valid.rows,
      grouped_few l.last,
      valid.last.0,
      five l.refused,
    )
  where
    five : (b : Bool) → last_count b ≤ 5
    five true = omega arith
    five false = omega arith

-- the packing of a listing's text into room enough
packing_is : (l : Listing) (out : List ℕ) → Valid l → length (packed l) ≤ length out → packing (text l) out ≡ (record { refusal = 0; written = length (packed l) }, packed l ++ drop (length (packed l)) out)
packing_is l out valid h = let read = text_read l valid in simp (read.0, read.1, le-leb (length (packed l)) (length out) h)

pub packed_printed :
    (frame out : List ℕ) {size : ℕ} {written : List ℕ} {r : Result ℕ Refusal} {left : List ℕ}
    → most_text rows_lent ≤ length out
    → Printed frame size written
    → (answer r, left) ≡ packing (take size written) out
    → (n : ℕ) × (r ≡ Ok n) × (take n left ≡ packed (listing (frame_call frame))) × (n ≤ length left)
packed_printed frame out {size} {written} {r} {left} h printed e =
    let l = listing (frame_call frame) in
    let fits : length (packed l) ≤ length out = omega (arith, packed_few l printed.valid, length_rows (answer_to (frame_call frame)).0.rows (answer_to (frame_call frame)).1, few frame) in
    let all = e ∙ ap (λ t. packing t out) printed.bytes ∙ packing_is l out printed.valid fits in
    let bytes : left ≡ packed l ++ drop (length (packed l)) out = ap (λ x. x.1) all in (
      length (packed l),
      answer_ok r (ap (λ x. x.0) all),
      rw bytes (take-append_seam (packed l) (drop (length (packed l)) out)),
      omega (arith, ap length bytes, length-append (packed l) (drop (length (packed l)) out)),
    )
