-- What `set` answers, check by check; and that a value written into the part of a capture from a place on is written into the capture.
-- Assumes nothing.
use mathlib.Core.List.{List, ◌++◌, append-nil}
use mathlib.Core.Path.{◌≡◌, ap, ◌∙◌}
use Prim.Native.Nat.{ℕ, ◌+◌, ◌-◌, ◌*◌, ◌^◌, ◌≤◌, ◌<◌, min}
use native.Mathlib.Omega.{arith}
use borrow.Author.Tests.{eq-eqb, ne_eqb, le-leb, lt-leb, lt-ltb, le-ltb}
use borrow.Rule.Slice.PartMut.{put_mid}
use lib.ListN.{length, take, drop, length-drop, drop_of_length-le}
use lib.Seq.{take_all}
use Rattle.bits.specs.Put.{put}
use Rattle.bits.proofs.Writing.{put_part}
use Rattle.edits.specs.Edits.{set}

module _ (capture : List ℕ) (place position width value : ℕ) where
  pub no_bits : width ≡ 0 → (57, capture) ≡ set capture place position width value
  unfolding set
  no_bits e = rw (eq-eqb width 0 e)

  pub too_many_bits : 16 < width → (57, capture) ≡ set capture place position width value
  unfolding set
  too_many_bits h = rw (ne_eqb width 0 (λ e. omega arith), lt-ltb 16 width h)

  module _ (some : ¬ (width ≡ 0)) (few : width ≤ 16) where
    pub past_the_end : length capture * 8 < place * 8 + position + width → (58, capture) ≡ set capture place position width value
    unfolding set
    past_the_end h = rw (ne_eqb width 0 some, le-ltb 16 width few, lt-ltb (length capture * 8) (place * 8 + position + width) h)

    module _ (inside : place * 8 + position + width ≤ length capture * 8) where
      pub too_great : 2 ^ width ≤ value → (59, capture) ≡ set capture place position width value
      unfolding set
      too_great h =
          rw (ne_eqb width 0 some, le-ltb 16 width few, le-ltb (length capture * 8) (place * 8 + position + width) inside, le-leb (2 ^ width) value h)

      pub is_set : value < 2 ^ width → (0, put capture (place * 8 + position) width value) ≡ set capture place position width value
      unfolding set
      is_set h =
          rw (ne_eqb width 0 some, le-ltb 16 width few, le-ltb (length capture * 8) (place * 8 + position + width) inside, lt-leb (2 ^ width) value h)

-- what a lent part comes back as: everything from the place on was lent
pub part_back : (capture : List ℕ) (place position width value : ℕ) {part : List ℕ} → width ≤ 16
    → part ≡ put (take (length capture - place) (drop place capture)) position (min width 16) value
    → put_mid place (length capture - place) capture part ≡ put capture (place * 8 + position) width value
part_back capture place position width value {part} few e =
    let short : length (drop place capture) ≤ length capture - place = omega (arith, length-drop place capture) in
    let all : min width 16 ≡ width = omega arith in
    ap (λ r. take place capture ++ (part ++ r)) (drop_of_length-le (drop place capture) short)
    ∙ ap (λ r. take place capture ++ r)
    (append-nil part ∙ e ∙ ap (λ l. put l position (min width 16) value) (take_all _ _ short) ∙ ap (λ n. put (drop place capture) position n value) all)
    ∙ put_part capture place position width value
