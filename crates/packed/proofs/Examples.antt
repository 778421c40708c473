-- The worked examples hold by computation. Assumes nothing.
use mathlib.Core.Path.{refl}
use Rattle.listing.specs.Number.{groups, groups_in, decimal, decimal_in, signed}
use Rattle.packed.specs.Examples.{Examples}

pub examples : Examples
unfolding groups groups_in decimal decimal_in signed
examples =
    record {
      packs = (refl, refl);
      unpacks = (refl, refl);
      audio = refl;
      malformed_word = refl;
      malformed_zero = refl;
      malformed_minus = refl;
      malformed_plus = refl;
      malformed_eighth = refl;
      malformed_tenth = refl;
      malformed_spaces = refl;
      malformed_minus_zero = refl;
      too_large = refl;
      largest = refl;
      nothing_yet = refl;
      begun = refl;
      more = refl;
      count_minus_one = refl;
      third_kind = refl;
      count_needless = refl;
      number_too_large = refl;
      largest_number = refl;
      packed_nothing = refl;
      packed_begun = refl;
      packed_more = refl;
    }
