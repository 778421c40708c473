-- Mantissas counted, and the bits that follow from the counts: a mantissa takes as many as the total grows by. No part of the definition: contracts
-- cite it, and `proofs/Counting.antt` proves that these bits are the widths of 6.3.5.
use Rattle.std.specs.Prelude.{cond, List, [], ◌∷◌, ℕ, ◌+◌, ◌*◌, ◌/◌, ◌%◌, ◌≤◌, eqb}
use Rattle.tables.specs.Tables.{bap_bits}
use Rattle.mantissas.specs.Mantissas.{Open}
use Rattle.mantissas.specs.declared.Counts.{Counts}

abbrev pub no_counts : Counts
no_counts = record { bits = 0; ones = 0; twos = 0; fours = 0 }

abbrev pub is_pointer : (which bap : ℕ) → ℕ
is_pointer which bap = cond (eqb bap which) 1 0

-- one mantissa more
abbrev pub counted : Counts → ℕ → Counts
counted n bap =
    record {
      bits = n.bits + bap_bits bap;
      ones = n.ones + is_pointer 1 bap;
      twos = n.twos + is_pointer 2 bap;
      fours = n.fours + is_pointer 4 bap;
    }

unfoldable pub counted_all : Counts → List ℕ → Counts
counted_all n [] = n
counted_all n (bap ∷ baps) = counted_all (counted n bap) baps

abbrev pub plus : Counts → Counts → Counts
plus a b = record { bits = a.bits + b.bits; ones = a.ones + b.ones; twos = a.twos + b.twos; fours = a.fours + b.fours }

-- the bits that they take: those of a group count once it is begun
unfoldable pub width_of : Counts → ℕ
width_of n = n.bits + 5 * ((n.ones + 2) / 3) + 7 * ((n.twos + 2) / 3) + 7 * ((n.fours + 1) / 2)

-- the groups that they leave open
abbrev pub open_after : Counts → Open
open_after n = record { ones = n.ones % 3; twos = n.twos % 3; fours = n.fours % 2 }

-- at most so many were counted
pub record AtMost (n : ℕ) (k : Counts) : Type 0 where
  pub bits : k.bits ≤ 16 * n
  pub ones : k.ones ≤ n
  pub twos : k.twos ≤ n
  pub fours : k.fours ≤ n

-- the counts in one number, 16 bits for each
abbrev pub packed : Counts → ℕ
packed n = n.bits + 65536 * n.ones + 4294967296 * n.twos + 281474976710656 * n.fours

unfoldable pub weight : List ℕ → ℕ
weight [] = 0
weight (bap ∷ baps) = packed (counted no_counts bap) + weight baps
