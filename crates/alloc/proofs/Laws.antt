-- What is used of the allocation without a look at its text: of that by any table, and of AC-3's. Assumes nothing.
use mathlib.Core.List.{List, []}
use mathlib.Core.Path.{◌≡◌, ap, sym, ◌∙◌}
use Prim.Native.Nat.{ℕ, ◌-◌, ◌≤◌, ◌<◌, zero-le}
use native.Mathlib.Decide.{dec_le}
use native.Mathlib.Omega.{arith}
use lib.Dec.{lit<}
use lib.IntN.{ℤ}
use lib.ListN.{length, get_or}
use lib.Seq.{sets}
use Rattle.tables.specs.Tables.{bap, hebap}
use Rattle.tables.proofs.Rule.{bap_below, hebap_at_most}
use Rattle.alloc.specs.Allocation.{from, mapped_psd, integrated_psd, excitation, masking_curve, delta_sum, delta_applied, thresholds, bap_of, pointers, allocation_by, allocation}
use Rattle.alloc.specs.declared.Parameters.{Parameters}
use Rattle.alloc.proofs.Noted.{from_none, from_all, from_length}
use Rattle.alloc.proofs.Written.{sets_all, sets_back}

-- a pointer to a bin
pub allocation_length : (baps : List ℕ) (exponents : List ℤ) (p : Parameters) → length (allocation_by baps exponents p) ≡ p.end - p.start
unfolding allocation_by pointers
allocation_length baps exponents p = from_length _ (p.end - p.start) p.start

pub allocation_none : (baps : List ℕ) (exponents : List ℤ) (p : Parameters) → p.end ≤ p.start → allocation_by baps exponents p ≡ []
unfolding allocation_by pointers from
allocation_none baps exponents p h = let none : p.end - p.start ≡ 0 = omega arith in rw none

-- what holds of 0 and of every entry of the table holds of every pointer
allocation_all : (P : ℕ → Type 0) (baps : List ℕ) → P 0 → ((address : ℕ) → P (get_or baps address 0))
    → (exponents : List ℤ) (p : Parameters) (k : ℕ) → P (get_or (allocation_by baps exponents p) k 0)
unfolding allocation_by pointers bap_of
allocation_all P baps none each exponents p k = from_all P _ 0 none (λ bin. each _) (p.end - p.start) p.start k

-- so AC-3's are of Table 6.17, and those of the adaptive hybrid transform of Table E.2.2
pub allocation_below : (exponents : List ℤ) (p : Parameters) (k : ℕ) → get_or (allocation exponents p) k 0 < 16
allocation_below = allocation_all (λ n. n < 16) bap (lit< tt) bap_below

pub hybrid_at_most : (exponents : List ℤ) (p : Parameters) (k : ℕ) → get_or (allocation_by hebap exponents p) k 0 ≤ 19
hybrid_at_most = allocation_all (λ n. n ≤ 19) hebap zero-le hebap_at_most

-- in an array that they were written into, all entries are below 16 if they were
pub pointers_below : (l : List ℕ) (exponents : List ℤ) (p : Parameters) → ((k : ℕ) → get_or l k 0 < 16)
    → (k : ℕ) → get_or (sets l p.start (allocation exponents p)) k 0 < 16
pointers_below l exponents p all k = sets_all (λ n. n < 16) 0 (allocation exponents p) l p.start all (allocation_below exponents p) k

-- and from start up to end they are read back
pub pointers_back : (l baps : List ℕ) (exponents : List ℤ) (p : Parameters) → p.end ≤ length l
    → from p.start (p.end - p.start) (λ bin. get_or (sets l p.start (allocation_by baps exponents p)) bin 0) ≡ allocation_by baps exponents p
pointers_back l baps exponents p h = by (dec_le p.start p.end)
  where
    by : Dec (p.start ≤ p.end) → from p.start (p.end - p.start) (λ bin. get_or (sets l p.start (allocation_by baps exponents p)) bin 0) ≡ allocation_by baps exponents p
    by (yes some) =
        let long = allocation_length baps exponents p in
        sym (ap (λ (n : ℕ). from p.start n (λ bin. get_or (sets l p.start (allocation_by baps exponents p)) bin 0)) long)
        ∙ sets_back 0 (allocation_by baps exponents p) l p.start (omega arith)
    by (no none) =
        let e : p.end - p.start ≡ 0 = omega arith in
        ap (λ (n : ℕ). from p.start n (λ bin. get_or (sets l p.start (allocation_by baps exponents p)) bin 0)) e
        ∙ from_none p.start _ ∙ sym (allocation_none baps exponents p (omega arith))

-- where no segment counts, it is of no account what stands in them
abbrev pub unsegmented : Parameters → Parameters
unsegmented p =
    record {
      start = p.start;
      end = p.end;
      gains = p.gains;
      fastleak = p.fastleak;
      slowleak = p.slowleak;
      dbknee = p.dbknee;
      fscod = p.fscod;
      segments = [];
      count = 0;
      snroffset = p.snroffset;
      floor = p.floor;
    }

pub allocation_unsegmented : (baps : List ℕ) (exponents : List ℤ) (p : Parameters) → p.count ≡ 0 → allocation_by baps exponents p ≡ allocation_by baps exponents (unsegmented p)
unfolding allocation_by mapped_psd integrated_psd excitation masking_curve delta_applied delta_sum thresholds pointers
allocation_unsegmented baps exponents p e = rw e
