-- The calls that are answered, and their answer. Assumes nothing.
use Rattle.std.specs.Prelude.{Bool, true, ◌||◌, ◌&&◌, cond, List, [], ◌∷◌, ℕ, leb, eqb, ℤ, pos, replicate}
use Rattle.std.proofs.lemmas.List.Edits.{sets}
use Rattle.std.specs.Int.Signed.{le_z}
use Rattle.tables.specs.Tables.{slow_decay, fast_decay, slow_gain, fast_gain, knee, floor, bap, hebap}
use Rattle.alloc.specs.Allocation.{snr_offset, allocation_by}
use Rattle.alloc.specs.declared.Parameters.{Parameters}

-- a slot starts at bin 0, and the coupling channel at bin 37 or later
abbrev pub start_fits : ℕ → Bool
start_fits start = eqb start 0 || leb 37 start

abbrev pub range_fits : (start end : ℕ) → Bool
range_fits start end = start_fits start && leb end 253

abbrev pub codes_fit : (fscod csnroffst fsnroffst count which : ℕ) → Bool
codes_fit fscod csnroffst fsnroffst count which = leb fscod 2 && (leb csnroffst 63 && (leb fsnroffst 15 && (leb count 8 && leb which 1)))

abbrev pub is_exponent : ℤ → Bool
is_exponent e = le_z (pos 0) e && le_z e (pos 24)

-- all of them, those outside the range too
unfoldable pub exponents_fit : List ℤ → Bool
exponents_fit [] = true
exponents_fit (e ∷ es) = is_exponent e && exponents_fit es

abbrev pub accepted : List ℤ → (start end fscod csnroffst fsnroffst count which : ℕ) → Bool
accepted exponents start end fscod csnroffst fsnroffst count which =
    (range_fits start end && (codes_fit fscod csnroffst fsnroffst count which && exponents_fit exponents))

-- 6.2.2.1: the codes looked up
abbrev pub parameters_of : (start end sdcycod fdcycod sgaincod dbpbcod floorcod fgaincod fscod csnroffst fsnroffst fastleak slowleak : ℕ) → List ℕ → (count : ℕ) → Parameters
parameters_of start end sdcycod fdcycod sgaincod dbpbcod floorcod fgaincod fscod csnroffst fsnroffst fastleak slowleak segments count =
    record {
      start = start;
      end = end;
      gains = record { fdecay = fast_decay fdcycod; sdecay = slow_decay sdcycod; fgain = fast_gain fgaincod; sgain = slow_gain sgaincod };
      fastleak = pos fastleak;
      slowleak = pos slowleak;
      dbknee = knee dbpbcod;
      fscod = fscod;
      segments = segments;
      count = count;
      snroffset = snr_offset csnroffst fsnroffst;
      floor = floor floorcod;
    }

-- the table that a call chooses: 0 has Table 6.16, 1 that of E.2.4.3.1
abbrev pub table_of : (which : ℕ) → List ℕ
table_of which = cond (eqb which 0) bap hebap

-- the pointers of the range by that table, and 0 for every other bin
unfoldable pub answer : (which : ℕ) → List ℤ → Parameters → List ℕ
answer which exponents p = sets (replicate 256 0) p.start (allocation_by (table_of which) exponents p)
