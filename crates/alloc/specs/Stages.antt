-- The stages of the allocation under names of their own. No part of the definition: contracts cite it. Assumes nothing.
use Rattle.std.specs.Prelude.{List, ℕ, ◌+◌, ◌*◌, ℤ, pos, negsuc, ◌+ℤ◌, ◌-ℤ◌, get_or, ◌≤ℤ◌}
use Rattle.signed.specs.Bound.{Below}
use Rattle.signed.specs.Level.{max_z}
use Rattle.tables.specs.Tables.{hearing}
use Rattle.alloc.specs.Allocation.{at, psd_of, psd_at, band_of, address_of, over_knee, threshold, mapped_psd, integrated_psd, excitation, masking_curve, delta_applied, thresholds}
use Rattle.alloc.specs.declared.Parameters.{Parameters}

-- what 6.2.2.2 to 6.2.2.7 leave in the mask
abbrev pub bands_of : List ℤ → Parameters → ℕ → ℤ
bands_of exponents p = integrated_psd p (mapped_psd p exponents)

abbrev pub masks_of : List ℤ → Parameters → ℕ → ℤ
masks_of exponents p = masking_curve p (bands_of exponents p) (excitation p (bands_of exponents p))

abbrev pub thresholds_of : List ℤ → Parameters → ℕ → ℤ
thresholds_of exponents p = thresholds p (delta_applied p (masks_of exponents p))

-- a threshold is not far below 0, whatever the input, so that an address fits a byte before it is clamped
pub record Limit (z : ℤ) : Type 0 where
  pub below : Below 14 z
  pub above : negsuc 2047 ≤ℤ z

-- the address of a bin, and the pointer at a bin's address
abbrev pub address_at : List ℤ → Parameters → ℕ → ℕ
address_at exponents p bin = address_of (psd_at exponents bin) (thresholds_of exponents p (band_of bin))

abbrev pub bap_at : (baps addresses : List ℕ) → ℕ → ℕ
bap_at baps addresses bin = get_or baps (get_or addresses bin 0) 0

-- a bin's psd less that of exponent 0: sums of these are the sums of psd less 3072 (`proofs/Sum`), and take fewer instructions
unfoldable pub relative : ℤ → ℤ
relative exponent = psd_of exponent -ℤ pos 3072

abbrev pub relative_at : List ℤ → ℕ → ℤ
relative_at exponents bin = relative (at exponents bin)

-- the threshold of a band
unfoldable pub threshold_at : (excite here : ℤ) (knee quiet : ℕ) (delta snr floor : ℤ) → ℤ
threshold_at excite here knee quiet delta snr floor = threshold (max_z (over_knee excite here knee) (pos quiet) +ℤ delta) snr floor

abbrev pub threshold_by : (excite here delta : ℕ → ℤ) (knee fscod : ℕ) (snr floor : ℤ) → ℕ → ℤ
threshold_by excite here delta knee fscod snr floor band = threshold_at (excite band) (here band) knee (get_or hearing (50 * fscod + band) 0) (delta band) snr floor
