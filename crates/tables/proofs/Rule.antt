-- The rules of the standard's tables, each by one test computed over the whole table. Assumes nothing.
use mathlib.Core.Path.{◌≡◌, refl}
use Prim.Native.Nat.{ℕ, ◌≤◌, ◌<◌, suc-le-suc}
use lib.Dec.{T}
use lib.ListN.{length, get_or}
use Rattle.tables.specs.Tables.{log_add, hearing, bap, hebap, gain_bits, gaq_bits}
use Rattle.tables.proofs.Rules.{small_at, large_at, falls, falls_le}

-- Table 6.14 has 256 entries, starts at 64, ends at 0, and each entry equals the one before or is one less
pub log_add_rule : (length log_add ≡ 256) × (get_or log_add 0 0 ≡ 64) × (get_or log_add 255 0 ≡ 0) × T (falls 64 log_add)
unfolding log_add
log_add_rule = (refl, refl, refl, tt)

-- so no entry is above 64
pub log_add_at_most : (at : ℕ) → get_or log_add at 0 ≤ 64
log_add_at_most at = falls_le 64 log_add log_add_rule.3 at

pub hearing_at_most : (at : ℕ) → get_or hearing at 0 ≤ 2112
unfolding hearing
hearing_at_most at = small_at 2112 hearing tt at

pub bap_below : (address : ℕ) → get_or bap address 0 < 16
unfolding bap
bap_below address = suc-le-suc (small_at 15 bap tt address)

-- so an AHT section that goes by an allocation is never refused with 26
pub hebap_at_most : (address : ℕ) → get_or hebap address 0 ≤ 19
unfolding hebap
hebap_at_most address = small_at 19 hebap tt address

-- a mantissa of an AHT section has at least 3 bits, so that a small one under gain 4 has at least one
pub gaq_at_least : (index : ℕ) → index < 12 → 3 ≤ gaq_bits index
unfolding gaq_bits
gaq_at_least index h = large_at 3 gain_bits tt index h
