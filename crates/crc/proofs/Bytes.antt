-- The register a byte at a time is the register bit by bit, and eight shifts are a table's entry and a move by eight places.
-- Assumes nothing.
use Prim.Native.Nat.{ℕ, ◌+◌, ◌*◌, ◌/◌, ◌%◌, ◌-◌, ◌≤◌, ◌<◌}
use mathlib.Core.Path.{◌≡◌, refl, ap, ap₂, sym, ◌∙◌}
use mathlib.Core.List.{List}
use native.Mathlib.Omega.{arith}
use lib.Bits.{bit_xor, xor_lt, xor_mod, xor_shr, xor_zero_r, xor_shifted, xor_comm}
use lib.Dec.{lit<}
use lib.ListN.{get_or}
use Rattle.bits.proofs.Window.{value_byte}
use Rattle.crc.specs.Register.{run, unrun, register, times}
use Rattle.crc.specs.Bytes.{fed, unfed, ByByte}
use Rattle.crc.proofs.Xor.{xor_again}
use Rattle.crc.proofs.Shift.{shifts, unshifts, unshifts_lt, shifts_unshifts, shifts_sum, unshifts_sum, shifts_low, unshifts_even}
use Rattle.crc.proofs.Run.{run_lt, unrun_run, run_add, unrun_add, at_once}

pub by_byte : ByByte
unfolding fed unfed
by_byte s i r hb h = (forwards r h, sym (ap (λ m. unrun m s (i * 8) 8) back) ∙ unrun_run s (i * 8) 8 (bit_xor (unshifts 8 r) (get_or s i 0 * 256)) before_lt)
  where
    forwards : (q : ℕ) → q < 65536 → run q s (i * 8) 8 ≡ shifts 8 (bit_xor q (get_or s i 0 * 256))
    forwards q hq = at_once s (i * 8) 8 8 q refl hq ∙ ap (λ m. shifts 8 (bit_xor q (m * 256))) (value_byte s i hb)

    before_lt : bit_xor (unshifts 8 r) (get_or s i 0 * 256) < 65536
    before_lt = xor_lt 16 (unshifts 8 r) (get_or s i 0 * 256) (unshifts_lt 8 r h) (omega arith)

    back : run (bit_xor (unshifts 8 r) (get_or s i 0 * 256)) s (i * 8) 8 ≡ r
    back =
        forwards (bit_xor (unshifts 8 r) (get_or s i 0 * 256)) before_lt
        ∙ ap (shifts 8) (xor_again (unshifts 8 r) (get_or s i 0 * 256)) ∙ shifts_unshifts 8 r h

-- a register as the sum of its two bytes
halves : (u : ℕ) → u ≡ bit_xor (u / 256 * 256) (u % 256)
halves u = let whole : u ≡ u / 256 * 256 + u % 256 = omega arith in whole ∙ sym (xor_shifted (u / 256) 8 (u % 256) (omega arith))

-- eight shifts: the byte at the bottom moves up, and the byte at the top leaves
shifts_eight : (u : ℕ) → u < 65536 → shifts 8 u ≡ bit_xor (u % 256 * 256) (shifts 8 (u / 256 * 256))
shifts_eight u h =
    ap (shifts 8) (halves u) ∙ shifts_sum 8 (u / 256 * 256) (u % 256) (omega arith) (omega arith)
    ∙ ap (bit_xor (shifts 8 (u / 256 * 256))) (shifts_low 8 (u % 256) (omega arith)) ∙ xor_comm (shifts 8 (u / 256 * 256)) (u % 256 * 256)

unshifts_eight : (u : ℕ) → u < 65536 → unshifts 8 u ≡ bit_xor (u / 256) (unshifts 8 (u % 256))
unshifts_eight u h =
    ap (unshifts 8) (halves u) ∙ unshifts_sum 8 (u / 256 * 256) (u % 256) (omega arith) (omega arith)
    ∙ ap (λ m. bit_xor m (unshifts 8 (u % 256))) (unshifts_even 8 (u / 256))

-- what the code computes
pub fed_by_table : (r b : ℕ) → r < 65536 → b < 256 → bit_xor (r * 256 % 65536) (shifts 8 (bit_xor (r / 256) b * 256)) ≡ fed r b
unfolding fed
fed_by_table r b h hb =
    let u = bit_xor r (b * 256) in
    let bound : u < 65536 = xor_lt 16 r (b * 256) h (omega arith) in
    let none : b * 256 % 256 ≡ 0 = omega arith in
    let all : b * 256 / 256 ≡ b = omega arith in
    let low : u % 256 ≡ r % 256 = xor_mod r (b * 256) 8 ∙ ap (bit_xor (r % 256)) none ∙ xor_zero_r (r % 256) in
    let high : u / 256 ≡ bit_xor (r / 256) b = xor_shr r (b * 256) 8 ∙ ap (bit_xor (r / 256)) all in
    let moved : r * 256 % 65536 ≡ r % 256 * 256 = omega arith in
    sym (shifts_eight u bound ∙ ap₂ (λ l t. bit_xor (l * 256) (shifts 8 (t * 256))) low high ∙ ap (λ m. bit_xor m (shifts 8 (bit_xor (r / 256) b * 256))) (sym moved))

pub unfed_by_table : (r b : ℕ) → r < 65536 → b < 256 → bit_xor (bit_xor (r / 256) (unshifts 8 (r % 256))) (b * 256 % 65536) ≡ unfed r b
unfolding unfed
unfed_by_table r b h hb =
    let moved : b * 256 % 65536 ≡ b * 256 = omega arith in
    ap₂ bit_xor (sym (unshifts_eight r h)) moved

-- ---- what a turn of the code's loops adds

pub register_more : (s : List ℕ) (from i : ℕ) → from ≤ i → get_or s i 0 < 256
    → fed (register s (from * 8) ((i - from) * 8)) (get_or s i 0) ≡ register s (from * 8) ((i + 1 - from) * 8)
register_more s from i h hb =
    let so_far = (i - from) * 8 in
    let longer : (i - from) * 8 + 8 ≡ (i + 1 - from) * 8 = omega arith in
    let place : from * 8 + (i - from) * 8 ≡ i * 8 = omega arith in
    sym (by_byte s i (register s (from * 8) so_far) hb (run_lt s (from * 8) so_far 0 (lit< tt))).0
    ∙ ap (λ at. run (register s (from * 8) so_far) s at 8) (sym place)
    ∙ sym (run_add s (from * 8) so_far 8 0) ∙ ap (register s (from * 8)) longer

pub unrun_less : (s : List ℕ) (from i r : ℕ) → from < i → get_or s (i - 1) 0 < 256 → r < 65536
    → unrun (unfed r (get_or s (i - 1) 0)) s (from * 8) ((i - 1 - from) * 8) ≡ unrun r s (from * 8) ((i - from) * 8)
unrun_less s from i r h hb hr =
    let left = (i - 1 - from) * 8 in
    let longer : (i - 1 - from) * 8 + 8 ≡ (i - from) * 8 = omega arith in
    let place : from * 8 + (i - 1 - from) * 8 ≡ (i - 1) * 8 = omega arith in
    ap (λ q. unrun q s (from * 8) left) (sym (by_byte s (i - 1) r hb hr).1 ∙ ap (λ at. unrun r s at 8) (sym place))
    ∙ sym (unrun_add s (from * 8) left 8 r) ∙ ap (unrun r s (from * 8)) longer

-- two bytes of zeros backwards are sixteen shifts
pub unfed_word : (r : ℕ) → unfed (unfed r 0) 0 ≡ unshifts 16 r
unfolding unfed times
unfed_word r = xor_zero_r (unshifts 8 (bit_xor (unshifts 8 r) 0)) ∙ ap (unshifts 8) (xor_zero_r (unshifts 8 r))
