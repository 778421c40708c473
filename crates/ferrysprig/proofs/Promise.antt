-- Each of the numbers is one of the answer's, so what the answer promises the numbers promise. Assumes nothing.
use mathlib.Core.Bool.{Bool, true, false, not}
use mathlib.Core.List.{List, ◌∷◌, ◌++◌, map}
use mathlib.Core.Path.{◌≡◌, refl, ap, sym, subst, ◌∙◌}
use Prim.Native.Nat.{ℕ, ◌<◌}
use native.Mathlib.Nat.{zero-add}
use native.Mathlib.Omega.{arith}
use lib.Dec.{eqb}
use lib.IntN.{ℤ, pos}
use lib.ListN.{length, get_or}
use lib.Seq.{ext_get_or}
use Rattle.tables.specs.Tables.{nfchans}
use Rattle.alloc.specs.Allocation.{from}
use Rattle.alloc.proofs.Noted.{from_at, from_length}
use Rattle.syntax.specs.Numbers.{shown}
use Rattle.syntax.specs.Run.{Row}
use Rattle.mantissas.specs.BySlot.{Unused}
use Rattle.ac3.specs.Frame.{slot_counts, summary_of}
use Rattle.ac3.specs.Promise.{Call, Promised, listed, answer_to}
use Rattle.ac3.specs.Rooms.{natural}
use Rattle.ac3.specs.SlotBits.{slots_of, block_sums, mantissa_rows}
use Rattle.ac3.specs.Unfitting.{unlimited}
use Rattle.ac3.specs.Within.{Within}
use Rattle.ac3.specs.declared.Answer.{Answer}
use Rattle.ac3.proofs.Promise.{determined}
use Rattle.ac3.proofs.SlotBits.{bits_of_slots}
use Rattle.ac3.proofs.Unfitting.{what_did_not_fit}
use Rattle.ferrysprig.specs.Numbers.{flag, in_order, summary_numbers, bits_in_order, bits_numbers, answer_numbers}
use Rattle.ferrysprig.specs.Promise.{acmod_in, lfeon_in, couples_in, bits_in, TellsRow, PromisedNumbers}

same : {m n : ℕ} → pos m ≡ pos n → m ≡ n
same e = cc

-- what did not fit is told of the definition's answer, and there is no other
next_told : (c : Call) (a : Answer) (after : List ℤ) → Promised c a after → a.refusal ≡ 6
    → (row : Row) × (later : List Row) × (unlimited c ≡ listed c ++ row ∷ later) × TellsRow (answer_numbers a) row
unfolding answer_numbers in_order
next_told c a after kept six =
    let is : a ≡ (answer_to c).0 = ap (λ x. x.0) (determined c kept) in
    let (x, n, told) = what_did_not_fit.next c (ap (λ x. x.refusal) (sym is) ∙ six) in
    (n.row, n.later, n.goes_on, record { name = ap pos (ap (λ x. x.name) is ∙ told.name ∙ n.name); block = ap shown (ap (λ x. x.block) is ∙ told.block ∙ n.block) })

-- ---- the mantissa bits

-- the entries of an array of this length are all of it
pub entries : (l : List ℕ) (n : ℕ) → length l ≡ n → from 0 n (λ i. get_or l i 0) ≡ l
entries l n long = ext_get_or 0 (from 0 n f) l (from_length f n 0 ∙ sym long) (λ i h. from_at f 0 n 0 i (rw (from_length f n 0) at h) ∙ ap f (zero-add i))
  where
    f : ℕ → ℕ
    f i = get_or l i 0

flag_back : (b : Bool) → eqb (flag b) 1 ≡ b
flag_back true = refl
flag_back false = refl

-- so many are told of every call
pub long_told : (c : Call) {x : Answer × List ℤ} → x ≡ answer_to c → length x.0.summary.tally.bits ≡ slot_counts
long_told c e = subst (λ (x : Answer × List ℤ). length x.0.summary.tally.bits ≡ slot_counts) (sym e) (bits_of_slots.long c)

module _ (c : Call) (a : Answer) (after : List ℤ) (kept : Promised c a after) where
  is : answer_to c ≡ (a, after)
  is = sym (determined c kept)

  whole : bits_in_order a.summary ≡ a.summary.tally.bits
  unfolding bits_in_order
  whole = entries a.summary.tally.bits slot_counts (long_told c (determined c kept))

  told_bits : map natural (bits_in (answer_numbers a)) ≡ a.summary.tally.bits
  unfolding answer_numbers in_order bits_numbers bits_in_order from
  told_bits = whole

  told_sums : a.refusal ≡ 0 → mantissa_rows (length (listed c)) after ≡ block_sums (map natural (bits_in (answer_numbers a)))
  told_sums zero =
      ap (λ n. mantissa_rows n after) (sym kept.counted)
      ∙ subst (λ (x : Answer × List ℤ). x.0.refusal ≡ 0 → mantissa_rows x.0.rows x.1 ≡ block_sums x.0.summary.tally.bits) is (bits_of_slots.sums c) zero
      ∙ ap block_sums (sym told_bits)

  told_unused : a.refusal ≡ 0 → (blk : ℕ) → blk < 6
      → let ns = answer_numbers a in Unused (nfchans (acmod_in ns)) (lfeon_in ns) (couples_in ns) (slots_of blk (map natural (bits_in ns)))
  unfolding answer_numbers in_order
  told_unused zero blk h =
      let s = a.summary in
      subst (λ bits. Unused (nfchans s.header.acmod) (eqb (flag s.header.lfeon) 1) (not (eqb s.tally.coupled 0)) (slots_of blk bits)) (sym told_bits)
      (subst (λ b. Unused (nfchans s.header.acmod) b (not (eqb s.tally.coupled 0)) (slots_of blk s.tally.bits)) (sym (flag_back s.header.lfeon))
      (subst (λ (x : Answer × List ℤ). let t = x.0.summary in x.0.refusal ≡ 0
      → Unused (nfchans t.header.acmod) t.header.lfeon (not (eqb t.tally.coupled 0)) (slots_of blk t.tally.bits)) is (λ ok. bits_of_slots.unused c ok blk h) zero))

-- ---- all of them

of_answer : (c : Call) (a : Answer) (after : List ℤ) → Promised c a after → Within c a after → PromisedNumbers c (answer_numbers a) after
unfolding answer_numbers in_order summary_numbers bits_numbers bits_in_order from shown
of_answer c a after kept within =
    record {
      long = refl;
      numbered = (a.refusal, refl, kept.numbered);
      sound = λ e. kept.sound (same e);
      complete = λ ok. ap pos (kept.complete ok);
      which = λ x e. ap pos (kept.which x e).refusal;
      next = λ e. next_told c a after kept (same e);
      others = λ h. let (name, block) = kept.others (λ six. h (ap pos six)) in (ap pos name, ap shown block);
      written = kept.written;
      counted = ap pos kept.counted;
      bit = ap pos kept.bit;
      tiles = λ e. rw (← kept.bit) (kept.tiles (same e));
      summary = λ ok. ap summary_numbers (kept.summary ok ∙ ap (λ n. summary_of n ok.answer) kept.counted);
      without_summary = λ h. ap summary_numbers (kept.without_summary (λ z. h (ap pos z)));
      bits = λ ok. ap bits_numbers (kept.summary ok ∙ ap (λ n. summary_of n ok.answer) kept.counted);
      no_bits = λ h. ap bits_numbers (kept.without_summary (λ z. h (ap pos z)));
      sums = λ e. told_sums c a after kept (same e);
      unused = λ e. told_unused c a after kept (same e);
      fits = omega (arith, kept.counted, within.rows);
      few = omega (arith, kept.counted, within.few);
      never_full = λ enough seven. within.never_full enough (same seven);
      room = within.long;
      end = λ bytes is e. omega (arith, kept.bit, within.end (same e), same is);
      frame = λ bytes is e. omega (arith, within.frame (same e), same is);
    }

pub promised_numbers : {c : Call} {a : Answer} {ns after : List ℤ} → Promised c a after → Within c a after → ns ≡ answer_numbers a → PromisedNumbers c ns after
promised_numbers {c} {a} {ns} {after} kept within is = subst (λ (l : List ℤ). PromisedNumbers c l after) (sym is) (of_answer c a after kept within)
