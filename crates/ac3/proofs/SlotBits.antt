-- Only the walk over a block's mantissas writes a row of that name, as wide as its slots' bits sum to; and a later block leaves the counts of the
-- earlier ones as they are. Assumes nothing.
use mathlib.Core.Bool.{Bool, true, false, not, cond}
use mathlib.Core.List.{List, [], ◌∷◌, ◌++◌, append_assoc, append-nil}
use mathlib.Core.Path.{◌≡◌, refl, ap, ap₂, sym, subst, ◌∙◌}
use Prim.Native.Nat.{ℕ, zero, suc, ◌+◌, ◌*◌, ◌≤◌, ◌<◌}
use native.Mathlib.Numerals.{add-one}
use native.Mathlib.Omega.{arith}
use lib.Dec.{T, eqb}
use lib.IntN.{ℤ}
use lib.ListN.{length, take, drop, replicate, length-drop, take-append-drop}
use lib.Seq.{sets, sets-eq, length-sets, length-take-le, take_at, drop_at, take-append-le, drop-append-le}
use borrow.Author.Tests.{eqb-true, eqb-false}
use Rattle.tables.specs.Tables.{nfchans}
use Rattle.alloc.specs.Allocation.{from}
use Rattle.alloc.proofs.Noted.{from_length}
use Rattle.syntax.specs.Grammar.{Grammar, done, ◌>>=◌, turns}
use Rattle.syntax.specs.Names as Name
use Rattle.syntax.specs.Numbers.{shown}
use Rattle.syntax.specs.Place.{flatten}
use Rattle.syntax.specs.Run.{steering, unsteering, Row, Spot, End, reached, refused, Result, Check, clear, stop, sum, unless, run, continue}
use Rattle.syntax.proofs.Bind.{run_bind}
use Rattle.header.specs.declared.Header.{Header}
use Rattle.slots.specs.declared.AllocState.{AllocState}
use Rattle.slots.specs.declared.Coupling.{Coupling}
use Rattle.mantissas.specs.BySlot.{slot_bits, Unused}
use Rattle.mantissas.specs.Mantissas.{by_slot, mantissas}
use Rattle.mantissas.proofs.BySlot.{bits_by_slot}
use Rattle.ac3.specs.AudioBlock.{Carry, audio_block}
use Rattle.ac3.specs.Frame.{Audio, audio, syncframe, unread, slot_counts, summary_of}
use Rattle.ac3.specs.Marked.{kind_fits, Marked, m_done, m_refuse, m_field, m_free, m_span, m_walk, m_frame, m_here}
use Rattle.ac3.specs.Promise.{Call, input, listed, answer_to, Accepted}
use Rattle.ac3.specs.Rooms.{natural, row_count}
use Rattle.ac3.specs.SlotBits.{slots_of, block_sums, mantissa_rows, SlotBits}
use Rattle.ac3.proofs.Marked.{marked_header, marked_settings, marked_coupling, marked_exponented, marked_alloc, marked_skip}
use Rattle.ac3.proofs.Parts.{shown_part}
use Rattle.ac3.proofs.Promise.{promised, reaches}
use Rattle.ac3.proofs.RowBound.{five_or_fewer}

-- ---- the rows of the name mantissas

unfoldable walked_rows : List Row → List (ℕ × ℕ)
walked_rows [] = []
walked_rows (r ∷ rs) = cond (eqb r.item.name Name.mantissas) ((natural (shown r.item.block), r.width) ∷ walked_rows rs) (walked_rows rs)

walked_append : (xs ys : List Row) → walked_rows (xs ++ ys) ≡ walked_rows xs ++ walked_rows ys
unfolding walked_rows
walked_append [] ys = refl
walked_append (r ∷ xs) ys = go (eqb r.item.name Name.mantissas) (walked_append xs ys)
  where
    here : ℕ × ℕ
    here = (natural (shown r.item.block), r.width)

    go : (b : Bool) → walked_rows (xs ++ ys) ≡ walked_rows xs ++ walked_rows ys
        → cond b (here ∷ walked_rows (xs ++ ys)) (walked_rows (xs ++ ys)) ≡ cond b (here ∷ walked_rows xs) (walked_rows xs) ++ walked_rows ys
    go true later = ap (λ l. here ∷ l) later
    go false later = later

-- a room says of them what they say
walked_held : (tail : List ℤ) (rows : List Row) → mantissa_rows (length rows) (flatten rows ++ tail) ≡ walked_rows rows
unfolding flatten mantissa_rows walked_rows
walked_held tail [] = refl
walked_held tail (r ∷ rs) = rw (walked_held tail rs)

-- ---- where nothing is walked there are none

not_walked : (P : ℕ → Bool) (name : ℕ) → P Name.mantissas ≡ false → T (P name) → eqb name Name.mantissas ≡ false
not_walked P name never t = go (eqb name Name.mantissas) refl
  where
    go : (b : Bool) → eqb name Name.mantissas ≡ b → b ≡ false
    go true e = absurd (subst T (ap P (eqb-true name Name.mantissas e) ∙ never) t)
    go false e = refl

module _ {A : Type 0} where
  none_unless : (c : Check) (p : Spot) (r : Result A) → walked_rows r.rows ≡ [] → walked_rows (unless c p (λ _. r)).rows ≡ []
  unfolding unless walked_rows
  none_unless clear p r h = h
  none_unless (stop x bit) p r h = refl

  none_walked : {g : Grammar A} → Marked false g → (s : List ℕ) (p : Spot) → walked_rows (run g s p).rows ≡ []
  unfolding run walked_rows
  none_walked m_done s p = refl
  none_walked (m_refuse t j) s p = refl
  none_walked (m_field {i = i} t r k) s p = none_unless _ p _ (rw (not_walked (kind_fits steering) i.name refl t) (none_walked (k _) s _))
  none_walked (m_free {i = i} t r n k) s p = none_unless _ p _ (rw (not_walked (kind_fits unsteering) i.name refl t) (none_walked k s _))
  none_walked (m_span {i = i} t n r k) s p = none_unless _ p _ (rw (not_walked (λ m. not (eqb m Name.mantissas)) i.name refl n) (none_walked k s _))
  none_walked (m_walk w t r k) s p = absurd w
  none_walked (m_frame t j k) s p = none_unless _ p _ (none_walked k s _)
  none_walked (m_here k) s p = none_walked (k _) s p

-- ---- what holds of an accepted run's answer and of these rows

record Walks {A : Type 0} (Q : A → List (ℕ × ℕ) → Type 0) (g : Grammar A) : Type 0 where
  pub there : (s : List ℕ) (p : Spot) (a : A) → (run g s p).end ≡ reached a → Q a (walked_rows (run g s p).rows)

walks_done : {A : Type 0} {Q : A → List (ℕ × ℕ) → Type 0} {a : A} → Q a [] → Walks Q (done a)
unfolding run walked_rows
walks_done {Q = Q} {a = a} h = record { there = λ s p b e. let same : a ≡ b = cc in subst (λ x. Q x []) same h }

walks_more : {A : Type 0} {P Q : A → List (ℕ × ℕ) → Type 0} {g : Grammar A} → ((a : A) (ws : List (ℕ × ℕ)) → P a ws → Q a ws) → Walks P g → Walks Q g
walks_more f w = record { there = λ s p a e. f a _ (w.there s p a e) }

module _ {A B : Type 0} {P : A → List (ℕ × ℕ) → Type 0} {Q : B → List (ℕ × ℕ) → Type 0} {g : Grammar A} {f : A → Grammar B} where
  -- one, and then the one that its answer chooses
  walks_then : Walks P g → ((a : A) (ws : List (ℕ × ℕ)) → P a ws → Walks (λ b later. Q b (ws ++ later)) (f a)) → Walks Q (g >>= f)
  unfolding continue
  walks_then w h = record {
    there = λ s p b e.
        let r = run g s p in
        let same = run_bind f s g p in
        subst (λ r. Q b (walked_rows r.rows)) (sym same) (go s r.rows r.spot r.end (w.there s p) b (ap (λ r. r.end) (sym same) ∙ e));
  }
    where
      go : (s : List ℕ) (rows : List Row) (q : Spot) (e : End A) → ((a : A) → e ≡ reached a → P a (walked_rows rows)) → (b : B)
          → let r = continue (record { rows = rows; spot = q; end = e }) (λ a q. run (f a) s q) in
          r.end ≡ reached b → Q b (walked_rows r.rows)
      go s rows q (reached a) first b e =
          subst (Q b) (sym (walked_append rows (run (f a) s q).rows)) ((h a (walked_rows rows) (first a refl)).there s q b e)
      go s rows q (refused x) first b e = let z : ◌≡◌ {A = ℕ} 0 1 = cc in absurd (omega arith)

-- nothing walked, and then
after_none : {A B : Type 0} {Q : B → List (ℕ × ℕ) → Type 0} {g : Grammar A} {f : A → Grammar B} → Marked false g → ((a : A) → Walks Q (f a)) → Walks Q (g >>= f)
after_none {Q = Q} {g = g} {f = f} m h =
    walks_then {P = λ _ ws. ws ≡ []} (record { there = λ s p _ _. none_walked m s p })
    (λ a ws e. subst (λ ws. Walks (λ b later. Q b (ws ++ later)) (f a)) (sym e) (h a))

-- ---- a block

-- the counts of a block: they are told in its place, and its row is as wide as they sum to
record OfBlock (h : Header) (blk : ℕ) (before next : Carry) (ws : List (ℕ × ℕ)) : Type 0 where
  pub bits : List ℕ
  pub cplinu : Bool
  pub told : next.tally.bits ≡ sets before.tally.bits (7 * blk) bits
  pub seven : length bits ≡ 7
  pub wide : ws ≡ (natural (shown blk), sum bits) ∷ []
  pub unused : Unused (nfchans h.acmod) h.lfeon cplinu bits
  pub coupled : next.tally.coupled ≡ cond cplinu (before.tally.coupled + 1) before.tally.coupled

walked_block : (blk fscod acmod : ℕ) (lfeon : Bool) (c : Coupling) (ends : List ℕ) (st : AllocState) (exps : List (List ℤ))
    → Walks (λ w ws. (w.bits ≡ slot_bits fscod (nfchans acmod) lfeon c ends st exps) × (ws ≡ (natural (shown blk), sum w.bits) ∷ []))
    (mantissas blk fscod (nfchans acmod) lfeon c ends st exps)
unfolding walked_rows
walked_block blk fscod acmod lfeon c ends st exps = record {
  there = λ s p w e.
      let (told, row) = bits_by_slot.span blk fscod (nfchans acmod) lfeon c ends st exps (five_or_fewer acmod) s p w e in
      (told, ap walked_rows row);
}

seven_long : (fscod n : ℕ) (lfeon : Bool) (c : Coupling) (ends : List ℕ) (st : AllocState) (exps : List (List ℤ)) → length (slot_bits fscod n lfeon c ends st exps) ≡ 7
unfolding by_slot
seven_long fscod n lfeon c ends st exps = from_length _ 7 0

of_block : (h : Header) (blk : ℕ) (before : Carry) → Walks (OfBlock h blk before) (audio_block h blk before)
unfolding audio_block
of_block h blk before =
    after_none (m_here (λ at. m_done)) λ start. after_none (marked_settings blk h.acmod) λ _. after_none (marked_coupling blk h.acmod _) λ cpl.
    after_none (marked_exponented blk h _ _ _) λ x. after_none (marked_alloc blk (nfchans h.acmod) _ _ _) λ alloc. after_none (marked_skip blk) λ _.
    walks_then (walked_block blk h.fscod h.acmod h.lfeon cpl.coupling x.ends alloc x.exponents.exps) λ w ws e.
    walks_done (record {
      bits = w.bits;
      cplinu = cpl.coupling.cplinu;
      told = refl;
      seven = ap length e.0 ∙ seven_long h.fscod (nfchans h.acmod) h.lfeon cpl.coupling x.ends alloc x.exponents.exps;
      wide = ap (λ l. l ++ []) e.1;
      unused = subst (Unused (nfchans h.acmod) h.lfeon cpl.coupling.cplinu) (sym e.0)
          (bits_by_slot.unused h.fscod (nfchans h.acmod) h.lfeon cpl.coupling x.ends alloc x.exponents.exps (five_or_fewer h.acmod));
      coupled = refl;
    })

-- ---- the counts of a block among those of all

module _ (all bits : List ℕ) (blk : ℕ) (inside : blk < 6) (long : length all ≡ 42) (seven : length bits ≡ 7) where
  split : sets all (7 * blk) bits ≡ take (7 * blk) all ++ (bits ++ drop (7 * blk + length bits) all)
  split = sets-eq bits all (7 * blk) (omega arith) ∙ append_assoc (take (7 * blk) all) bits _

  front : length (take (7 * blk) all) ≡ 7 * blk
  front = length-take-le (7 * blk) all (omega arith)

  slots_there : slots_of blk (sets all (7 * blk) bits) ≡ bits
  slots_there =
      ap (slots_of blk) split ∙ ap (take 7) (drop_at (take (7 * blk) all) _ (7 * blk) front) ∙ take_at bits _ 7 seven

  slots_before : (j : ℕ) → j < blk → slots_of j (sets all (7 * blk) bits) ≡ slots_of j all
  slots_before j h = ap (slots_of j) split ∙ in_front_lem _ ∙ sym (in_front_lem (drop (7 * blk) all)) ∙ ap (slots_of j) (take-append-drop (7 * blk) all)
    where
      in_front_lem : (rest : List ℕ) → slots_of j (take (7 * blk) all ++ rest) ≡ take 7 (drop (7 * j) (take (7 * blk) all))
      in_front_lem rest =
          ap (take 7) (drop-append-le (7 * j) (take (7 * blk) all) rest (omega (arith, front)))
          ∙ take-append-le 7 (drop (7 * j) (take (7 * blk) all)) rest (simp length-drop (omega (arith, front)))

-- ---- six blocks

pair : {a b c d : ℕ} → a ≡ c → b ≡ d → ◌≡◌ {A = ℕ × ℕ} (a, b) (c, d)
pair p q = λ t. (p t, q t)

module _ (h : Header) where
  -- from block i on
  record OfBlocks (i n : ℕ) (before last : Carry) (ws : List (ℕ × ℕ)) : Type 0 where
    pub sums : ws ≡ from i n (λ blk. (blk, sum (slots_of blk last.tally.bits)))
    pub earlier : (j : ℕ) → j < i → slots_of j last.tally.bits ≡ slots_of j before.tally.bits
    pub unused : (j : ℕ) → i ≤ j → j < i + n → Unused (nfchans h.acmod) h.lfeon (not (eqb last.tally.coupled 0)) (slots_of j last.tally.bits)
    pub more : before.tally.coupled ≤ last.tally.coupled
    pub long : length last.tally.bits ≡ 42

  one_more : (i n : ℕ) (before next last : Carry) (ws later : List (ℕ × ℕ)) → i < 6 → length before.tally.bits ≡ 42
      → OfBlock h i before next ws → OfBlocks (i + 1) n next last later → OfBlocks i (suc n) before last (ws ++ later)
  unfolding from
  one_more i n before next last ws later k long b bs = record {
    sums = ap₂ ◌++◌ b.wide bs.sums ∙ ap₂ ◌∷◌ (pair here (ap sum (sym slots))) (ap (λ m. from m n (λ blk. (blk, sum (slots_of blk last.tally.bits)))) (add-one i));
    earlier = λ j l. bs.earlier j (omega arith) ∙ ap (slots_of j) b.told ∙ slots_before before.tally.bits b.bits i k long b.seven j l;
    unused = λ j l m. of j l m (eqb i j) refl;
    more = omega (arith, grown b.cplinu, bs.more, b.coupled);
    long = bs.long;
  }
    where
      here : natural (shown i) ≡ i
      here = ap natural (shown_part i (omega arith))

      slots : slots_of i last.tally.bits ≡ b.bits
      slots = bs.earlier i (omega arith) ∙ ap (slots_of i) b.told ∙ slots_there before.tally.bits b.bits i k long b.seven

      grown : (c : Bool) → before.tally.coupled ≤ cond c (before.tally.coupled + 1) before.tally.coupled
      grown true = omega arith
      grown false = omega arith

      -- where no block uses coupling this one does not
      uncoupled : (c : Bool) → next.tally.coupled ≡ cond c (before.tally.coupled + 1) before.tally.coupled → (z : Bool) → eqb last.tally.coupled 0 ≡ z → not z ≡ false → c ≡ false
      uncoupled false e z f g = refl
      uncoupled true e true f g = absurd (omega (arith, e, bs.more, eqb-true last.tally.coupled 0 f))
      uncoupled true e false f g = g

      own : Unused (nfchans h.acmod) h.lfeon (not (eqb last.tally.coupled 0)) b.bits
      own = record {
        channels = b.unused.channels;
        coupling = λ e. b.unused.coupling (uncoupled b.cplinu b.coupled (eqb last.tally.coupled 0) refl e);
        lfe = b.unused.lfe;
      }

      of : (j : ℕ) → i ≤ j → j < i + suc n → (same : Bool) → eqb i j ≡ same
          → Unused (nfchans h.acmod) h.lfeon (not (eqb last.tally.coupled 0)) (slots_of j last.tally.bits)
      of j l m true e = subst (λ x. Unused (nfchans h.acmod) h.lfeon (not (eqb last.tally.coupled 0)) (slots_of x last.tally.bits)) (eqb-true i j e)
          (subst (Unused (nfchans h.acmod) h.lfeon (not (eqb last.tally.coupled 0))) (sym slots) own)
      of j l m false e = let apart : i ≡ j → ⊥ = eqb-false i j e in bs.unused j (omega arith) (omega arith)

  of_blocks : (n i : ℕ) (before : Carry) → i + n ≤ 6 → length before.tally.bits ≡ 42 → Walks (OfBlocks i n before) (turns i n before (audio_block h))
  unfolding turns from
  of_blocks zero i before k long = walks_done (record { sums = refl; earlier = λ j l. refl; unused = λ j l m. absurd (omega arith); more = omega arith; long = long })
  of_blocks (suc n) i before k long =
      walks_then (of_block h i before) λ next ws b.
      walks_more (λ last later bs. one_more i n before next last ws later (omega arith) long b bs)
      (of_blocks n (i + 1) next (omega arith) (ap length b.told ∙ length-sets before.tally.bits (7 * i) b.bits ∙ long))

-- ---- the frame

record OfFrame (a : Audio) (ws : List (ℕ × ℕ)) : Type 0 where
  pub sums : ws ≡ block_sums a.tally.bits
  pub unused : (blk : ℕ) → blk < 6 → Unused (nfchans a.header.acmod) a.header.lfeon (not (eqb a.tally.coupled 0)) (slots_of blk a.tally.bits)
  pub long : length a.tally.bits ≡ 42

of_frame_lem : Walks OfFrame syncframe
unfolding syncframe audio
of_frame_lem =
    after_none marked_header λ h.
    walks_then (of_blocks h 6 0 unread (omega arith) refl) λ last ws bs.
    after_none (m_here (λ at. m_done)) λ end.
    walks_done (record { sums = append-nil ws ∙ bs.sums; unused = λ blk k. bs.unused blk (omega arith) k; long = bs.long })

module _ (c : Call) (ok : Accepted c) where
  told : OfFrame (reaches c ok).answer (walked_rows (listed c))
  told = of_frame_lem.there (input c) _ (reaches c ok).answer (reaches c ok).accepted

  summary_is : (answer_to c).0.summary ≡ summary_of (answer_to c).0.rows (reaches c ok).answer
  summary_is = (promised c refl).summary (reaches c ok)

  sums : mantissa_rows (row_count c) (answer_to c).1 ≡ block_sums (answer_to c).0.summary.tally.bits
  sums =
      let kept = promised c refl in
      ap (λ n. mantissa_rows n (answer_to c).1) kept.counted ∙ ap (mantissa_rows (length (listed c))) kept.written ∙ walked_held _ (listed c)
      ∙ told.sums ∙ ap (λ s. block_sums s.tally.bits) (sym summary_is)

  unused : (blk : ℕ) → blk < 6 → let s = (answer_to c).0.summary in Unused (nfchans s.header.acmod) s.header.lfeon (not (eqb s.tally.coupled 0)) (slots_of blk s.tally.bits)
  unused blk k =
      subst (λ s. Unused (nfchans s.header.acmod) s.header.lfeon (not (eqb s.tally.coupled 0)) (slots_of blk s.tally.bits)) (sym summary_is) (told.unused blk k)

zeros : (c : Call) → ¬ Accepted c → (answer_to c).0.summary.tally.bits ≡ replicate slot_counts 0
zeros c not-ok = ap (λ s. s.tally.bits) ((promised c refl).without_summary not-ok)

forty_two : (c : Call) → length (answer_to c).0.summary.tally.bits ≡ slot_counts
forty_two c = go (eqb (answer_to c).0.refusal 0) refl
  where
    go : (b : Bool) → eqb (answer_to c).0.refusal 0 ≡ b → length (answer_to c).0.summary.tally.bits ≡ slot_counts
    go true e = let ok : Accepted c = eqb-true _ 0 e in ap (λ s. length s.tally.bits) (summary_is c ok) ∙ (told c ok).long
    go false e = ap length (zeros c (eqb-false _ 0 e))

pub bits_of_slots : SlotBits
bits_of_slots = record { sums = sums; unused = unused; long = forty_two; none = zeros }
