-- A frame asks for no more bytes than it has, so its bytes alone are not too short, and what comes behind them changes nothing. Assumes nothing.
use mathlib.Core.Bool.{Bool, true, false, not}
use mathlib.Core.List.{List, [], ◌∷◌, ◌++◌}
use mathlib.Core.Logic.{◌⊎◌, inl, inr}
use mathlib.Core.Path.{◌≡◌, refl, sym, ap, subst, ◌∙◌}
use Prim.Native.Nat.{ℕ, zero, suc, ◌-◌, ◌*◌, ◌/◌, ◌%◌, ◌^◌, ◌≤◌, ◌<◌, max}
use native.Mathlib.Decide.{dec_le}
use native.Mathlib.Nat.{le_refl}
use native.Mathlib.Omega.{arith}
use borrow.Author.Tests.{eqb-false}
use lib.Dec.{T, eqb}
use lib.ListN.{length, take, drop, get_or, replicate, length-append, length-replicate, take-append-drop, get_or-append, get_or-eq_default}
use lib.Seq.{length-take-le, get_or-take}
use Rattle.bits.specs.Bits.{bit_at, value}
use Rattle.bits.proofs.Determine.{value_of_bits}
use Rattle.bits.proofs.Window.{value_lt}
use Rattle.tables.specs.Tables.{words48, words44, words32, frame_bytes}
use Rattle.tables.proofs.Rules.{large, large_at}
use Rattle.syntax.specs.declared.Refusal.{Refusal}
use Rattle.syntax.specs.Refusals.{not_sync, no_frame_size}
use Rattle.syntax.specs.Grammar.{Grammar, done, refuse, field, free, span, walk, frame, here, ◌>>=◌, refuse_if}
use Rattle.syntax.specs.Later.{Past, TooShort, sized, resized}
use Rattle.syntax.specs.Place.{Place, finish}
use Rattle.syntax.specs.Run.{Spot, End, reached, Result, Check, clear, stop, unless, run, row_check, walk_check, frame_check, sum, beyond, within, start, parse}
use Rattle.syntax.proofs.Later.{only_what_was_read, appending}
use Rattle.header.specs.Header.{syncinfo, bsi, header}
use Rattle.header.specs.declared.Header.{Header}
use Rattle.ac3.specs.AtMost.{AtMost, a_done, a_refuse, a_field, a_free, a_span, a_walk, a_frame, a_here}
use Rattle.ac3.specs.Frame.{Audio, audio, syncframe, answered}
use Rattle.ac3.specs.Later.{longest, append_to}
use Rattle.ac3.specs.Promise.{Call, input, room_for, bit_of, answer_to, Accepted, Promised}
use Rattle.ac3.specs.Within.{Within}
use Rattle.ac3.proofs.AtMost as bounds
use Rattle.ac3.proofs.Later.{later_bytes}
use Rattle.ac3.proofs.Promise.{promised, result, landed, answer_is}
use Rattle.ac3.proofs.Rooms.{same_answer_lem}
use Rattle.ac3.proofs.RowBound.{a_bsi, a_audio}
use Rattle.ac3.proofs.Within.{kept_within}
use Rattle.rows.specs.Framed.{shortest, frame_bytes_of, frame_of, SameFrame, AcceptedFramed, RowsCount}

-- ---- every answer that a grammar can reach

abbrev Yields : {A : Type 0} → (A → Type 0) → Grammar A → Type 0
Yields P (done a) = P a
Yields P (refuse n) = Unit {0}
Yields P (field i w k) = (v : ℕ) → v < 2 ^ w → Yields P (k v)
Yields P (free i w k) = Yields P k
Yields P (span i w k) = Yields P k
Yields P (walk i ws k) = Yields P k
Yields P (frame x n k) = Yields P k
Yields P (here k) = (at : ℕ) → Yields P (k at)

always : {A : Type 0} {P : A → Type 0} → ((a : A) → P a) → (g : Grammar A) → Yields P g
always h (done a) = h a
always h (refuse n) = tt
always h (field i w k) = λ v _. always h (k v)
always h (free i w k) = always h k
always h (span i w k) = always h k
always h (walk i ws k) = always h k
always h (frame x n k) = always h k
always h (here k) = λ at. always h (k at)

module _ {A B : Type 0} (Q : A → Type 0) (P : B → Type 0) (f : A → Grammar B) (next : (a : A) → Q a → Yields P (f a)) where
  yields_then : (g : Grammar A) → Yields Q g → Yields P (g >>= f)
  unfolding ◌>>=◌
  yields_then (done a) y = next a y
  yields_then (refuse n) y = tt
  yields_then (field i w k) y = λ v lt. yields_then (k v) (y v lt)
  yields_then (free i w k) y = yields_then k y
  yields_then (span i w k) y = yields_then k y
  yields_then (walk i ws k) y = yields_then k y
  yields_then (frame x n k) y = yields_then k y
  yields_then (here k) y = λ at. yields_then (k at) (y at)

yields_of : {A : Type 0} {sets : Bool} {Q : A → Type 0} {n : ℕ} {g : Grammar A} → AtMost sets Q n g → Yields Q g
yields_of (a_done q) = q
yields_of (a_refuse t) = tt
yields_of (a_field t k) = λ v lt. yields_of (k v lt)
yields_of (a_free t k) = yields_of k
yields_of (a_span t k) = yields_of k
yields_of (a_walk t k) = yields_of k
yields_of (a_frame u t k) = yields_of k
yields_of (a_here k) = λ at. yields_of (k at)

wider : {A : Type 0} {sets : Bool} {Q R : A → Type 0} {n : ℕ} {g : Grammar A} → ((a : A) → Q a → R a) → AtMost sets Q n g → AtMost sets R n g
wider {n = n} h a = bounds.wider h (le_refl n) a

padding : (s : List ℕ) (n i : ℕ) → length s ≤ i → get_or (s ++ replicate n 0) i 0 ≡ 0
padding [] n i h = zeros n i
  where
    zeros : (n i : ℕ) → ◌≡◌ {A = ℕ} (get_or (replicate n 0) i 0) 0
    zeros zero i = refl
    zeros (suc n) zero = refl
    zeros (suc n) (suc i) = zeros n i
padding (x ∷ s) n zero h = absurd (omega (arith, h))
padding (x ∷ s) n (suc i) h = padding s n i (omega (arith, h))

-- ---- what each frame that is begun asks of every answer after it

-- it holds of all answers, or of those of the rest
abbrev Owed : {A : Type 0} → (A → Type 0) → Grammar A → Type 0
Owed {A} P k = ((a : A) → P a) ⊎ Yields P k

owed : {A : Type 0} {P : A → Type 0} (k : Grammar A) → Owed P k → Yields P k
owed k (inl all) = always all k
owed k (inr y) = y

abbrev Asks : {A : Type 0} → (ℕ → A → Type 0) → Grammar A → Type 0
Asks R (done a) = Unit {0}
Asks R (refuse n) = Unit {0}
Asks R (field i w k) = (v : ℕ) → v < 2 ^ w → Asks R (k v)
Asks R (free i w k) = Asks R k
Asks R (span i w k) = Asks R k
Asks R (walk i ws k) = Asks R k
Asks R (frame x n k) = Owed (R n) k × Asks R k
Asks R (here k) = (at : ℕ) → Asks R (k at)

-- nothing is asked where no frame is begun
unasked : {A : Type 0} {Q : A → Type 0} (R : ℕ → A → Type 0) {n : ℕ} {g : Grammar A} → AtMost false Q n g → Asks R g
unasked R (a_done q) = tt
unasked R (a_refuse t) = tt
unasked R (a_field t k) = λ v lt. unasked R (k v lt)
unasked R (a_free t k) = unasked R k
unasked R (a_span t k) = unasked R k
unasked R (a_walk t k) = unasked R k
unasked R (a_frame u t k) = absurd u
unasked R (a_here k) = λ at. unasked R (k at)

module _ {A B : Type 0} (R : ℕ → A → Type 0) (S : ℕ → B → Type 0) (f : A → Grammar B) (asked : (n : ℕ) (a : A) → R n a → Yields (S n) (f a)) (later : (a : A) → Asks S (f a)) where
  asks_then : (g : Grammar A) → Asks R g → Asks S (g >>= f)
  unfolding ◌>>=◌
  asks_then (done a) y = later a
  asks_then (refuse n) y = tt
  asks_then (field i w k) y = λ v lt. asks_then (k v) (y v lt)
  asks_then (free i w k) y = asks_then k y
  asks_then (span i w k) y = asks_then k y
  asks_then (walk i ws k) y = asks_then k y
  asks_then (frame x n k) y = (inr (yields_then (R n) (S n) f (asked n) k (owed k y.0)), asks_then k y.1)
  asks_then (here k) y = λ at. asks_then (k at) (y at)

past : {B : Type 0} (S : ℕ → B → Type 0) (b : Bool) (x : Refusal) (f : Unit {0} → Grammar B) → Asks S (f tt) → Asks S (refuse_if b x >>= f)
unfolding ◌>>=◌
past S true x f y = tt
past S false x f y = y

-- ---- a run that is accepted does not end too short on as many bytes as its answer asks for

checked : {A : Type 0} (c : Check) (p : Spot) (r : Result A) {a : A} → (unless c p (λ _. r)).end ≡ reached a → (c ≡ clear) × (r.end ≡ reached a)
unfolding unless
checked clear p r e = (refl, e)
checked (stop why bit) p r e = let z : ◌≡◌ {A = ℕ} 0 1 = cc in absurd (omega arith)

module _ {A : Type 0} (P : A → Type 0) (s : List ℕ) (a : A) where
  reaches : (g : Grammar A) (p : Spot) → Yields P g → (run g s p).end ≡ reached a → P a
  unfolding run
  reaches (done b) p y e = subst P (let same : b ≡ a = cc in same) y
  reaches (refuse n) p y e = let z : ◌≡◌ {A = ℕ} 0 1 = cc in absurd (omega arith)
  reaches (field i w k) p y e = reaches (k _) (beyond w p) (y (value s p.at w) (value_lt s p.at w)) (checked (row_check i p w) p _ e).1
  reaches (free i w k) p y e = reaches k (beyond w p) y (checked (row_check i p w) p _ e).1
  reaches (span i w k) p y e = reaches k (beyond w p) y (checked (row_check i p w) p _ e).1
  reaches (walk i ws k) p y e = reaches k (beyond (sum ws) p) y (checked (walk_check i p ws) p _ e).1
  reaches (frame x n k) p y e = reaches k (within n p) y (checked (frame_check p x n) p _ e).1
  reaches (here k) p y e = reaches (k p.at) p (y p.at) e

module _ {A : Type 0} (s t : List ℕ) (same : (at w : ℕ) → value s at w ≡ value t at w) (a : A) (R : ℕ → A → Type 0) (size : ℕ) (enough : (n : ℕ) → R n a → n ≤ size) where
  passed : (c : Check) (T : Type 0) → c ≡ clear → Past c T → T
  passed c T e h = subst (λ c. Past c T) e h

  not_short : (g : Grammar A) (p : Spot) → Asks R g → (run g t p).end ≡ reached a → ¬ TooShort g s (sized size p)
  unfolding run TooShort
  not_short (done b) p y e h = h
  not_short (refuse n) p y e h = h
  not_short (field i w k) p y e h =
      let both = checked (row_check i p w) p _ e in
      not_short (k _) (beyond w p) (y (value t p.at w) (value_lt t p.at w)) both.1
      (subst (λ v. TooShort (k v) s (sized size (beyond w p))) (same p.at w) (passed (row_check i p w) _ both.0 h))
  not_short (free i w k) p y e h = let both = checked (row_check i p w) p _ e in not_short k (beyond w p) y both.1 (passed (row_check i p w) _ both.0 h)
  not_short (span i w k) p y e h = let both = checked (row_check i p w) p _ e in not_short k (beyond w p) y both.1 (passed (row_check i p w) _ both.0 h)
  not_short (walk i ws k) p y e h = let both = checked (walk_check i p ws) p _ e in not_short k (beyond (sum ws) p) y both.1 (passed (walk_check i p ws) _ both.0 h)
  not_short (frame x n k) p y e (inl less) =
      let both = checked (frame_check p x n) p _ e in
      omega (arith, less, enough n (reaches (R n) t a k (within n p) (owed k y.0) both.1))
  not_short (frame x n k) p y e (inr h) = not_short k (within n p) y.1 (checked (frame_check p x n) p _ e).1 h
  not_short (here k) p y e h = not_short (k p.at) p (y p.at) e h

-- ---- the AC-3 grammar: six bytes, and then the frame's own

abbrev Enough : (n bytes : ℕ) → Type 0
Enough n bytes = n ≤ max 6 bytes

six : (bytes : ℕ) → Enough 6 bytes
six bytes = omega arith

own : (bytes : ℕ) → Enough bytes bytes
own bytes = omega arith

asks_sync : Asks (λ n (x : ℕ × ℕ). Enough n x.1) syncinfo
unfolding syncinfo ◌>>=◌
asks_sync = (
  inl (λ x. six x.1),
  λ syncword _. past _ (not (eqb syncword 0x0B77)) not_sync _
      (λ fscod _ code _. past _ (eqb (frame_bytes fscod code) 0) no_frame_size _ (inr (own (frame_bytes fscod code)), tt)),
)

-- what holds of the frame's size holds of it in every answer after
module _ (P : ℕ → Type 0) where
  yields_bsi : (fscod bytes : ℕ) → P bytes → Yields (λ (h : Header). P h.bytes) (bsi fscod bytes)
  yields_bsi fscod bytes p = yields_of (wider {Q = λ (h : Header). h.bytes ≡ bytes} (λ h same. subst P (sym same) p) (a_bsi fscod bytes))

  yields_audio : (h : Header) → P h.bytes → Yields (λ (a : Audio). P a.header.bytes) (audio h)
  yields_audio h p = yields_of (wider {Q = λ (a : Audio). a.header ≡ h} (λ a same. subst (λ (h : Header). P h.bytes) (sym same) p) (a_audio h))

asks_frame : Asks (λ n (a : Audio). Enough n a.header.bytes) syncframe
unfolding syncframe header
asks_frame =
    asks_then (λ n (h : Header). Enough n h.bytes) _ audio (λ n. yields_audio (Enough n)) (λ h. unasked _ (a_audio h)) header
    (asks_then (λ n (x : ℕ × ℕ). Enough n x.1) _ _ (λ n x. yields_bsi (Enough n) x.0 x.1) (λ x. unasked _ (a_bsi x.0 x.1)) syncinfo asks_sync)

-- ---- no frame size of the table is smaller than the shortest

entry_least : (l : List ℕ) → T (large 64 l) → (i : ℕ) → ¬ (get_or l i 0 ≡ 0) → 64 ≤ get_or l i 0
entry_least l t i some = go (dec_le (length l) i)
  where
    go : Dec (length l ≤ i) → 64 ≤ get_or l i 0
    go (Dec.yes h) = absurd (some (get_or-eq_default l 0 {n = i} h))
    go (Dec.no h) = large_at 64 l t i (omega arith)

bytes_least : (fscod code : ℕ) → ¬ (frame_bytes fscod code ≡ 0) → shortest ≤ frame_bytes fscod code
unfolding frame_bytes words48 words44 words32
bytes_least zero code h = omega (arith, entry_least words48 tt (code / 2) (λ z. h (omega (arith, z))))
bytes_least (suc zero) code h = omega (arith, entry_least words44 tt code (λ z. h (omega (arith, z))))
bytes_least (suc (suc zero)) code h = omega (arith, entry_least words32 tt (code / 2) (λ z. h (omega (arith, z))))
bytes_least (suc (suc (suc n))) code h = absurd (h refl)

judged : {B : Type 0} (P : B → Type 0) (b : Bool) (x : Refusal) (f : Unit {0} → Grammar B) → (b ≡ false → Yields P (f tt)) → Yields P (refuse_if b x >>= f)
unfolding ◌>>=◌
judged P true x f y = tt
judged P false x f y = y refl

least_sync : Yields (λ (x : ℕ × ℕ). shortest ≤ x.1) syncinfo
unfolding syncinfo ◌>>=◌
least_sync =
    λ syncword _. judged _ (not (eqb syncword 0x0B77)) not_sync _
    (λ _ fscod _ code _. judged _ (eqb (frame_bytes fscod code) 0) no_frame_size _ (λ e. bytes_least fscod code (eqb-false (frame_bytes fscod code) 0 e)))

least_frame : Yields (λ (a : Audio). shortest ≤ a.header.bytes) syncframe
unfolding syncframe header
least_frame =
    yields_then (λ (h : Header). shortest ≤ h.bytes) _ audio (λ h. yields_audio (λ n. shortest ≤ n) h) header
    (yields_then (λ (x : ℕ × ℕ). shortest ≤ x.1) _ _ (λ x. yields_bsi (λ n. shortest ≤ n) x.0 x.1) syncinfo least_sync)

-- ---- an accepted frame

-- bits past the end are 0
bit_padded : (s : List ℕ) (n p : ℕ) → bit_at s p ≡ bit_at (s ++ replicate n 0) p
unfolding bit_at
bit_padded s n p = ap (λ b. b / 2 ^ (7 - p % 8) % 2) (go (dec_le (length s) (p / 8)))
  where
    go : Dec (length s ≤ p / 8) → get_or s (p / 8) 0 ≡ get_or (s ++ replicate n 0) (p / 8) 0
    go (Dec.yes h) = get_or-eq_default s 0 {n = p / 8} h ∙ sym (padding s n (p / 8) h)
    go (Dec.no h) = sym (get_or-append s (replicate n 0) 0 (p / 8) (omega arith))

bit_taken : (s : List ℕ) (n p : ℕ) → p < 8 * n → bit_at s p ≡ bit_at (take n s) p
unfolding bit_at
bit_taken s n p h = ap (λ b. b / 2 ^ (7 - p % 8) % 2) (sym (get_or-take n s (p / 8) 0 (omega (arith, h))))

-- an answer is told by the rows, the bit and the end
told_of : (e e' : End Audio) (p p' : Place) → e ≡ e' → p.count ≡ p'.count → p.at ≡ p'.at → (answered (finish e p)).0 ≡ (answered (finish e' p')).0
told_of e e' p p' end count at = same_answer_lem e p p' count at ∙ ap (λ e. (answered (finish e p')).0) end

told_alike : (c d : Call) → (result d).end ≡ (result c).end → (result d).rows ≡ (result c).rows → (result d).spot.at ≡ (result c).spot.at → SameFrame c d
told_alike c d end rows at =
    record {
      answer = ap (λ x. x.0) (answer_is d)
          ∙ told_of (result d).end (result c).end (landed (result d) d.room) (landed (result c) c.room) end (ap length rows) at
          ∙ ap (λ x. x.0) (sym (answer_is c));
      rows = rows;
    }

pub rows_count : RowsCount
rows_count c d same room =
    let it : result d ≡ result c = λ j. parse syncframe (same j) (room j) in
    told_alike c d (ap (λ r. r.end) it) (ap (λ r. r.rows) it) (ap (λ r. r.spot.at) it)

module _ (c : Call) (ok : Accepted c) where
  abbrev s : List ℕ
  s = input c

  abbrev n : ℕ
  n = frame_bytes_of c

  kept : Promised c (answer_to c).0 (answer_to c).1
  kept = promised c refl

  lies : Within c (answer_to c).0 (answer_to c).1
  lies = kept_within c (answer_to c).0 (answer_to c).1 kept

  inside : n ≤ length s
  inside = omega (arith, lies.frame ok)

  -- the table has no shorter frame
  some : shortest ≤ n
  some =
      let taken = kept.sound ok in
      let bytes : taken.answer.header.bytes ≡ n = ap (λ s. s.header.bytes) (sym (kept.summary taken)) in
      omega (arith, bytes, reaches (λ (a : Audio). shortest ≤ a.header.bytes) s taken.answer syncframe (start (length s) (room_for c)) least_frame taken.accepted)

  -- with the longest frame's bytes nothing is too short, so no more are asked for
  most : n ≤ longest
  most = go (dec_le longest (length s))
    where
      front : Call
      front = record { capture = take longest s; place = 0; room = c.room }

      go : Dec (longest ≤ length s) → n ≤ longest
      go (Dec.no h) = omega (arith, inside)
      go (Dec.yes h) =
          let long = length-take-le longest s h in
          let same : answer_to (append_to front (drop longest s)) ≡ answer_to c = ap (λ s. answer_to (record { capture = s; place = 0; room = c.room })) (take-append-drop longest s) in
          let stays = later_bytes.stays front (drop longest s) (later_bytes.no_1 front (omega (arith, long))) (later_bytes.no_4 front (omega (arith, long))) in
          let is : answer_to front ≡ answer_to c = sym stays ∙ same in
          let fine : Accepted front = ap (λ x. x.0.refusal) is ∙ ok in
          let within = (kept_within front (answer_to front).0 (answer_to front).1 (promised front refl)).frame fine in
          omega (arith, within, ap (λ x. x.0.summary.header.bytes) is, long)

  -- with zeros behind it, as long as the whole input, the frame is the same to the bit reached
  abbrev f : List ℕ
  f = frame_of c

  abbrev padded : List ℕ
  padded = f ++ replicate (length s - n) 0

  f_long : length f ≡ n
  f_long = length-take-le n s inside

  padded_long : length s ≡ length padded
  padded_long = omega (arith, length-append f (replicate (length s - n) 0), length-replicate {A = ℕ} (length s - n) 0, f_long, inside)

  alike : (p : ℕ) → p < bit_of c → bit_at s p ≡ bit_at padded p
  alike p h = bit_taken s n p (omega (arith, h, kept.bit, lies.end ok)) ∙ bit_padded f (length s - n) p

  same_parse : parse syncframe padded (room_for c) ≡ parse syncframe s (room_for c)
  same_parse = (only_what_was_read syncframe).later_idle s padded (room_for c) padded_long alike

  -- so its bytes alone are enough
  not_too_short : ¬ TooShort syncframe f (start (length f) (room_for c))
  not_too_short =
      let taken = kept.sound ok in
      let bytes : taken.answer.header.bytes ≡ n = ap (λ s. s.header.bytes) (sym (kept.summary taken)) in
      let accepted = ap (λ r. r.end) same_parse ∙ taken.accepted in
      subst (λ size. ¬ TooShort syncframe f (start size (room_for c))) (sym f_long)
      (not_short f padded (λ at w. value_of_bits f padded at w (λ p _ _. bit_padded f (length s - n) p)) taken.answer (λ k (a : Audio). Enough k a.header.bytes) n
      (λ k asked. omega (arith, asked, bytes, some)) syncframe (start (length padded) (room_for c)) asks_frame accepted)

  same_behind : (more : List ℕ) → parse syncframe (f ++ more) (room_for c) ≡ resized (length (f ++ more)) (parse syncframe f (room_for c))
  same_behind more = appending syncframe f more (room_for c) not_too_short

  anywhere : (d : Call) (more : List ℕ) → input d ≡ f ++ more → room_for d ≡ room_for c → SameFrame c d
  anywhere d more e room =
      let here' : parse syncframe s (room_for c) ≡ resized (length s) (parse syncframe f (room_for c)) =
      ap (λ s. parse syncframe s (room_for c)) (sym (take-append-drop n s)) ∙ same_behind (drop n s) ∙ ap (λ s. resized (length s) (parse syncframe f (room_for c))) (take-append-drop n s) in
      let there : parse syncframe (input d) (room_for d) ≡ resized (length (f ++ more)) (parse syncframe f (room_for c)) =
      (λ j. parse syncframe (e j) (room j)) ∙ same_behind more in
      told_alike c d (ap (λ r. r.end) there ∙ sym (ap (λ r. r.end) here')) (ap (λ r. r.rows) there ∙ sym (ap (λ r. r.rows) here'))
      (ap (λ r. r.spot.at) there ∙ sym (ap (λ r. r.spot.at) here'))

pub accepted_framed : AcceptedFramed
accepted_framed c ok = record { some = some c ok; most = most c ok; inside = inside c ok; anywhere = anywhere c ok }
