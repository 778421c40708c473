-- What bits and bytes that come later can change, as statements about a grammar. `proofs/Later.antt` proves them
-- of every grammar. Unlike demand 3 they speak of refused inputs too.
use Rattle.std.specs.Prelude.{Bool, not, List, ◌++◌, ◌⊎◌, ◌≡◌, ℕ, ◌*◌, ◌/◌, ◌≤◌, ◌<◌, T, ℤ, length}
use Rattle.bits.specs.Bits.{bit_at, value}
use Rattle.syntax.specs.declared.Item.{Item}
use Rattle.syntax.specs.declared.Refusal.{Refusal}
use Rattle.syntax.specs.Refusals.{number}
use Rattle.syntax.specs.Grammar.{Grammar, done, refuse, field, free, span, walk, frame, here}
use Rattle.syntax.specs.Run.{Spot, End, reached, refused, Result, Check, clear, stop, row_check, walk_check, sum, beyond, within, start, parse, rows_of, end_of}
use Rattle.syntax.specs.Numbers.{row_width}
use Rattle.syntax.specs.Rows.{is_span, Agree}
use Rattle.syntax.specs.Place.{Outcome, got, no, exec, fresh}

-- ---- only what was read matters

module _ {A : Type 0} (g : Grammar A) where
  pub record OnlyWhatWasRead : Type 0 where
    -- no bit past the input is reached
    pub inside : (s : List ℕ) (m : ℕ) → end_of g s m ≤ length s * 8
    -- of inputs of one length those that agree before the bit reached have one result
    pub later_idle : (s t : List ℕ) (m : ℕ) → length s ≡ length t → ((p : ℕ) → p < end_of g s m → bit_at s p ≡ bit_at t p) → parse g t m ≡ parse g s m
    -- they need not agree inside spans: as a list of rows, and in place
    pub spans_idle : (s t : List ℕ) (m : ℕ) → length s ≡ length t → Agree is_span s t (rows_of g s m) (end_of g s m) → parse g t m ≡ parse g s m
    pub in_place : (s t : List ℕ) (room : List ℤ) → length s ≡ length t
        → let m = length room / row_width in
        Agree is_span s t (rows_of g s m) (end_of g s m) → exec g t (fresh room) ≡ exec g s (fresh room)

-- ---- appending

-- past this check
abbrev pub Past : Check → Type 0 → Type 0
Past clear rest = rest
Past (stop why bit) rest = ⊥

-- the run ends at a `frame` that asks for more bytes than the input has
unfoldable pub TooShort : {A : Type 0} → Grammar A → List ℕ → Spot → Type 0
TooShort (done a) s p = ⊥
TooShort (refuse x) s p = ⊥
TooShort (field i w k) s p = Past (row_check i p w) (TooShort (k (value s p.at w)) s (beyond w p))
TooShort (free i w k) s p = Past (row_check i p w) (TooShort k s (beyond w p))
TooShort (span i w k) s p = Past (row_check i p w) (TooShort k s (beyond w p))
TooShort (walk i ws k) s p = Past (walk_check i p ws) (TooShort k s (beyond (sum ws) p))
TooShort (frame x n k) s p = (p.size < n) ⊎ TooShort k s (within n p)
TooShort (here k) s p = TooShort (k p.at) s p

-- the same rows, bit, limit and end, of an input of so many bytes
abbrev pub sized : ℕ → Spot → Spot
sized n p = record { size = n; limit = p.limit; at = p.at; left = p.left }

abbrev pub resized : {A : Type 0} → ℕ → Result A → Result A
resized n r = record { rows = r.rows; spot = sized n r.spot; end = r.end }

-- what is not too short stays as it is when bytes come
abbrev pub Appending : {A : Type 0} → Grammar A → Type 0
Appending g = (s more : List ℕ) (m : ℕ) → ¬ TooShort g s (start (length s) m) → parse g (s ++ more) m ≡ resized (length (s ++ more)) (parse g s m)

-- ---- by numbers

-- These are the numbers with which the grammar refuses an input that is too short, no value is refused with one of them, and no input of
-- this many bytes is too short.
pub data ShortBy {A : Type 0} (short : ℕ → Bool) (most : ℕ) : Grammar A → Type 0 where
  s_done : {a : A} → ShortBy short most (done a)
  s_refuse : {x : Refusal} → T (not (short (number x))) → ShortBy short most (refuse x)
  s_field : {i : Item} {w : ℕ} {k : ℕ → Grammar A} → ((v : ℕ) → ShortBy short most (k v)) → ShortBy short most (field i w k)
  s_free : {i : Item} {w : ℕ} {k : Grammar A} → ShortBy short most k → ShortBy short most (free i w k)
  s_span : {i : Item} {w : ℕ} {k : Grammar A} → ShortBy short most k → ShortBy short most (span i w k)
  s_walk : {i : Item} {ws : List ℕ} {k : Grammar A} → ShortBy short most k → ShortBy short most (walk i ws k)
  s_frame : {x : Refusal} {n : ℕ} {k : Grammar A} → T (short (number x)) → n ≤ most → ShortBy short most k → ShortBy short most (frame x n k)
  s_here : {k : ℕ → Grammar A} → ((at : ℕ) → ShortBy short most (k at)) → ShortBy short most (here k)

abbrev pub EndsShort : {A : Type 0} → (ℕ → Bool) → End A → Type 0
EndsShort short (reached a) = ⊥
EndsShort short (refused x) = T (short (number x))

abbrev pub StopsShort : {A : Type 0} → (ℕ → Bool) → Outcome A → Type 0
StopsShort short (got a p) = ⊥
StopsShort short (no x p) = T (short (number x))

module _ {A : Type 0} (short : ℕ → Bool) (most : ℕ) (g : Grammar A) where
  pub record AppendingByNumber : Type 0 where
    -- refused with one of the numbers is too short, and the other way round
    pub is_too_short : (s : List ℕ) (m : ℕ) → EndsShort short (parse g s m).end → TooShort g s (start (length s) m)
    pub ends_short : (s : List ℕ) (m : ℕ) → TooShort g s (start (length s) m) → EndsShort short (parse g s m).end
    -- the others stay, as a list of rows and in place
    pub stays : (s more : List ℕ) (m : ℕ) → ¬ EndsShort short (parse g s m).end → parse g (s ++ more) m ≡ resized (length (s ++ more)) (parse g s m)
    pub in_place : (s more : List ℕ) (room : List ℤ) → ¬ StopsShort short (exec g s (fresh room)) → exec g (s ++ more) (fresh room) ≡ exec g s (fresh room)
    -- and with enough bytes nothing is too short
    pub enough : (s : List ℕ) (m : ℕ) → most ≤ length s → ¬ EndsShort short (parse g s m).end
