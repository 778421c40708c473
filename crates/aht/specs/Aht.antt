-- The adaptive hybrid transform's part of a channel (E.1.2.4, E.2.4.2, E.2.4.4.2): gain words, then vector indices and mantissas of all six
-- blocks, bin by bin. Mantissa values steer the length: where one is a tag, the mantissa that it stands for follows.
use Rattle.std.specs.Prelude.{Bool, ◌&&◌, cond, List, [], ◌∷◌, ℕ, zero, suc, ◌+◌, ◌-◌, ◌*◌, ◌/◌, ◌%◌, ◌^◌, min, eqb, ltb, length, get_or, drop, Result, Ok, Err}
use Rattle.std.proofs.Math.ListN as list
use Rattle.tables.specs.Tables.{vq_bits, gaq_bits}
use Rattle.aht.specs.Walk.{Walk, Outcome, done, refuse, reached, refused, ◌>>=◌, ◌>>◌, take, pass, refuse_if, times, run}
use Rattle.aht.specs.declared.outcome.Refusal.{Refusal}
use Rattle.aht.specs.declared.outcome.Refusal.TheVariants.{GainAbove26, HebapAbove19, BinsPastTheArray}
use Rattle.aht.specs.declared.outcome.Walked.{Walked}

-- ---- E.2.4.2: gains, in the order of the active bins

abbrev pub endbap : (gaqmod : ℕ) → ℕ
endbap gaqmod = cond (ltb gaqmod 2) 12 17

abbrev pub is_active : (gaqmod hebap : ℕ) → Bool
is_active gaqmod hebap = ltb 7 hebap && ltb hebap (endbap gaqmod)

abbrev pub active_one : (gaqmod hebap : ℕ) → ℕ
active_one gaqmod hebap = cond (is_active gaqmod hebap) 1 0

unfoldable pub active_bins : (gaqmod : ℕ) → List ℕ → ℕ
active_bins gaqmod [] = 0
active_bins gaqmod (h ∷ hs) = active_one gaqmod h + active_bins gaqmod hs

-- a bit chooses between 1 and the mode's gain
abbrev pub single : (gain word : ℕ) → ℕ
single gain word = cond (eqb word 1) gain 1

unfoldable pub singles : (gain n : ℕ) → Walk (List ℕ)
singles gain zero = done []
singles gain (suc n) = do
  word ← take 1
  rest ← singles gain n
  done (single gain word ∷ rest)

-- five bits hold the gains of three bins, each 1, 2 or 4
unfoldable pub composites : (n : ℕ) → Walk (List ℕ)
composites zero = done []
composites (suc n) = do
  word ← take 5
  refuse_if (ltb 26 word) GainAbove26
  rest ← composites n
  done (2 ^ (word / 9) ∷ 2 ^ (word % 9 / 3) ∷ 2 ^ (word % 3) ∷ rest)

unfoldable pub gains : (gaqmod active : ℕ) → Walk (List ℕ)
gains zero active = done []
gains (suc zero) active = singles 2 active
gains (suc (suc zero)) active = singles 4 active
gains (suc (suc (suc _))) active = composites ((active + 2) / 3)

-- ---- E.2.4.4.2: mantissas; the tags are counted

-- the bits of a small mantissa, and those of the large one after a tag
abbrev pub small_bits : (gain m : ℕ) → ℕ
small_bits gain m = cond (eqb gain 2) (m - 1) (m - 2)

abbrev pub large_bits : (gain m : ℕ) → ℕ
large_bits gain m = cond (eqb gain 2) (m - 1) m

-- a small mantissa is a tag where only its first bit is 1
abbrev pub is_tag : (width v : ℕ) → Bool
is_tag width v = eqb v (2 ^ (width - 1))

-- under gain 1 a mantissa has its m bits; under another it is small, and after a tag it is large
unfoldable pub mantissa : (gain m tags : ℕ) → Walk ℕ
mantissa gain m tags =
    let small = small_bits gain m in
    cond (eqb gain 1)
    (pass m tags)
    (take small >>= λ v. cond (is_tag small v) (pass (large_bits gain m) (tags + 1)) (done tags))

-- hebap 0 has nothing, 1 to 7 a vector index for all six blocks, 8 to 19 a mantissa for each
unfoldable pub bin : (gain hebap tags : ℕ) → Walk ℕ
bin gain hebap tags =
    cond (eqb hebap 0) (done tags)
    (cond (ltb hebap 8) (pass (vq_bits hebap) tags)
    (cond (ltb 19 hebap) (refuse HebapAbove19)
    (times 6 (mantissa gain (gaq_bits (hebap - 8))) tags)))

-- an active bin takes the next gain; any other has gain 1, and so has each where no gains are sent
abbrev pub gain_of : (gaqmod : ℕ) → (gains : List ℕ) → (next hebap : ℕ) → ℕ
gain_of gaqmod gains next hebap = cond (is_active gaqmod hebap) (get_or gains next 1) 1

unfoldable pub bins : (gaqmod : ℕ) → (gains : List ℕ) → (next tags : ℕ) → List ℕ → Walk ℕ
bins gaqmod gains next tags [] = done tags
bins gaqmod gains next tags (h ∷ hs) = do
  more ← bin (gain_of gaqmod gains next h) h tags
  bins gaqmod gains (next + active_one gaqmod h) more hs

-- ---- the whole: its answer is the number of tags

-- the entries from one place up to another
abbrev pub range : List ℕ → (first past : ℕ) → List ℕ
range hebap first past = list.take (past - first) (drop first hebap)

unfoldable pub aht : (hebap : List ℕ) → (first past : ℕ) → Walk ℕ
aht hebap first past = do
  refuse_if (ltb (length hebap) past) BinsPastTheArray
  let hs = range hebap first past
  gaqmod ← take 2
  words ← gains gaqmod (active_bins gaqmod hs)
  bins gaqmod words 0 0 hs

-- nothing may end past the given end or past that of the bytes
abbrev pub limit_of : List ℕ → (end : ℕ) → ℕ
limit_of s end = min end (length s * 8)

abbrev pub aht_of : List ℕ → (at end : ℕ) → (hebap : List ℕ) → (first past : ℕ) → Outcome ℕ
aht_of s at end hebap first past = run (aht hebap first past) s (limit_of s end) at

-- what the code tells: where the walk stands, or why it is refused
abbrev pub outcome_of : Result Walked Refusal → Outcome ℕ
outcome_of (Ok walked) = reached walked.tags walked.end
outcome_of (Err refusal) = refused refusal
