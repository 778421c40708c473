-- What holds of an entry of a list, or of what stands for one past the end, still holds after stores of what it holds of: so the bounds of
-- arrays are kept. Assumes nothing.
use Prim.Native.Nat.{ℕ, zero, suc, ◌+◌, ◌*◌, ◌<◌}
use native.Mathlib.Omega.{arith}
use mathlib.Core.Path.{◌≡◌, sym, ◌∙◌}
use mathlib.Core.List.{List, [], ◌∷◌, ◌++◌, append_assoc}
use lib.Dec.{le→leb, lit<, lit≤}
use lib.IntN.{ℤ, pos}
use lib.Signed.{◌≤ℤ◌}
use lib.ListN.{get_or, set, replicate, length-replicate}
use lib.Seq.{sets}
use Rattle.naturals.proofs.Stored.{sets_append}
use Rattle.slots.specs.Slots.{no_deltas}
use Rattle.slots.specs.Sound.{Entries, SoundRow, SoundExps, SoundCodes, SoundSegments, SoundDeltas}

module _ {A : Type 0} (P : A → Type 0) (d : A) where
  pub entry_set : (l : List A) (i j : ℕ) (v : A) → P (get_or l i d) → P v → P (get_or (set l j v) i d)
  entry_set [] i j v h p = h
  entry_set (a ∷ l) zero zero v h p = p
  entry_set (a ∷ l) (suc i) zero v h p = h
  entry_set (a ∷ l) zero (suc j) v h p = h
  entry_set (a ∷ l) (suc i) (suc j) v h p = entry_set l i j v h p

  pub entry_replicate : (n i : ℕ) (a : A) → P d → P a → P (get_or (replicate n a) i d)
  entry_replicate zero i a p q = p
  entry_replicate (suc n) zero a p q = q
  entry_replicate (suc n) (suc i) a p q = entry_replicate n i a p q

  pub entry_sets : (n : ℕ) (l : List A) (i j : ℕ) (v : A) → P (get_or l i d) → P v → P (get_or (sets l j (replicate n v)) i d)
  entry_sets zero l i j v h p = h
  entry_sets (suc n) l i j v h p = entry_sets n (set l j v) i (suc j) v (entry_set l i j v h p) p

  -- the same of every entry
  pub every_set : (l : List A) → ((i : ℕ) → P (get_or l i d)) → (j : ℕ) (v : A) → P v → (i : ℕ) → P (get_or (set l j v) i d)
  every_set l h j v p i = entry_set l i j v (h i) p

  pub every_replicate : (n : ℕ) (a : A) → P d → P a → (i : ℕ) → P (get_or (replicate n a) i d)
  every_replicate n a p q i = entry_replicate n i a p q

-- ---- numbers below a bound

pub zeros_below : (k : ℕ) {n : ℕ} → 0 < n → Entries (replicate k 0) n
zeros_below k {n} h = every_replicate (λ x. x < n) 0 k 0 h h

pub set_below : (l : List ℕ) {n : ℕ} → Entries l n → (at v : ℕ) → v < n → Entries (set l at v) n
set_below l {n} = every_set (λ x. x < n) 0 l

pub sets_three : {A : Type 0} (n : ℕ) (l : List A) (at : ℕ) (x y z : A)
    → sets (sets (sets l at (replicate n x)) (at + n) (replicate n y)) (at + n + n) (replicate n z) ≡ sets l at (replicate n x ++ replicate n y ++ replicate n z)
sets_three n l at x y z =
    let xs = replicate n x in
    let ys = replicate n y in
    let zs = replicate n z in
    rw (append_assoc xs ys zs)
    (sym (sets_append xs (ys ++ zs) l at (at + n) (rw (length-replicate n x)) ∙ sets_append ys zs (sets l at xs) (at + n) (at + n + n) (rw (length-replicate n y))))

-- ---- exponents

-- what a set holds
abbrev Exponent : ℤ → Type 0
Exponent e = (pos 0 ≤ℤ e) × (e ≤ℤ pos 24)

small : {n : ℕ} → n < 25 → Exponent (pos n)
small {n} h = (record { le = le→leb 0 n (omega arith) }, record { le = le→leb n 24 (omega arith) })

pub zeros : SoundRow (replicate 256 (pos 0))
zeros bin = entry_replicate Exponent (pos 0) 256 bin (pos 0) (small (lit< tt)) (small (lit< tt))

-- where a frame begins
pub exps_none : SoundExps (replicate 7 (replicate 256 (pos 0)))
exps_none slot = entry_replicate SoundRow [] 7 slot (replicate 256 (pos 0)) (λ bin. small (lit< tt)) zeros

pub row_set : (row : List ℤ) (at e : ℕ) → SoundRow row → e < 25 → SoundRow (set row at (pos e))
row_set row at e h k bin = entry_set Exponent (pos 0) row bin at (pos e) (h bin) (small k)

pub row_sets : (row : List ℤ) (at n e : ℕ) {next : List ℤ} → next ≡ sets row at (replicate n (pos e)) → SoundRow row → e < 25 → SoundRow next
row_sets row at n e q h k = rw q (λ bin. entry_sets Exponent (pos 0) n row bin at (pos e) (h bin) (small k))

pub exps_set : (exps : List (List ℤ)) (slot : ℕ) (row : List ℤ) → SoundExps exps → SoundRow row → SoundExps (set exps slot row)
exps_set exps slot row h k i = entry_set SoundRow [] exps i slot row (h i) k

-- ---- delta segments

pub codes_none : SoundCodes (replicate 24 0)
codes_none n = zeros_below 24 (lit< tt) (n * 3 + 2)

pub segments_none : SoundSegments no_deltas
segments_none = record { count = lit≤ tt; codes = codes_none }

-- where a frame begins
pub deltas_none : SoundDeltas (replicate 7 no_deltas)
deltas_none = every_replicate SoundSegments no_deltas 7 no_deltas segments_none segments_none
