-- `tables::frame_bytes` meets its contract: each sampling rate's words are the definition's; at 32 kHz they are one and a half times those at
-- 48 kHz. Assumes nothing.
use Rattle.std.proofs.Common.{ℕ, zero, suc, ◌*◌, Bool, true, false, ◌&&◌, List, [], ◌∷◌, ◌≡◌, ◌∙◌, refl, ap, get_or, eqb, rules}
use lib.Dec.{T, eqb→eq}
use store.Enc.{and_l, and_r}
use Rattle.tables.specs.Tables.{frame_bytes, words48, words32}
use Rattle.tables.proofs.frame_bytes.Goals as goal

-- entry by entry, 3 of one list are 2 of another
abbrev thirds : List ℕ → List ℕ → Bool
thirds [] [] = true
thirds [] (y ∷ ys) = false
thirds (x ∷ xs) [] = false
thirds (x ∷ xs) (y ∷ ys) = eqb (3 * x) (2 * y) && thirds xs ys

thirds_at : (xs ys : List ℕ) → T (thirds xs ys) → (k : ℕ) → 3 * get_or xs k 0 ≡ 2 * get_or ys k 0
thirds_at [] [] t k = refl
thirds_at [] (y ∷ ys) t k = absurd t
thirds_at (x ∷ xs) [] t k = absurd t
thirds_at (x ∷ xs) (y ∷ ys) t zero = eqb→eq (3 * x) (2 * y) (and_l (eqb (3 * x) (2 * y)) (thirds xs ys) t)
thirds_at (x ∷ xs) (y ∷ ys) t (suc k) = thirds_at xs ys (and_r (eqb (3 * x) (2 * y)) (thirds xs ys) t) k

at_32 : (k : ℕ) → 3 * get_or words48 k 0 ≡ 2 * get_or words32 k 0
unfolding words48 words32
at_32 = thirds_at words48 words32 tt

no_rate : (fscod code : ℕ) → (fscod ≡ 0 → ⊥) → (fscod ≡ 1 → ⊥) → (fscod ≡ 2 → ⊥) → 0 ≡ frame_bytes fscod code
unfolding frame_bytes
no_rate zero code a b c = absurd (a refl)
no_rate (suc zero) code a b c = absurd (b refl)
no_rate (suc (suc zero)) code a b c = absurd (c refl)
no_rate (suc (suc (suc n))) code a b c = refl

pub returns-in-0 : goal.returns-in-0
unfolding frame_bytes
returns-in-0 c = (rw c.in-0.is (ap (◌*◌ 2) c.words_48.ensures.0), search rules)

pub returns-in-1 : goal.returns-in-1
unfolding frame_bytes
returns-in-1 c = (rw c.in-1.is (ap (◌*◌ 2) c.words_44.ensures.0), search rules)

pub returns-in-2 : goal.returns-in-2
unfolding frame_bytes
returns-in-2 c = (rw c.in-2.is (ap (◌*◌ 3) c.words_48-in-2.ensures.0 ∙ at_32 _), search rules)

pub returns-in_default : goal.returns-in_default
returns-in_default c = (no_rate _ _ (search rules) (search rules) (search rules), search rules)
