-- From each state that is no refusal's the reading of a text can be brought to an end, by a 0 for each number that is missing and an
-- `audio` line. Assumes nothing.
use mathlib.Core.Path.{◌≡◌, refl, ap, ◌∙◌}
use mathlib.Core.Bool.{Bool, true, false}
use mathlib.Core.List.{List, [], ◌∷◌, ◌++◌}
use mathlib.Core.Logic.{◌⊎◌, inl, inr}
use Prim.Native.Nat.{ℕ, zero, suc, ◌+◌, ◌-◌, ◌≤◌, ◌<◌}
use native.Mathlib.Omega.{arith}
use borrow.Author.Tests.{eq-eqb, ltb-true, ltb-false}
use lib.Dec.{ltb, eqb}
use lib.ListN.{get_or}
use Rattle.packed.specs.declared.Part.{Part}
use Rattle.packed.specs.declared.Part.TheVariants.{Fresh, Minus, Closed, Open}
use Rattle.packed.specs.declared.Next.{Next}
use Rattle.packed.specs.declared.Next.TheVariants.{More, Ended}
use Rattle.packed.specs.declared.Text.{Text}
use Rattle.packed.specs.declared.Text.TheVariants.{Line, Row, Word, Last, End, Stop}
use Rattle.packed.specs.Machine.{after}
use Rattle.listing.specs.Number.{letters}
use Rattle.packed.specs.Text.{next, row_on, last_on, step, verdict}
use Rattle.packed.proofs.Cases.{by_test}
use Rattle.packed.proofs.Runs.{after_append}
use Rattle.packed.proofs.TextRead.{closed_ends, last_goes, one_more, open_ends, row_goes, separator_more}
use Rattle.packed.proofs.TextOnly.{Seen, past}

-- ---- an end for each state

-- an end of the listing; or the line feed of a row that is one too many
abbrev pub Fin : Text → Type 0
Fin s =
    ((m : List ℕ) × (verdict (after step s m) ≡ 0))
    ⊎ ((m : List ℕ) × (n : ℕ) × (p : Part) × (v : ℕ) × (after step s m ≡ Row n 0 p) × (next p 10 10 ≡ Ended v) × ¬ (n < 2147483648))

later : (s : Text) (m : List ℕ) → Fin (after step s m) → Fin s
later s m f = elim f [
  | inl x ↦ inl (m ++ x.0, ap verdict (after_append step s m x.0) ∙ x.1)
  | inr x ↦ inr (m ++ x.0, x.1, x.2, x.3, after_append step s m x.0 ∙ x.4, x.5, x.6)
]

-- what is missing of a number
abbrev missing : Part → List ℕ
missing Fresh = 48 ∷ []
missing Minus = 49 ∷ []
missing (Closed v) = []
missing (Open n) = []

module _ (at : Part → Text) (on : Next → Text) (s : ℕ)
    (steps : (p : Part) (b : ℕ) → step (at p) b ≡ on (next p s b))
    (stays : (p : Part) → on (More p) ≡ at p) where
  ended : (p : Part) → (q : Part) × (v : ℕ) × (after step (at p) (missing p) ≡ at q) × (next q s s ≡ Ended v)
  ended Fresh = (Closed 1, 1, steps Fresh 48 ∙ stays (Closed 1), closed_ends s 1)
  ended Minus = (Closed 0, 0, steps Minus 49 ∙ stays (Closed 0), closed_ends s 0)
  ended (Closed v) = (Closed v, v, refl, closed_ends s v)
  ended (Open n) = (Open n, n + 1, refl, open_ends s n)

-- "audio 0 0 0" and a line feed
fin_line : (n : ℕ) → Fin (Line n)
fin_line n = inl (97 ∷ 117 ∷ 100 ∷ 105 ∷ 111 ∷ 32 ∷ 48 ∷ 32 ∷ 48 ∷ 32 ∷ 48 ∷ 10 ∷ [], refl)

fin_row : (left n : ℕ) (p : Part) → Fin (Row n left p)
fin_row zero n p =
    let x = ended (Row n 0) (row_on n 0) 10 (λ q b. refl) (λ q. refl) p in
    later (Row n 0 p) (missing p) (rw x.2 (go x.0 x.1 x.3 (ltb n 2147483648) refl))
  where
    go : (q : Part) (v : ℕ) → next q 10 10 ≡ Ended v → (t : Bool) → ltb n 2147483648 ≡ t → Fin (Row n 0 q)
    go q v e true t =
        let k : step (Row n 0 q) 10 ≡ Line (n + 1) = ap (row_on n 0) e ∙ one_more {n = n} (ltb-true n 2147483648 t) in
        later (Row n 0 q) (10 ∷ []) (rw k (fin_line (n + 1)))
    go q v e false t = inr ([], n, q, v, refl, e, λ h. omega (arith, h, ltb-false n 2147483648 t))
fin_row (suc left) n p =
    let x = ended (Row n (suc left)) (row_on n (suc left)) 32 (λ q b. rw separator_more refl) (λ q. refl) p in
    let k : step (Row n (suc left) x.0) 32 ≡ Row n left Fresh = rw (separator_more left) (ap (row_on n (suc left)) x.3 ∙ row_goes n left x.1) in
    later (Row n (suc left) p) (missing p) (rw x.2 (later (Row n (suc left) x.0) (32 ∷ []) (rw k (fin_row left n Fresh))))

fin_last : (left n : ℕ) (p : Part) → Fin (Last n left p)
fin_last zero n p =
    let x = ended (Last n 0) (last_on n 0) 10 (λ q b. refl) (λ q. refl) p in
    let k : step (Last n 0 x.0) 10 ≡ End n = ap (last_on n 0) x.3 in
    later (Last n 0 p) (missing p) (rw x.2 (inl (10 ∷ [], ap verdict k)))
fin_last (suc left) n p =
    let x = ended (Last n (suc left)) (last_on n (suc left)) 32 (λ q b. rw separator_more refl) (λ q. refl) p in
    let k : step (Last n (suc left) x.0) 32 ≡ Last n left Fresh = rw (separator_more left) (ap (last_on n (suc left)) x.3 ∙ last_goes n left x.1) in
    later (Last n (suc left) p) (missing p) (rw x.2 (later (Last n (suc left) x.0) (32 ∷ []) (rw k (fin_last left n Fresh))))

fin_letter : (at n : ℕ) → (at < 13 → Fin (Word n (at + 1))) → Fin (Word n at)
fin_letter at n more =
    let x = get_or letters at 0 in
    later (Word n at) (x ∷ [])
    (rw (eq-eqb x x refl)
    (by_test Fin (eqb at 5) (λ _. fin_last 2 n Fresh)
    (λ _. by_test Fin (ltb at 13) (λ t. more (ltb-true at 13 t)) (λ _. fin_last 4 n Fresh))))

fin_word : (more at n : ℕ) → at + more ≡ 13 → Fin (Word n at)
fin_word zero at n h = fin_letter at n (λ l. absurd (omega (arith, h, l)))
fin_word (suc more) at n h = fin_letter at n (λ l. fin_word more (at + 1) n (omega (arith, h)))

pub fin : (s : Text) (bytes : List ℕ) → Seen s bytes → verdict s ≡ 43 → Fin s
fin (Line n) bytes w e = fin_line n
fin (Row n left p) bytes w e = fin_row left n p
fin (Word n at) bytes w e = fin_word (13 - at) at n (omega (arith, below w.1 w.3))
  where
    below : (k : Bool) → at < past k → at ≤ 13
    below false h = omega (arith, h)
    below true h = omega (arith, h)
fin (Last n left p) bytes w e = fin_last left n p
fin (End n) bytes w e = absurd (omega (arith, e))
fin (Stop n) bytes w e = absurd (w.stopped e)
