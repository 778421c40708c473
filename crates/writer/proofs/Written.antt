-- Bytes written one after the other are written as one list; what lies past the run's end is written nowhere. Assumes nothing.
use mathlib.Core.List.{List, [], ◌∷◌, ◌++◌, append_assoc}
use mathlib.Core.Path.{◌≡◌, refl, sym, ap, ◌∙◌}
use Prim.Native.Nat.{ℕ, suc, ◌+◌, ◌-◌, ◌≤◌, ◌<◌, min}
use native.Mathlib.Decide.{dec_le}
use native.Mathlib.Nat.{add-zero}
use native.Mathlib.Numerals.{add-one}
use borrow.Rule.Slice.PartMut.{put_mid, post_of, Post-is}
use native.Mathlib.Omega.{arith}
use lib.ListN.{length, take, drop, get_or, set, length-set, take-append-drop, drop_of_length-le}
use Rattle.naturals.proofs.Stored.{sets_append}
use lib.Seq.{sets, sets-eq, length-sets, set_out, take-suc, length-take-le}

module _ {A : Type 0} where
  sets_out : (vs l : List A) (i : ℕ) → length l ≤ i → sets l i vs ≡ l
  sets_out [] l i h = refl
  sets_out (v ∷ vs) l i h = sets_out vs (set l i v) (suc i) (omega (arith, length-set l i v)) ∙ set_out l i v h

  -- in front of a run, the rest of which is as it was
  pub in_front_lem : (xs run : List A) → length xs ≤ length run → sets run 0 xs ≡ xs ++ drop (length xs) run
  in_front_lem xs run h = sets-eq xs run 0 (omega arith) ∙ rw zero_plus
    where
      zero_plus : 0 + length xs ≡ length xs
      zero_plus = omega arith

  module _ (vs run : List A) (at : ℕ) where
    -- one more
    pub store : (i : ℕ) (d : A) → i < length vs → set (sets run at (take i vs)) (at + i) (get_or vs i d) ≡ sets run at (take (i + 1) vs)
    store i d h =
        let place : at + i ≡ at + length (take i vs) = omega (arith, length-take-le i vs (omega arith)) in
        ap (λ k. sets (sets run at (take i vs)) k (get_or vs i d ∷ [])) place
        ∙ sym (sets_append (take i vs) (get_or vs i d ∷ []) run at (at + length (take i vs)) refl)
        ∙ ap (sets run at) (sym (take-suc vs i d h))
        ∙ rw add-one

    -- all that fit are all
    pub whole : (n : ℕ) → n ≡ min (length vs) (length run - at) → sets run at (take n vs) ≡ sets run at vs
    whole n e = sym (ap (sets run at) (sym (take-append-drop n vs)) ∙ sets_append (take n vs) (drop n vs) run at (at + length (take n vs)) refl ∙ rest (dec_le (length vs) n))
      where
        before : List A
        before = sets run at (take n vs)

        long : length before ≡ length run
        long = length-sets run at (take n vs)

        rest : Dec (length vs ≤ n) → sets before (at + length (take n vs)) (drop n vs) ≡ before
        rest (Dec.yes h) = ap (sets before (at + length (take n vs))) (drop_of_length-le vs {i = n} h)
        rest (Dec.no h) = sets_out (drop n vs) before (at + length (take n vs)) (omega (arith, long, length-take-le n vs (omega arith)))

    -- what those that fit leave, written to where they fit, as the code does it
    pub part : (ys : List A) (start n : ℕ) → start ≡ min at (length run) → n ≡ min (length vs) (length run - at) → ys ≡ take n vs
        → put_mid start (start + n - start) run ys ≡ sets run at vs
    part ys start n s e y =
        ap (λ zs. take start run ++ (zs ++ post_of start (start + n - start) run)) y
        ∙ ap (λ zs. take start run ++ (take n vs ++ zs)) (Post-is start (start + n) run (omega arith)) ∙ by (dec_le at (length run)) ∙ whole n e
      where
        fits : length (take n vs) ≡ n
        fits = length-take-le n vs (omega (arith, e))

        by : Dec (at ≤ length run) → take start run ++ (take n vs ++ drop (start + n) run) ≡ sets run at (take n vs)
        by (Dec.yes h) =
            let here : start ≡ at = omega arith in
            rw here (ap (λ m. take at run ++ (take n vs ++ drop (at + m) run)) (sym fits) ∙ sym (append_assoc (take at run) (take n vs) _) ∙ sym (sets-eq (take n vs) run at (omega (arith, fits))))
        by (Dec.no h) =
            let none : n ≡ 0 = omega arith in
            let end : start ≡ length run = omega arith in
            rw (none, end, add-zero) (take-append-drop (length run) run)
