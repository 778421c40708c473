-- A pass over the bytes of an input, for any machine and whatever is done with what it tells. Assumes nothing.
use mathlib.Core.Path.{◌≡◌, refl, ap, sym, ◌∙◌}
use mathlib.Core.List.{List, [], ◌++◌, append_assoc, append-nil}
use Prim.Native.Nat.{ℕ, ◌+◌, ◌<◌}
use native.Mathlib.Numerals.{add-one}
use native.Mathlib.Omega.{arith}
use lib.ListN.{length, drop, get_or}
use lib.Seq.{drop-cons}
use Rattle.packed.specs.Machine.{after, told}
use Rattle.packed.specs.Moves.{Moves}
use Rattle.packed.specs.Tellers.{Reads, TellerLaws}

-- one byte
module _ {S : Type 0} (step : S → ℕ → S) (tell : S → ℕ → List ℕ) (bytes : List ℕ) where
  pub after_drop : (s : S) (i : ℕ) → i < length bytes → after step s (drop i bytes) ≡ after step (step s (get_or bytes i 0)) (drop (i + 1) bytes)
  after_drop s i h = rw (add-one, drop-cons bytes i 0 h)

  pub told_drop :
      (s : S) (i : ℕ)
      → i < length bytes
      → told step tell s (drop i bytes) ≡ tell s (get_or bytes i 0) ++ told step tell (step s (get_or bytes i 0)) (drop (i + 1) bytes)
  told_drop s i h = rw (add-one, drop-cons bytes i 0 h)

  pub one_byte : (s : S) (i : ℕ) → i < length bytes → Moves step tell bytes s i (tell s (get_or bytes i 0)) (step s (get_or bytes i 0)) (i + 1)
  one_byte s i h = record { forward = omega arith; within = omega arith; state = after_drop s i h; tells = told_drop s i h }

module _ {S : Type 0} (step : S → ℕ → S) (tell : S → ℕ → List ℕ) {room : List ℕ → ℕ → List ℕ → Type 0} {tells : List ℕ → ℕ → List ℕ → List ℕ → ℕ → Type 0}
    (laws : TellerLaws room tells) where
  pub begins : (s : S) (xs out : List ℕ) (n : ℕ) → room out n (told step tell s xs) → Reads step tell tells s xs out n s xs out n
  begins s xs out n r = record { between = []; state = refl; rest = refl; done = laws.nothing out n (laws.first out n [] (told step tell s xs) r) }

  module _ {s s' : S} {xs ys out out' : List ℕ} {n n' : ℕ} (r : room out n (told step tell s xs)) (a : Reads step tell tells s xs out n s' ys out' n') where
    -- what is left has room
    pub room_left : room out' n' (told step tell s' ys)
    room_left = laws.second out n a.between (told step tell s' ys) out' n' (rw a.rest at r) a.done

    pub room_for : {bytes : List ℕ} {i : ℕ} {e : List ℕ} {s'' : S} {i'' : ℕ} → ys ≡ drop i bytes → Moves step tell bytes s' i e s'' i'' → room out' n' e
    room_for {bytes} {i} {e} {s''} {i''} p m = laws.first out' n' e (told step tell s'' (drop i'' bytes)) (rw (p, m.tells) at room_left)

    -- a run of bytes more
    pub joined : {s'' : S} {zs out'' : List ℕ} {n'' : ℕ} → Reads step tell tells s' ys out' n' s'' zs out'' n'' → Reads step tell tells s xs out n s'' zs out'' n''
    joined {s''} {zs} {out''} {n''} b =
        let all : told step tell s xs ≡ (a.between ++ b.between) ++ told step tell s'' zs =
        a.rest ∙ ap (λ (x : List ℕ). a.between ++ x) b.rest ∙ sym (append_assoc a.between b.between (told step tell s'' zs))
        in
        record {
          between = a.between ++ b.between;
          state = a.state ∙ b.state;
          rest = all;
          done = laws.both out n a.between out' n' b.between out'' n'' (laws.first out n (a.between ++ b.between) (told step tell s'' zs) (rw all at r)) a.done b.done;
        }

    -- nothing is left
    pub ended : ys ≡ [] → (s' ≡ after step s xs) × tells out n (told step tell s xs) out' n'
    ended p =
        let e : told step tell s xs ≡ a.between = a.rest ∙ rw p (append-nil a.between) in
        (sym (a.state ∙ rw p refl), rw e a.done)

  pub moved : {bytes : List ℕ} {s s' : S} {i i' : ℕ} {e out out' : List ℕ} {n n' : ℕ} → Moves step tell bytes s i e s' i' → tells out n e out' n' → Reads step tell tells s (drop i bytes) out n s' (drop i' bytes) out' n'
  moved {e = e} m t = record { between = e; state = m.state; rest = m.tells; done = t }
