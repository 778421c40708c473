-- What is done with the bytes that a reading tells. No part of the definition.
use mathlib.Core.Path.{refl, sym, ◌∙◌}
use native.Mathlib.Omega.{arith}
use lib.ListN.{length-append}
use lib.Seq.{length-sets}
use Rattle.listing.proofs.Left.{sets_append}
use Rattle.std.specs.Prelude.{◌≡◌, List, [], ◌++◌, ℕ, ◌+◌, ◌≤◌, min, length}
use Rattle.std.proofs.lemmas.List.Edits.{sets}
use Rattle.packed.specs.Machine.{after, told}

-- one run of bytes and then another are told as the two together
pub record TellerLaws (room : List ℕ → ℕ → List ℕ → Type 0) (tells : List ℕ → ℕ → List ℕ → List ℕ → ℕ → Type 0) : Type 0 where
  pub nothing : (out : List ℕ) (n : ℕ) → room out n [] → tells out n [] out n
  pub first : (out : List ℕ) (n : ℕ) (a b : List ℕ) → room out n (a ++ b) → room out n a
  pub second : (out : List ℕ) (n : ℕ) (a b out' : List ℕ) (n' : ℕ) → room out n (a ++ b) → tells out n a out' n' → room out' n' b
  pub both : (out : List ℕ) (n : ℕ) (a out' : List ℕ) (n' : ℕ) (b out'' : List ℕ) (n'' : ℕ) → room out n (a ++ b) → tells out n a out' n' → tells out' n' b out'' n'' → tells out n (a ++ b) out'' n''

-- counted to one past the length of the output, which stays
abbrev pub CountRoom : List ℕ → ℕ → List ℕ → Type 0
CountRoom out n bytes = n ≤ length out + 1

abbrev pub Counts : List ℕ → ℕ → List ℕ → List ℕ → ℕ → Type 0
Counts out n bytes out' n' = (out' ≡ out) × (n' ≡ min (n + length bytes) (length out + 1))

-- written from a place of the output on
abbrev pub WriteRoom : List ℕ → ℕ → List ℕ → Type 0
WriteRoom out n bytes = n + length bytes ≤ length out

abbrev pub Writes : List ℕ → ℕ → List ℕ → List ℕ → ℕ → Type 0
Writes out n bytes out' n' = (n' ≡ n + length bytes) × (out' ≡ sets out n bytes)

-- from the state s, with the bytes xs ahead, the reading goes to the state s' with ys ahead, and what it tells on the way is told
pub record Reads {S : Type 0} (step : S → ℕ → S) (tell : S → ℕ → List ℕ) (tells : List ℕ → ℕ → List ℕ → List ℕ → ℕ → Type 0)
    (s : S) (xs out : List ℕ) (n : ℕ) (s' : S) (ys out' : List ℕ) (n' : ℕ) : Type 0 where
  pub between : List ℕ
  pub state : after step s xs ≡ after step s' ys
  pub rest : told step tell s xs ≡ between ++ told step tell s' ys
  pub done : tells out n between out' n'

-- ---- both keep the laws

pub counting : TellerLaws CountRoom Counts
counting = record {
  nothing = λ out n h. (refl, omega arith);
  first = λ out n a b h. h;
  second = λ out n a b out' n' h t. rw t.0 (omega (arith, t.1));
  both = λ out n a out' n' b out'' n'' h t u. (u.0 ∙ t.0, omega (arith, rw t.0 at u.1, t.1, length-append a b));
}

pub writing : TellerLaws WriteRoom Writes
writing = record {
  nothing = λ out n h. (omega arith, refl);
  first = λ out n a b h. omega (arith, h, length-append a b);
  second = λ out n a b out' n' h t. rw (t.0, t.1, length-sets) (omega (arith, h, length-append a b));
  both = λ out n a out' n' b out'' n'' h t u. (omega (arith, t.0, u.0, length-append a b), u.1 ∙ rw (t.0, t.1) (sym (sets_append out n a b)));
}
