-- A whole number of a packed listing at once, and a row's: the reader goes over its groups byte by byte. Assumes nothing.
use mathlib.Core.Path.{◌≡◌, refl, ap, ◌∙◌}
use mathlib.Core.Bool.{Bool, true, false, cond}
use mathlib.Core.List.{List, [], ◌∷◌, ◌++◌}
use Prim.Native.Nat.{ℕ, ◌+◌, ◌-◌, ◌*◌, ◌%◌, ◌≤◌, ◌<◌, min}
use native.Mathlib.Omega.{arith}
use borrow.Author.Tests.{le-leb, le-ltb, lt-ltb, ne_eqb}
use lib.Dec.{eqb}
use lib.ListN.{length, drop, get_or}
use Rattle.packed.specs.declared.Group.{Group}
use Rattle.packed.specs.declared.Group.TheVariants.{Going, Whole}
use Rattle.packed.specs.declared.Place.{Place}
use Rattle.packed.specs.declared.Place.TheVariants.{Cell}
use Rattle.packed.specs.declared.Packed.TheVariants.{At}
use Rattle.packed.specs.declared.Spelt.{Spelt}
use Rattle.packed.specs.Machine.{after, told}
use Rattle.packed.specs.Moves.{Moves, StoredAt, left_after, rows_left, spot}
use Rattle.listing.specs.Number.{signed, separator}
use Rattle.packed.specs.Packed.{group, grouping, rows_on, spoken, step, tell, weight}
use Rattle.packed.proofs.Passes.{one_byte}

-- ---- one group

pub group_goes : (n k b : ℕ) {m : ℕ} → m ≡ n + b % 128 * weight k → m ≤ 2147483648 → 128 ≤ b → group n k b ≡ Going m (min (k + 1) 5)
group_goes n k b e h l = rw e (simp (le-leb (n + b % 128 * weight k) 2147483648 (rw e at h), le-ltb b 128 l))

pub group_whole : (n k b : ℕ) {m : ℕ} → m ≡ n + b % 128 * weight k → m ≤ 2147483648 → ¬ (b ≡ 0) → b < 128 → group n k b ≡ Whole m
group_whole n k b e h z l = rw e (simp (le-leb (n + b % 128 * weight k) 2147483648 (rw e at h), lt-ltb b 128 l, ne_eqb b 0 z))

-- ---- the groups so far

module _ (l : List ℕ) (at : ℕ) where
  pub record Running (n k i : ℕ) : Type 0 where
    pub from : at ≤ i
    pub state : (p : Place) → after step (At p 0 0) (drop at l) ≡ after step (At p n k) (drop i l)
    pub tells : (p : Place) → told step tell (At p 0 0) (drop at l) ≡ told step tell (At p n k) (drop i l)
    pub fits : n ≤ 2147483648

  pub running_none : Running 0 0 at
  running_none = record { from = omega arith; state = λ p. refl; tells = λ p. refl; fits = omega arith }

  pub running_more : {n k i m j : ℕ} → Running n k i → i < length l → group n k (get_or l i 0) ≡ Going m j → m ≤ 2147483648 → Running m j (i + 1)
  running_more {n} {k} {i} r h g f =
      record {
        from = omega (arith, r.from);
        state = λ p. r.state p ∙ (one_byte step tell l (At p n k) i h).state ∙ ap (λ (x : Group). after step (grouping p x) (drop (i + 1) l)) g;
        tells = λ p. r.tells p ∙ (one_byte step tell l (At p n k) i h).tells ∙ ap (λ (x : Group). spoken p x ++ told step tell (grouping p x) (drop (i + 1) l)) g;
        fits = f;
      }

  pub running_ends : {n k i v : ℕ} → Running n k i → i < length l → group n k (get_or l i 0) ≡ Whole v → StoredAt l at (record { stored = v; end = i + 1 })
  running_ends {n} {k} {i} r h g p =
      record {
        forward = omega (arith, r.from);
        within = omega arith;
        state = r.state p ∙ (one_byte step tell l (At p n k) i h).state ∙ ap (λ (x : Group). after step (grouping p x) (drop (i + 1) l)) g;
        tells = r.tells p ∙ (one_byte step tell l (At p n k) i h).tells ∙ ap (λ (x : Group). spoken p x ++ told step tell (grouping p x) (drop (i + 1) l)) g;
      }

-- ---- a row's number

pub spot_moves :
    (l : List ℕ) (more left i : ℕ) (r : Spelt)
    → 0 < more
    → StoredAt l i r
    → Moves step tell l (spot more left) i (signed r.stored ++ (separator left ∷ [])) (spot (rows_left more left) (left_after left)) r.end
spot_moves l more left i r m f =
    let e : spot more left ≡ At (Cell (more - 1) left) 0 0 = simp (ne_eqb more 0 (omega arith)) in
    rw e (rw (go (eqb left 0)) at (f (Cell (more - 1) left)))
  where
    go : (t : Bool) → cond t (rows_on (more - 1)) (At (Cell (more - 1) (left - 1)) 0 0) ≡ spot (cond t (more - 1) more) (cond t 8 (left - 1))
    go true = refl
    go false = simp (ne_eqb more 0 (omega arith))

-- before the last number of the row
pub spot_spaced :
    (l : List ℕ) (more left i : ℕ) (r : Spelt)
    → 0 < more
    → 0 < left
    → StoredAt l i r
    → Moves step tell l (spot more left) i (signed r.stored ++ (separator left ∷ [])) (spot more (left - 1)) r.end
spot_spaced l more left i r m z f =
    let e : spot (rows_left more left) (left_after left) ≡ spot more (left - 1) = simp (ne_eqb left 0 (omega arith)) in
    rw e at (spot_moves l more left i r m f)
