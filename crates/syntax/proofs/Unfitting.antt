-- A run writes the rows of the reading without limits until a check stops it, and a check of an item stops it with refusal 6 exactly where
-- this item would end past the frame: so its row is the next one of the reading. Assumes nothing.
use mathlib.Core.Bool.{Bool, true, false, ◌&&◌, not, cond}
use mathlib.Core.List.{List, [], ◌∷◌}
use mathlib.Core.Logic.{◌⊎◌, inl, inr}
use mathlib.Core.Path.{◌≡◌, refl, ap, sym, subst, ◌∙◌}
use Prim.Native.Nat.{ℕ, zero, suc, ◌+◌, ◌<◌}
use native.Mathlib.Omega.{arith}
use lib.Dec.{T, eqb, ltb}
use borrow.Author.Tests.{ltb-true, eqb-true, eqb-false}
use Rattle.bits.specs.Bits.{value}
use Rattle.syntax.specs.declared.Item.{Item}
use Rattle.syntax.specs.declared.Refusal.{Refusal}
use Rattle.syntax.specs.Refusals.{past, full, name, block, number}
use Rattle.syntax.specs.Grammar.{Grammar}
use Rattle.syntax.specs.Run.{Row, Spot, End, refused, Result, Check, clear, stop, room_check, check, row_check, walk_check, frame_check, sum, unless, run, ◌after◌, ended, beyond, within}
use Rattle.syntax.specs.Unlimited.{read}
use Rattle.syntax.specs.Unfitting.{Next, Neither, Unfitting, is_judged, Judges, j_done, j_refuse, j_field, j_free, j_span, j_walk, j_frame, j_here}

-- what is to be shown, of any run
record Tells {A : Type 0} (unlimited : List Row) (r : Result A) (x : Refusal) : Type 0 where
  pub next : number x ≡ 6 → Next unlimited r x
  pub others : ¬ (number x ≡ 6) → Neither (name x) (block x)

-- ---- checks

-- a check of an item that ends at bit `to` stops because it ends past the limit, or because no row is left
abbrev Says : Item → (limit to : ℕ) → Check → Type 0
Says i limit to clear = Unit {0}
Says i limit to (stop x bit) = ((x ≡ past i) × (limit < to)) ⊎ (x ≡ full)

module _ (i : Item) (limit left when_full : ℕ) where
  check_says : (ws : List ℕ) (at : ℕ) → Says i limit (at + sum ws) (check i limit left when_full ws at)
  unfolding check room_check sum
  check_says [] at = go left
    where
      go : (left : ℕ) → Says i limit (at + 0) (room_check left when_full)
      go zero = inr refl
      go (suc left) = tt
  check_says (w ∷ ws) at = go (ltb limit (at + w)) refl (check_says ws (at + w))
    where
      rest : Check
      rest = check i limit left when_full ws (at + w)

      go : (b : Bool) → ltb limit (at + w) ≡ b → Says i limit (at + w + sum ws) rest → Says i limit (at + (w + sum ws)) (cond b (stop (past i) at) rest)
      go true e later = inl (refl, omega (arith, ltb-true limit (at + w) e))
      go false e later =
          let regroup : at + w + sum ws ≡ at + (w + sum ws) = omega arith in
          subst (λ to. Says i limit to rest) regroup later

row_says : (i : Item) (p : Spot) (w : ℕ) → Says i p.limit (p.at + w) (row_check i p w)
unfolding sum
row_says i p w =
    let one : p.at + (w + 0) ≡ p.at + w = omega arith in
    subst (λ to. Says i p.limit to (row_check i p w)) one (check_says i p.limit p.left p.at (w ∷ []) p.at)

-- ---- runs

both : (a b : Bool) → T (a && b) → (a ≡ true) × (b ≡ true)
both true true t = (refl, refl)
both true false t = absurd t
both false b t = absurd t

not-false : (a : Bool) → not a ≡ true → a ≡ false
not-false true e = sym e
not-false false e = refl

module _ {A : Type 0} (x : Refusal) where
  judged_tells : (unlimited : List Row) (p : Spot) (y : Refusal) → T (is_judged y) → ◌≡◌ {A = End A} (refused y) (refused x) → Tells unlimited (ended {A = A} p (refused y)) x
  judged_tells unlimited p y t e =
      subst (Tells unlimited (ended {A = A} p (refused y))) same
      (record { next = λ six. absurd (other six); others = λ _. (eqb-true (name y) 0 nothing.0, eqb-true (block y) 255 nothing.1) })
    where
      same : y ≡ x
      same = cc

      two : (not (eqb (number y) 6) ≡ true) × ((eqb (name y) 0 && eqb (block y) 255) ≡ true)
      two = both (not (eqb (number y) 6)) (eqb (name y) 0 && eqb (block y) 255) t

      nothing : (eqb (name y) 0 ≡ true) × (eqb (block y) 255 ≡ true)
      nothing = both (eqb (name y) 0) (eqb (block y) 255) (subst T (sym two.1) tt)

      other : ¬ (number y ≡ 6)
      other = eqb-false (number y) 6 (not-false (eqb (number y) 6) two.0)

  row_tells : (c : Check) (p : Spot) (row : Row) (rest : List Row) (r : Result A) → Says row.item p.limit (row.at + row.width) c
      → (r.end ≡ refused x → Tells rest r x)
      → (unless c p (λ _. r after row ∷ [])).end ≡ refused x → Tells (row ∷ rest) (unless c p (λ _. r after row ∷ [])) x
  unfolding unless
  row_tells clear p row rest r says later e =
      let told = later e in
      record {
        next = λ six.
            let n = told.next six in
            record { row = n.row; later = n.later; goes_on = ap (λ rows. row ∷ rows) n.goes_on; past = n.past; name = n.name; block = n.block };
        others = told.others;
      }
  row_tells (stop y bit) p row rest r says later e = go says
    where
      same : y ≡ x
      same = cc

      go : ((y ≡ past row.item) × (p.limit < row.at + row.width)) ⊎ (y ≡ full) → Tells (row ∷ rest) (unless (stop y bit) p (λ _. r after row ∷ [])) x
      go (inl (is, far)) =
          let at_row : x ≡ past row.item = sym same ∙ is in
          record {
            next = λ six. record { row = row; later = rest; goes_on = refl; past = far; name = ap (λ z. name z) at_row; block = ap (λ z. block z) at_row };
            others = λ other. absurd (other (ap (λ z. (number z)) at_row));
          }
      go (inr is) =
          let no_room : x ≡ full = sym same ∙ is in
          record {
            next = λ six. let z : number x ≡ 7 = ap (λ z. (number z)) no_room in absurd (omega arith);
            others = λ _. (ap (λ z. name z) no_room, ap (λ z. block z) no_room);
          }

  frame_tells : (p : Spot) (y : Refusal) (n : ℕ) (unlimited : List Row) (r : Result A) → T (is_judged y) → (r.end ≡ refused x → Tells unlimited r x)
      → (unless (frame_check p y n) p (λ _. r)).end ≡ refused x → Tells unlimited (unless (frame_check p y n) p (λ _. r)) x
  unfolding unless
  frame_tells p y n unlimited r t later e = go (ltb p.size n) e
    where
      go : (b : Bool) → (unless (cond b (stop y p.at) clear) p (λ _. r)).end ≡ refused x → Tells unlimited (unless (cond b (stop y p.at) clear) p (λ _. r)) x
      go true e = judged_tells unlimited _ y t e
      go false e = later e

  run_tells : {g : Grammar A} → Judges g → (s : List ℕ) (p : Spot) → (run g s p).end ≡ refused x → Tells (read g s p.at).rows (run g s p) x
  unfolding run read
  run_tells j_done s p e = let z : ◌≡◌ {A = ℕ} 0 1 = cc in absurd (omega arith)
  run_tells (j_refuse {x = y} t) s p e = judged_tells [] p y t e
  run_tells (j_field {i = i} {w = w} k) s p e = row_tells (row_check i p w) p _ _ _ (row_says i p w) (run_tells (k (value s p.at w)) s (beyond w p)) e
  run_tells (j_free {i = i} {w = w} k) s p e = row_tells (row_check i p w) p _ _ _ (row_says i p w) (run_tells k s (beyond w p)) e
  run_tells (j_span {i = i} {w = w} k) s p e = row_tells (row_check i p w) p _ _ _ (row_says i p w) (run_tells k s (beyond w p)) e
  run_tells (j_walk {i = i} {ws = ws} k) s p e =
      row_tells (walk_check i p ws) p _ _ _ (check_says i p.limit p.left (p.at + sum ws) ws p.at) (run_tells k s (beyond (sum ws) p)) e
  run_tells (j_frame {x = y} {n = n} t k) s p e = frame_tells p y n _ _ t (run_tells k s (within n p)) e
  run_tells (j_here k) s p e = run_tells (k p.at) s p e

pub unfitting : {A : Type 0} {g : Grammar A} → Judges g → Unfitting g
unfitting {g = g} judges =
    record {
      next = λ s room x e. (run_tells x judges s _ e).next;
      others = λ s room x e. (run_tells x judges s _ e).others;
    }
