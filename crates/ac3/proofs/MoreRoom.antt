-- How much room is left is asked for only where a row is written, and there only whether there is any: so a run that did not end for want
-- of room does the same with more of it. Assumes nothing.
use mathlib.Core.Bool.{Bool, true, false, cond}
use mathlib.Core.List.{List, [], ◌∷◌}
use mathlib.Core.Path.{◌≡◌, refl, ap, sym, ◌∙◌}
use Prim.Native.Nat.{ℕ, zero, suc, ◌+◌, ◌-◌, ◌<◌, ◌≤◌}
use native.Mathlib.Omega.{arith}
use lib.Dec.{ltb}
use lib.IntN.{ℤ}
use lib.ListN.{length}
use Rattle.bits.specs.Bits.{value}
use Rattle.syntax.specs.declared.Item.{Item}
use Rattle.syntax.specs.Grammar.{Grammar, done, refuse, field, free, span, walk, frame, here}
use Rattle.syntax.specs.Place.{Place, flatten, finish}
use Rattle.syntax.specs.Refusals.{past, full, number}
use Rattle.syntax.specs.Run.{Row, Spot, End, reached, refused, Result, Check, clear, stop, room_check, check, row_check, walk_check, frame_check, sum, unless, run, start, parse, ◌after◌, beyond, within}
use Rattle.syntax.proofs.Checks.{room_some, clear_room}
use Rattle.ac3.specs.Frame.{Audio, syncframe, answered}
use Rattle.ac3.specs.MoreRoom.{SameList, SameAnswer, MoreRoom}
use Rattle.ac3.specs.Promise.{Call, input, room_for, with_room, answer_to}
use Rattle.ac3.specs.RowBound.{most_rows}
use Rattle.ac3.proofs.Promise.{result, landed, answer_is}
use Rattle.ac3.proofs.Rooms.{rows_are, same_answer_lem}
use Rattle.ac3.proofs.RowBound.{row_bound}

-- a check that stops for want of room
abbrev Full : Check → Type 0
Full clear = ⊥
Full (stop x bit) = x ≡ full

module _ (k : ℕ) where
  check_more : (i : Item) (limit left when_full : ℕ) (ws : List ℕ) (at : ℕ)
      → ¬ Full (check i limit left when_full ws at) → check i limit (left + k) when_full ws at ≡ check i limit left when_full ws at
  unfolding check room_check
  check_more i limit zero when_full [] at h = absurd (h refl)
  check_more i limit (suc left) when_full [] at h = room_some (suc left + k) when_full (omega arith)
  check_more i limit left when_full (w ∷ ws) at h = go (ltb limit (at + w)) (check_more i limit left when_full ws (at + w)) h
    where
      go : (b : Bool) → (¬ Full (check i limit left when_full ws (at + w)) → check i limit (left + k) when_full ws (at + w) ≡ check i limit left when_full ws (at + w))
          → ¬ Full (cond b (stop (past i) at) (check i limit left when_full ws (at + w)))
          → cond b (stop (past i) at) (check i limit (left + k) when_full ws (at + w)) ≡ cond b (stop (past i) at) (check i limit left when_full ws (at + w))
      go true later h = refl
      go false later h = later h

  -- with room for k rows more
  abbrev pub roomier : Spot → Spot
  roomier p = record { size = p.size; limit = p.limit; at = p.at; left = p.left + k }

  beyond_roomier : (w : ℕ) (p : Spot) → 0 < p.left → beyond w (roomier p) ≡ roomier (beyond w p)
  beyond_roomier w p h = λ i. record { size = p.size; limit = p.limit; at = p.at + w; left = one_less i }
    where
      one_less : p.left + k - 1 ≡ p.left - 1 + k
      one_less = omega arith

  module _ {A : Type 0} where
    abbrev pub more : Result A → Result A
    more r = record { rows = r.rows; spot = roomier r.spot; end = r.end }

    module _ (c d : Check) (p : Spot) (same : ¬ Full c → d ≡ c) where
      more_unless : (r r' : Result A) → (c ≡ clear → ¬ (r.end ≡ refused full) → r' ≡ more r)
          → ¬ ((unless c p (λ _. r)).end ≡ refused full) → unless d (roomier p) (λ _. r') ≡ more (unless c p (λ _. r))
      unfolding unless
      more_unless r r' later h = go c same later h
        where
          go : (c : Check) → (¬ Full c → d ≡ c) → (c ≡ clear → ¬ (r.end ≡ refused full) → r' ≡ more r)
              → ¬ ((unless c p (λ _. r)).end ≡ refused full) → unless d (roomier p) (λ _. r') ≡ more (unless c p (λ _. r))
          go clear same later h = rw (same (λ z. z)) (later refl h)
          go (stop x bit) same later h = rw (same (λ is. h (ap refused is)))

      more_row : (x : Row) (r r' : Result A) → (c ≡ clear → ¬ (r.end ≡ refused full) → r' ≡ more r)
          → ¬ ((unless c p (λ _. r after x ∷ [])).end ≡ refused full) → unless d (roomier p) (λ _. r' after x ∷ []) ≡ more (unless c p (λ _. r after x ∷ []))
      more_row x r r' later = more_unless (r after x ∷ []) (r' after x ∷ []) (λ e h. ap (λ q. q after x ∷ []) (later e h))

    module _ (s : List ℕ) where
      pub run_more : (g : Grammar A) (p : Spot) → ¬ ((run g s p).end ≡ refused full) → run g s (roomier p) ≡ more (run g s p)
      unfolding run
      run_more (done a) p h = refl
      run_more (refuse x) p h = refl
      run_more (field i w k) p h =
          let v = value s p.at w in
          more_row (row_check i p w) (row_check i (roomier p) w) p (check_more i _ _ _ _ _) _ _ _
          (λ e ok. ap (run (k v) s) (beyond_roomier w p (clear_room _ _ _ _ _ _ e)) ∙ run_more (k v) (beyond w p) ok) h
      run_more (free i w k) p h =
          more_row (row_check i p w) (row_check i (roomier p) w) p (check_more i _ _ _ _ _) _ _ _
          (λ e ok. ap (run k s) (beyond_roomier w p (clear_room _ _ _ _ _ _ e)) ∙ run_more k (beyond w p) ok) h
      run_more (span i w k) p h =
          more_row (row_check i p w) (row_check i (roomier p) w) p (check_more i _ _ _ _ _) _ _ _
          (λ e ok. ap (run k s) (beyond_roomier w p (clear_room _ _ _ _ _ _ e)) ∙ run_more k (beyond w p) ok) h
      run_more (walk i ws k) p h =
          more_row (walk_check i p ws) (walk_check i (roomier p) ws) p (check_more i _ _ _ _ _) _ _ _
          (λ e ok. ap (run k s) (beyond_roomier (sum ws) p (clear_room _ _ _ _ _ _ e)) ∙ run_more k (beyond (sum ws) p) ok) h
      run_more (frame x n k) p h = more_unless (frame_check p x n) (frame_check p x n) p (λ _. refl) _ _ (λ _ ok. run_more k (within n p) ok) h
      run_more (here k) p h = run_more (k p.at) p h

-- ---- of AC-3

same_list : (s : List ℕ) (m n : ℕ) → m ≤ n → ¬ ((parse syncframe s m).end ≡ refused full) → SameList (parse syncframe s n) (parse syncframe s m)
same_list s m n le h =
    let grown : m + (n - m) ≡ n = omega arith in
    let same : parse syncframe s n ≡ more (n - m) (parse syncframe s m) = ap (parse syncframe s) (sym grown) ∙ run_more (n - m) s syncframe (start (length s) m) h in
    record { rows = ap (λ r. r.rows) same; bit = ap (λ r. r.spot.at) same; end = ap (λ r. r.end) same }

-- calls with one list have one answer
answers_of : (c d : Call) → SameList (result d) (result c) → SameAnswer d c
answers_of c d same =
    record {
      answer = ap (λ x. x.0) (answer_is d)
          ∙ same_answer_lem (result d).end (landed (result d) d.room) (landed (result c) c.room) (ap length same.rows) same.bit
          ∙ ap (λ e. (answered (finish e (landed (result c) c.room))).0) same.end
          ∙ ap (λ x. x.0) (sym (answer_is c));
      list = same.rows;
      rows = rows_are d ∙ ap flatten same.rows ∙ sym (rows_are c);
    }

seven_told : (e : End Audio) (q : Place) → e ≡ refused full → (answered (finish e q)).0.refusal ≡ 7
unfolding answered finish
seven_told (reached a) q is = let z : ◌≡◌ {A = ℕ} 0 1 = cc in absurd (omega arith)
seven_told (refused x) q is = let same : x ≡ full = cc in ap (λ y. (number y)) same

seven : (c : Call) → (result c).end ≡ refused full → (answer_to c).0.refusal ≡ 7
seven c is = ap (λ x. x.0.refusal) (answer_is c) ∙ seven_told (result c).end (landed (result c) c.room) is

more_answers : (c : Call) (room : List ℤ) → room_for c ≤ room_for (with_room room c) → ¬ ((answer_to c).0.refusal ≡ 7) → SameAnswer (with_room room c) c
more_answers c room le h = answers_of c (with_room room c) (same_list (input c) (room_for c) (room_for (with_room room c)) le (λ is. h (seven c is)))

reversed : {a b : Result Audio} → SameList a b → SameList b a
reversed same = record { rows = sym same.rows; bit = sym same.bit; end = sym same.end }

joined : {a b c : Result Audio} → SameList a b → SameList b c → SameList a c
joined p q = record { rows = p.rows ∙ q.rows; bit = p.bit ∙ q.bit; end = p.end ∙ q.end }

pub more_room : MoreRoom
more_room =
    record {
      lists = same_list;
      answers = more_answers;
      enough = λ c room one two.
          let d = with_room room c in
          let at_most : ¬ ((parse syncframe (input c) most_rows).end ≡ refused full) = λ is. row_bound.never_full (input c) most_rows (omega arith) full is refl in
          answers_of c d (joined (same_list (input c) most_rows (room_for d) two at_most) (reversed (same_list (input c) most_rows (room_for c) one at_most)));
    }
