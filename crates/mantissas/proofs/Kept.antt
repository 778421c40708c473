-- What is kept of a slot: where it was counted from the same, it is what would be counted. Assumes nothing.
use mathlib.Core.Bool.{Bool, true, false, true≢false}
use mathlib.Core.List.{List, []}
use mathlib.Core.Logic.{◌⊎◌, inl, inr, ⊎_elim}
use mathlib.Core.Path.{◌≡◌, refl, ap, sym, ◌∙◌}
use Prim.Native.Nat.{ℕ, zero, suc, ◌+◌, ◌≤◌, ◌<◌, zero-le}
use native.Mathlib.Nat.{not-suc-le-zero, le_of_suc-le-suc}
use native.Mathlib.Omega.{arith}
use lib.Dec.{eqb}
use lib.IntN.{ℤ}
use lib.ListN.{length, length-set, get_or, set, replicate}
use lib.Seq.{get_or-set_same, get_or-set_other}
use borrow.Author.Tests.{eqb-true, eqb-false}
use Rattle.tables.specs.Tables.{bap}
use Rattle.alloc.proofs.Laws.{allocation_none, allocation_unsegmented}
use Rattle.slots.specs.Slots.{is_new}
use Rattle.slots.specs.declared.AllocState.{AllocState}
use Rattle.slots.specs.declared.Strategies.{Strategies}
use Rattle.mantissas.specs.Counts.{no_counts, counted_all}
use Rattle.mantissas.specs.Kept.{memo_of, parameters_by, pointers_by, counts_in, SameBasis, KeptOf, Kept, nothing, KeptUnlessNew}
use Rattle.mantissas.specs.Mantissas.{deltas_of, parameters_of, pointers}
use Rattle.slots.specs.Reused.{strategy_of, Keeps, ReusedBy}
use Rattle.mantissas.specs.declared.Counts.{Counts}
use Rattle.mantissas.specs.declared.Part.{Part}

-- without delta segments, the pointers go by the memo
by_memo : (fscod : ℕ) (st : AllocState) (exps : List (List ℤ)) (p : Part) (n : Counts) → (deltas_of st p.slot).count ≡ 0
    → pointers fscod st exps p ≡ pointers_by fscod p.slot (λ i. get_or (memo_of st p n) i 0) (get_or exps p.slot [])
unfolding pointers
by_memo fscod st exps p n e = allocation_unsegmented bap (get_or exps p.slot []) (parameters_of fscod st p) e

-- what goes by the same has the same pointers
by_same : (fscod slot : ℕ) (k l : ℕ → ℕ) (row : List ℤ) → ((i : ℕ) → i < 12 → k i ≡ l i) → pointers_by fscod slot k row ≡ pointers_by fscod slot l row
by_same fscod slot k l row same =
    rw (
      same 0 (omega arith),
      same 1 (omega arith),
      same 2 (omega arith),
      same 3 (omega arith),
      same 4 (omega arith),
      same 5 (omega arith),
      same 6 (omega arith),
      same 7 (omega arith),
      same 8 (omega arith),
      same 9 (omega arith),
      same 10 (omega arith),
      same 11 (omega arith),
    )

module _ (fscod : ℕ) (st : AllocState) (exps : List (List ℤ)) (p : Part) (none : (deltas_of st p.slot).count ≡ 0) where
  pub kept_counts : (kept : List ℕ) → KeptOf fscod p.slot kept (get_or exps p.slot []) → SameBasis kept (memo_of st p no_counts)
      → counts_in kept ≡ counted_all no_counts (pointers fscod st exps p)
  kept_counts kept h basis =
      h ∙ ap (counted_all no_counts)
      (by_same fscod p.slot (λ i. get_or kept i 0) (λ i. get_or (memo_of st p no_counts) i 0) (get_or exps p.slot []) basis
      ∙ sym (by_memo fscod st exps p no_counts none))

  pub kept_new : (n : Counts) → n ≡ counted_all no_counts (pointers fscod st exps p) → KeptOf fscod p.slot (memo_of st p n) (get_or exps p.slot [])
  kept_new n e = e ∙ ap (counted_all no_counts) (by_memo fscod st exps p n none)

-- what is kept of one slot leaves that of the others
pub keeps : (fscod slot : ℕ) (memos : List (List ℕ)) (exps : List (List ℤ)) (memo : List ℕ) → slot < 7
    → Kept fscod memos exps → KeptOf fscod slot memo (get_or exps slot []) → Kept fscod (set memos slot memo) exps
keeps fscod slot memos exps memo p all here = record { seven = length-set memos slot memo ∙ all.seven; each = λ other h. go other h (eqb other slot) refl }
  where
    go : (other : ℕ) → other < 7 → (b : Bool) → eqb other slot ≡ b → KeptOf fscod other (get_or (set memos slot memo) other []) (get_or exps other [])
    go other h true e = rw (eqb-true other slot e, get_or-set_same memos slot memo [] (rw all.seven p)) here
    go other h false e = rw (get_or-set_other memos slot other memo [] (eqb-false other slot e)) (all.each other h)

-- nothing is kept: no bins, none counted
kept_nothing : (fscod slot : ℕ) (row : List ℤ) → KeptOf fscod slot nothing row
unfolding counted_all
kept_nothing fscod slot row = rw (allocation_none bap row (parameters_by fscod slot (λ i. get_or nothing i 0)) zero-le)

pub kept_none : (fscod : ℕ) (exps : List (List ℤ)) → Kept fscod (replicate 7 nothing) exps
kept_none fscod exps = record { seven = refl; each = λ slot h. rw (filled_entry 7 slot nothing [] h) (kept_nothing fscod slot (get_or exps slot [])) }
  where
    filled_entry : {A : Type 0} (n k : ℕ) (d e : A) → k < n → get_or (replicate n d) k e ≡ d
    filled_entry zero k d e h = absurd (not-suc-le-zero h)
    filled_entry (suc n) zero d e h = refl
    filled_entry (suc n) (suc k) d e h = filled_entry n k d e (le_of_suc-le-suc h)

-- exponents that are as they were leave what is kept of them true
pub kept_unless_new : {fscod : ℕ} {s : Strategies} {memos : List (List ℕ)} {before after : List (List ℤ)}
    → Kept fscod memos before → Keeps (ReusedBy s) before after → KeptUnlessNew fscod s memos after
kept_unless_new all same = record { seven = all.seven; each = λ slot h reused. rw (same.each slot reused) (all.each slot h) }

-- ---- what is new is forgotten, slot by slot

reused : (strategy : ℕ) → is_new strategy ≡ false → strategy ≡ 0
reused strategy e = go (eqb strategy 0) refl
  where
    go : (b : Bool) → eqb strategy 0 ≡ b → strategy ≡ 0
    go true t = eqb-true strategy 0 t
    go false t = absurd (true≢false (rw t at e))

-- the slots before one are done: what is kept of them is true; of the others it is true where the block has no new exponents
pub record KeptBefore (fscod done : ℕ) (s : Strategies) (memos : List (List ℕ)) (exps : List (List ℤ)) : Type 0 where
  pub seven : length memos ≡ 7
  pub each : (slot : ℕ) → slot < 7 → (slot < done) ⊎ ReusedBy s slot → KeptOf fscod slot (get_or memos slot []) (get_or exps slot [])

module _ {fscod : ℕ} {s : Strategies} {memos : List (List ℕ)} {exps : List (List ℤ)} where
  pub none_done : KeptUnlessNew fscod s memos exps → KeptBefore fscod 0 s memos exps
  none_done h = record { seven = h.seven; each = λ slot p. ⊎_elim (λ q. absurd (omega arith)) (h.each slot p) }

  pub all_done : {done : ℕ} → 7 ≤ done → KeptBefore fscod done s memos exps → Kept fscod memos exps
  all_done g h = record { seven = h.seven; each = λ slot p. h.each slot p (inl (omega arith)) }

  module _ {done : ℕ} (h : KeptBefore fscod done s memos exps) (here : done < 7) where
    -- what holds of the slots before one, and there, holds before the next
    one_done : (memo : List ℕ) → KeptOf fscod done memo (get_or exps done []) → KeptBefore fscod (done + 1) s (set memos done memo) exps
    one_done memo k = record { seven = length-set memos done memo ∙ h.seven; each = λ slot p q. go slot p q (eqb slot done) refl }
      where
        go : (slot : ℕ) → slot < 7 → (slot < done + 1) ⊎ ReusedBy s slot → (b : Bool) → eqb slot done ≡ b
            → KeptOf fscod slot (get_or (set memos done memo) slot []) (get_or exps slot [])
        go slot p q true t = rw (eqb-true slot done t, get_or-set_same memos done memo [] (rw h.seven here)) k
        go slot p q false t =
            let other : slot ≡ done → ⊥ = eqb-false slot done t in
            rw (get_or-set_other memos done slot memo [] other) (h.each slot p (⊎_elim (λ l. inl (omega arith)) inr q))

    pub slot_forgotten : KeptBefore fscod (done + 1) s (set memos done nothing) exps
    slot_forgotten = one_done nothing (kept_nothing fscod done (get_or exps done []))

    pub slot_left : is_new (strategy_of s done) ≡ false → KeptBefore fscod (done + 1) s memos exps
    slot_left e = record { seven = h.seven; each = λ slot p q. go slot p q (eqb slot done) refl }
      where
        go : (slot : ℕ) → slot < 7 → (slot < done + 1) ⊎ ReusedBy s slot → (b : Bool) → eqb slot done ≡ b → KeptOf fscod slot (get_or memos slot []) (get_or exps slot [])
        go slot p q true t = rw (eqb-true slot done t) (h.each done here (inr (reused (strategy_of s done) e)))
        go slot p q false t =
            let other : slot ≡ done → ⊥ = eqb-false slot done t in
            h.each slot p (⊎_elim (λ l. inl (omega arith)) inr q)
